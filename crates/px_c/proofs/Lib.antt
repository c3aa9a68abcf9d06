pub mod AnswerLemmas
pub mod BufferLemmas
pub mod FaceLemmas
pub mod RoomLemmas
pub mod RunLemmas
pub mod StateLemmas
pub mod WindowLemmas
