-- The words of definitions, and the laws of crates below, that proofs here cite.
pub use Rattle.circular_buffer.specs.Buffer.{Buffer, buffer, keep_last}
pub use Rattle.px_array.specs.Arrays.{Device}
pub use Rattle.px_array.specs.Slots.{ArrayView}
pub use Rattle.px_array.specs.declared.micro.Micro.{Micro}
pub use Rattle.px_control.specs.Program.{array_after, ends_after, IsAt, program, total}
pub use Rattle.px_control.specs.Standing.{JobView, StandsFor}
pub use Rattle.px_control.specs.declared.place.Place.{Place}
pub use Rattle.px_debug.specs.Answers.{trace_text}
pub use Rattle.px_debug.specs.Courses.{IsOnCourse, IsSameCourse, IsTraced}
pub use Rattle.px_debug.specs.Marks.{AreMarked, HasMarks, HasSlots}
pub use Rattle.px_debug.specs.Moves.{after_ends, Fits, quarter_of, SessionView}
pub use Rattle.px_model.specs.Scenes.{SceneView}
pub use Rattle.std.proofs.lemmas.List.{get_or-drop, length-take}
