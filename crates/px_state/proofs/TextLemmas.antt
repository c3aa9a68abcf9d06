-- What a text broadcasts, or why it is refused, by its first word.
use Rattle.px_state.proofs.Cited.{ap, false, fault_of_scene, inl, inr, IsRefusedBy, length, List, list_fault, ListFault}
use Rattle.px_state.proofs.Cited.{listing_of, lt-ltb, lt_false, MAX_TEXT_BYTES, Option, option_map, option_or}
use Rattle.px_state.proofs.Cited.{passes_listing, past_text_limit, refl, refusal_by_bits, scene_of, Some, true, want}
use Rattle.px_state.proofs.Cited.{worded, ℕ, ◌<◌, ◌≡◌, ◌≤◌, ◌⊎◌}
use Rattle.px_scene.specs.Reading as reading
use Rattle.px_show.specs.declared.fault.TextFault.TheVariants as text_fault
use Rattle.px_listing.specs.Reading as listing
use Rattle.px_state.specs.Refusals.{course_of, is_listing}
use Rattle.px_state.specs.Refusals.{input_refusal}

pub long_text : (bits : ℕ) (text : List ℕ) → MAX_TEXT_BYTES < length text
    → IsRefusedBy past_text_limit (input_refusal bits text)
unfolding input_refusal
long_text bits text long = inr (rw (lt-ltb MAX_TEXT_BYTES (length text) long) refl)

pub list_text : (bits : ℕ) (text : List ℕ) → length text ≤ MAX_TEXT_BYTES → is_listing text ≡ true
    → input_refusal bits text ≡ option_map list_fault (listing.listing_refusal_of bits text)
unfolding input_refusal
list_text bits text short flagged = rw (lt_false MAX_TEXT_BYTES (length text) short, flagged) refl

pub scene_text : (bits : ℕ) (text : List ℕ) → length text ≤ MAX_TEXT_BYTES → is_listing text ≡ false
    → input_refusal bits text
    ≡ option_or (option_map fault_of_scene (reading.refusal_of text)) (refusal_by_bits bits (scene_of (worded text)))
unfolding input_refusal
scene_text bits text short flagged = rw (lt_false MAX_TEXT_BYTES (length text) short, flagged) refl

pub list_course : (text : List ℕ) → is_listing text ≡ true → course_of text ≡ listing_of (worded text)
unfolding course_of
list_course text flagged = rw flagged refl

pub scene_course : (text : List ℕ) → is_listing text ≡ false → course_of text ≡ passes_listing (scene_of (worded text))
unfolding course_of
scene_course text flagged = rw flagged refl

pub list_refused : (fault : ListFault) (refusal : Option ListFault) → (fault ≡ text_fault.Memory want)
    ⊎ (refusal ≡ Some fault)
    → IsRefusedBy (list_fault fault) (option_map list_fault refusal)
list_refused fault refusal (inl memory) = inl (ap list_fault memory)
list_refused fault refusal (inr is) = inr (ap (option_map list_fault) is)
