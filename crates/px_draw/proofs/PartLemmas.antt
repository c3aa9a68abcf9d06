-- The scene part of bytes that were read, with more behind them, and what is refused for it.
use Rattle.px_num.proofs.Basics.{ℕ, ◌≡◌, ◌+◌, ◌-◌, ◌<◌, ◌≤◌, ◌++◌, ◌&&◌, not, inl, inr, List, [], drop, length, min}
use Rattle.px_num.proofs.Basics.{take, true, false, Bool, unwrap_or, Option, Some, None, is_some, refl, ap, sym, ◌∙◌}
use Rattle.px_num.proofs.Basics.{arith, append-nil, cases_lt, length-append, take_all, take_min, take-append-le}
use Rattle.px_num.proofs.Basics.{take-append-add, drop-append-le}
use Rattle.std.proofs.Math.Seq.{drop-length}
use Rattle.px_asked.specs.PartLaws.{PartIsKept, PartIsWithin}
use Rattle.px_asked.specs.Parts.{behind_part, holds_part, part_end, scene_part}
use Rattle.px_asked.specs.declared.reading.Opening.{Opening}
use Rattle.px_scene.specs.Scenes.{SceneView}
use Rattle.px_scene.specs.Text.{worded}
use Rattle.px_scene.specs.Reading.{scene_of}
use Rattle.px_debug.specs.Servings.{seen}
use Rattle.px_commands.specs.declared.refusal.Refusal.{Refusal}
use Rattle.px_commands.specs.declared.stop.SceneStop.{SceneStop}
use Rattle.px_commands.specs.Outcomes.{Outcome, done, drawable, refusal, refused, unless_refused}
use Rattle.px_commands.specs.Refusals.{is_long, text_refusal, too_long}
use Rattle.px_commands.specs.Stops.{StopsAt}
use Rattle.px_commands.proofs.LimitLaws.{long_is, short_is}
use Rattle.px_draw.specs.Debugs.{admitted, answered, command_text, debugged, has_part, part_scene, scene_part_of}
use Rattle.px_draw.specs.Debugs.{scene_written, within_limit}
use Rattle.px_draw.specs.Sittings.{Grown, IsOpening, IsSceneOf, IsShort, Refuses, more_than}
use Rattle.px_commands.specs.declared.stop.SceneStop.TheVariants as halted

pub cut_both : (n : ℕ) (xs ys : List ℕ) → take n (xs ++ ys) ≡ take n xs ++ take (n - length xs) ys
cut_both n xs ys = elim (cases_lt n (length xs)) [
  | inl less ↦ grind (arith, take-append-le, append-nil)
  | inr more ↦ (
      let is : n ≡ length xs + (n - length xs) = omega arith in
      ap (λ k. take k (xs ++ ys)) is ∙ take-append-add xs ys (n - length xs)
      ∙ ap (λ t. t ++ take (n - length xs) ys) (sym (take_all n xs (omega arith))))
]

pub within_both : (text z : List ℕ) → within_limit (text ++ z) ≡ within_limit text ++ seen (more_than text) z
within_both text z = simp (length, cut_both, within_limit, take) (grind arith)

pub and_not : (a b : Bool) → b ≡ true → (a && not b) ≡ false
and_not true b is = rw is refl
and_not false b is = refl

-- a scene part that is whole
grown_whole : PartIsKept → (o : Opening) (more : List ℕ) (n : ℕ) → n ≤ length (within_limit o.text.items)
    → part_end (within_limit o.text.items) ≡ Some n → o.part ≡ Some n → Grown o more
unfolding scene_part_of has_part command_text
grown_whole kept o more n less is named =
    let w = within_limit o.text.items in
    let x = seen (more_than o.text.items) more in
    let both : within_limit (o.text.items ++ more) ≡ w ++ x = within_both o.text.items more in
    let end : part_end (w ++ x) ≡ Some n = kept w x n is in
    record {
      part = ap scene_part both ∙ rw (end, is) (take-append-le n w x less);
      behind = ap behind_part both ∙ rw (end, is) (drop-append-le n w x less);
      whole = ap holds_part both ∙ ap is_some (end ∙ sym named);
      within = and_not (is_long (o.text.items ++ more)) (has_part (o.text.items ++ more))
          (ap holds_part both ∙ ap is_some end);
    }

-- and one that is the whole input
grown_all : (o : Opening) (more : List ℕ) → more ≡ [] → length o.text.items < 1048577
    → part_end (within_limit o.text.items) ≡ None → o.part ≡ None → Grown o more
unfolding has_part
grown_all o more nothing short none named = grind (arith, append-nil, seen, more_than, take_all, scene_part_of, command_text, has_part, is_some, is_long, short_is)

pub is_opening : PartIsKept → PartIsWithin → (o : Opening) → length o.text.items ≤ 1048577
    → o.part ≡ part_end (within_limit o.text.items) → IsOpening o
is_opening kept within o few part = by_end o.part refl
  where
    by_end : (end : Option ℕ) → o.part ≡ end → IsOpening o
    by_end (Some n) is =
        let less = within (within_limit o.text.items) n (sym part ∙ is) in
        record {
          few = few;
          part = part;
          within = rw is less;
          grown = λ short more follows. grown_whole kept o more n less (sym part ∙ is) is;
        }
    by_end None is = record {
      few = few;
      part = part;
      within = rw is (omega arith);
      grown = λ short more follows. grown_all o more (follows is (short is)) (short is) (sym part ∙ is) is;
    }

-- the parts of the bytes that count
pub within_is : (text xs : List ℕ) (k : ℕ) → xs ≡ text → k ≡ min (length text) 1048576 → take k xs ≡ within_limit text
within_is text xs k same count = rw same (ap (λ n. take n text) (count ∙ (omega arith)) ∙ take_min 1048576 text)

pub part_is : (o : Opening) (w : List ℕ) (n : ℕ) → IsOpening o → w ≡ within_limit o.text.items
    → n ≡ unwrap_or o.part (length w) → take n w ≡ scene_part_of o.text.items
unfolding scene_part_of
part_is o w n opening counted cut = rw (cut, counted, opening.part) refl

pub scene_is : (o : Opening) (w : List ℕ) (n : ℕ) (scene : SceneView) → IsOpening o → IsShort o
    → w ≡ within_limit o.text.items → n ≡ unwrap_or o.part (length w)
    → (text_refusal (take n w) ≡ None) × (scene ≡ scene_of (worded (take n w))) → IsSceneOf o scene (drop n w)
unfolding command_text scene_written
scene_is o w n scene h p q r zz5 = grind (arith, part_is, drop-length)

-- the outcome of bytes whose scene part is whole, or that are not past the limit
pub debugged_is : (bytes : List ℕ) (bits : ℕ) → (is_long bytes && not (has_part bytes)) ≡ false → debugged bytes bits
    ≡ admitted (scene_part_of bytes) bits (answered bytes bits)
unfolding debugged
debugged_is bytes bits whole = rw whole refl

pub admitted_is : (o : Opening) (bits : ℕ) (scene : SceneView) (read : List ℕ) (outcome : Outcome)
    → IsSceneOf o scene read → admitted (scene_part_of o.text.items) bits outcome ≡ drawable bits scene outcome
unfolding admitted
admitted_is o bits scene read outcome is = grind (arith, unless_refused, drawable, part_scene)

-- a refusal of a scene part which is not whole within the limit
pub long_refuses : (bits : ℕ) (o : Opening) → IsOpening o → o.part ≡ None → length o.text.items ≡ 1048577
    → Refuses bits o (halted.Refused too_long)
unfolding debugged has_part
long_refuses bits o opening none full more follows = grind (arith, length, within_both, take, append-nil, false, is_some, long_is, length-append)

-- of one that is no scene's
refused_for : (why : Option Refusal) (reason : Refusal) (o : Outcome)
    → refusal (unless_refused why (done [])) ≡ Some reason → unless_refused why o ≡ refused reason
refused_for None reason o is = cc
refused_for (Some found) reason o is = ap (λ why. unless_refused why o) is

pub text_refuses : (bits : ℕ) (o : Opening) (stop : SceneStop) (part : List ℕ) → IsOpening o → IsShort o
    → part ≡ scene_part_of o.text.items → StopsAt (unless_refused (text_refusal part)) stop → Refuses bits o stop
unfolding admitted
text_refuses bits o (halted.Memory _) part opening short is bad = tt
text_refuses bits o (halted.Refused reason) part opening short is bad = λ more follows.
    let bytes = o.text.items ++ more in
    let grown = opening.grown short more follows in
    debugged_is bytes bits grown.within ∙ ap (λ p. admitted p bits (answered bytes bits)) (grown.part ∙ sym is)
    ∙ refused_for (text_refusal part) reason (drawable bits (scene_written part) (answered bytes bits)) (bad (done []))

-- and of a scene that the array cannot draw, which is one for any outcome
not_drawn : (bits : ℕ) (scene : SceneView) (reason : Refusal) (o : Outcome)
    → refusal (drawable bits scene (done [])) ≡ Some reason → drawable bits scene o ≡ refused reason
not_drawn bits scene reason o = grind arith

pub scene_refuses : (bits : ℕ) (o : Opening) (stop : SceneStop) (scene : SceneView) (read : List ℕ) → IsOpening o
    → IsSceneOf o scene read → StopsAt (drawable bits scene) stop → Refuses bits o stop
scene_refuses bits o (halted.Memory _) scene read opening is stops = tt
scene_refuses bits o (halted.Refused reason) scene read opening is stops = λ more follows.
    let bytes = o.text.items ++ more in
    let grown = opening.grown is.short more follows in
    debugged_is bytes bits grown.within ∙ ap (λ p. admitted p bits (answered bytes bits)) grown.part
    ∙ admitted_is o bits scene read (answered bytes bits) is
    ∙ not_drawn bits scene reason (answered bytes bits) (stops (done []))
