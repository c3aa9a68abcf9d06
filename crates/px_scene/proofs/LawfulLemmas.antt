-- A draft is lawful after each good line.
use Rattle.px_num.proofs.Basics.{suc, ◌≡◌, ℕ, ℤ, ◌+◌, ◌≤◌, List, [], ◌∷◌, length, Bool, true, false, refl, ap, arith}
use Rattle.px_num.proofs.Basics.{length-append, Option, Some, None, Result, Err, subst, add-zero, if◌then◌else◌}
use Rattle.px_num.proofs.Basics.{length-map, map-append, sum_by-append}
use Rattle.px_scene.proofs.Words.{CanBeTaken, Cause, depth, depth_past, DraftView, face_of, faces_in, fault_by}
use Rattle.px_scene.proofs.Words.{fault_in, Form, form_of, is_among, is_begun, is_due, is_name, IsLawfulDraft}
use Rattle.px_scene.proofs.Words.{IsNumberedFrom, Keyword, keyword_of, LimitKind, LineFault, names_of, none_first}
use Rattle.px_scene.proofs.Words.{none_second, not_due, Paint, Plane, show_cause, show_tree, solid, SolidView, taken}
use Rattle.px_scene.proofs.Words.{taken_by, tally_of, with_back, with_form, with_front, with_last, with_side, Words}
use Rattle.px_show.proofs.FaultLaws.{good_form}
use Rattle.px_show.proofs.ShowLaws.{shown_lawful, named_show}
use Rattle.px_scene.proofs.FormLemmas.{HoldsOfForms, by_form}
use Rattle.px_scene.proofs.NameLaws.{names_push}
use Rattle.px_scene.proofs.NumberLemmas.{numbered_front, numbered_back, numbered_push}
use Rattle.px_scene.proofs.TakenLemmas.{numbered_last, faces_of-with_last, names_with_last, SolidRoom, size_within}
use Rattle.px_scene.proofs.TakenLemmas.{fraction_within, face_room, begun_front, begun_back, begun_side, begun_end}
use Rattle.px_scene.proofs.TakenLemmas.{ended_end, last_can_take, at_most}
use Rattle.px_show.specs.declared.fault.LimitKind.TheVariants as kind
use Rattle.px_scene.specs.declared.line.Due.TheVariants as d

pub length-with_last : (change : SolidView → SolidView) (ss : List SolidView) → length (with_last change ss) ≡ length ss
length-with_last change [] = refl
length-with_last change (s ∷ []) = refl
length-with_last change (s ∷ t ∷ ss) = ap suc (length-with_last change (t ∷ ss))

-- one more plane behind the last solid's
record Grows (number more : ℕ) (change : SolidView → SolidView) : Type 0 where
  name : (s : SolidView) → (change s).name ≡ s.name
  faces : (s : SolidView) → faces_in (change s) ≡ faces_in s + more
  numbers : (first : ℕ) (s : SolidView) → first + faces_in s ≡ number → IsNumberedFrom first s
      → IsNumberedFrom first (change s)

lawful_plane : (draft : DraftView) (more : ℕ) (change : SolidView → SolidView) → IsLawfulDraft draft
    → is_begun draft.due ≡ true → draft.numbered + more ≤ 4095
    → Grows (1 + draft.numbered) more change
    → IsLawfulDraft (record draft {
      due = d.Plane;
      numbered = draft.numbered + more;
      solids = with_last change draft.solids;
    })
lawful_plane draft more change is begun room grows =
    let some = is.timely.begun begun
    in let are = is.solids
    in let same = names_with_last change grows.name draft.solids
    in record {
      sizes = is.sizes;
      solids = record {
        few = let few = are.few in omega (arith, length-with_last change draft.solids);
        names = rw same are.names;
        different = rw same are.different;
        numbers = numbered_last change 1 draft.solids are.numbers some
            (λ n s e lawful. grows.numbers n s (let count = are.count in omega (arith, e)) lawful);
        count = let count = are.count in omega (arith, faces_of-with_last change more grows.faces draft.solids some);
        faces = room;
      };
      timely = record { begun = λ _. omega (arith, length-with_last change draft.solids); shown = λ e. cc };
    }

front_grows : (number : ℕ) (p : Plane) → Grows number 1 (with_front number p)
front_grows number p = record {
  name = λ s. refl;
  faces = λ s. omega (arith, length-append s.fronts (face_of s.colour number p ∷ []));
  numbers = λ first s e is. numbered_front first s (face_of s.colour number p) is (omega arith);
}

back_grows : (number : ℕ) (p : Plane) → Grows number 1 (with_back number p)
back_grows number p = record {
  name = λ s. refl;
  faces = λ s. omega (arith, length-append s.backs (face_of s.colour number p ∷ []));
  numbers = λ first s e is. numbered_back first s (face_of s.colour number p) is (omega arith);
}

lawful_depth : (draft : DraftView) (bits : ℤ) (fraction : Option ℤ) → IsLawfulDraft draft
    → depth_past bits fraction ≡ None → IsLawfulDraft (record (with_form draft (depth bits fraction)) { due = d.Solid })
lawful_depth draft bits x is e = grind (arith, size_within, none_first, fraction_within, none_second)

lawful_solid : (draft : DraftView) (name : List ℕ) (paint : Paint) → IsLawfulDraft draft → is_name name ≡ true
    → is_among (names_of draft.solids) name ≡ false → SolidRoom (length draft.solids) draft.numbered
    → IsLawfulDraft (record (with_form draft (solid name paint)) { due = d.Plane })
lawful_solid draft name paint is lawful other room =
    grind (arith, names_push, map-append, length-append, numbered_push, sum_by-append)

pub lawful_show : (draft : DraftView) (ws : Words) → IsLawfulDraft draft
    → show_cause draft.version (names_of draft.solids) ws ≡ None
    → IsLawfulDraft (record draft { due = d.End; show = show_tree draft.version (names_of draft.solids) ws })
lawful_show draft ws is good = record {
  sizes = is.sizes;
  solids = is.solids;
  timely = record {
    begun = λ b. let some = named_show draft.version (names_of draft.solids) ws good in
        omega (arith, length-map draft.solids (λ s. s.name));
    shown = λ e. rw (← length-map draft.solids (λ s. s.name)) (shown_lawful draft.version (names_of draft.solids)
        ws good);
  };
}

-- a name that does not stand yet, and no limit passed
pub new_name : (among : Bool) (bad : LineFault LimitKind) (rest : Option (LineFault LimitKind))
    → (if among then Some bad else rest) ≡ None → (among ≡ false) × (rest ≡ None)
new_name false bad rest e = (refl, e)
new_name true bad rest e = cc

-- a line that is expected and has no fault leaves the draft lawful
module _ (draft : DraftView) (is : IsLawfulDraft draft) where
  abbrev Lawful : Keyword → Result Form Cause → Type 0
  Lawful key r = is_due draft.due key ≡ true → fault_by draft r ≡ None → IsLawfulDraft (taken_by draft r)

  forms : HoldsOfForms Lawful
  forms = record {
    bad = λ key cause due none. cc;
    header = grind arith;
    picture = λ w h due none. grind (arith, size_within, none_first, none_second);
    depth = λ bits fraction due none. lawful_depth draft bits fraction is none;
    solid = λ name paint named due none.
        let good = new_name (is_among (names_of draft.solids) name) _ _ none in
        lawful_solid draft name paint is named good.0 (grind (arith, none_first, at_most, none_second));
    front = λ plane due none.
        let room = face_room kind.Fronts (tally_of draft).fronts draft.numbered plane none in
        lawful_plane draft 1 (with_front (draft.numbered + 1) plane) is (begun_front draft.due due)
        (let next = room.next in omega arith)
        (subst (λ (n : ℕ). Grows n 1 (with_front (draft.numbered + 1) plane)) (omega arith)
        (front_grows (draft.numbered + 1) plane));
    back = λ plane due none.
        let room = face_room kind.Backs (tally_of draft).backs draft.numbered plane none in
        lawful_plane draft 1 (with_back (draft.numbered + 1) plane) is (begun_back draft.due due)
        (let next = room.next in omega arith)
        (subst (λ (n : ℕ). Grows n 1 (with_back (draft.numbered + 1) plane)) (omega arith)
        (back_grows (draft.numbered + 1) plane));
    side = λ form due none. rw (← add-zero draft.numbered) (lawful_plane draft 0 (with_side form) is
        (begun_side draft.due due) (let faces = is.solids.faces in omega arith) (grind arith));
    show = λ ws due none. lawful_show draft ws is (good_form _ _ none);
    end = grind (arith, begun_end, ended_end);
  }

-- what holds of a form that is expected and has no fault holds of the line
pub with_due : (P : Result Form Cause → Type 0) (draft : DraftView) (key : Keyword) (r : Result Form Cause)
    → (is_due draft.due key ≡ true → fault_by draft r ≡ None → P r)
    → fault_by draft (if is_due draft.due key then r else Err (not_due draft.due)) ≡ None
    → P (if is_due draft.due key then r else Err (not_due draft.due))
with_due P draft key r step = grind arith

pub lawful_line : (draft : DraftView) (w : List ℕ) (ws : Words) → IsLawfulDraft draft → fault_in draft (w ∷ ws) ≡ None
    → IsLawfulDraft (taken draft (w ∷ ws))
lawful_line draft w ws is none =
    with_due (λ r. IsLawfulDraft (taken_by draft r)) draft (keyword_of w) (form_of draft.version (keyword_of w) ws)
    (by_form (Lawful draft is) (forms draft is) draft.version (keyword_of w) ws) none

pub can_be_taken : (draft : DraftView) → IsLawfulDraft draft → is_begun draft.due ≡ true
    → CanBeTaken draft.numbered draft.solids
can_be_taken draft is begun = grind (arith, last_can_take)
