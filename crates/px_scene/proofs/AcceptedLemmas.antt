-- The scene of a text that is accepted: line by line its draft is lawful.
use Rattle.px_num.proofs.Basics.{◌≡◌, ℕ, ◌+◌, ◌-◌, ◌≤◌, List, [], ◌∷◌, ◌++◌, length, Bool, true, false, Option, Some}
use Rattle.px_num.proofs.Basics.{None, Result, All, IsSomeAnd, subst, sym, arith, nat_lt, unwrap_or, append_assoc}
use Rattle.px_num.proofs.Basics.{append-nil, if◌then◌else◌, slice_get, option_or}
use Rattle.px_scene.proofs.Words.{All-push, blank, Cause, colour_of, colour_past, draft_of, DraftView, Due}
use Rattle.px_scene.proofs.Words.{fault_behind, fault_by, fault_in, first_bad, Form, form_of, fresh_solid, is_among}
use Rattle.px_scene.proofs.Words.{is_due, is_ended, is_nothing, IsLawfulDraft, IsLawfulSolid, Keyword, keyword_of}
use Rattle.px_scene.proofs.Words.{lines_of, most, names_of, none_first, none_second, plane_past, refused, SceneFault}
use Rattle.px_scene.proofs.Words.{taken, taken_by, tally_of, worded, Words}
use Rattle.px_expr.specs.Tree.{HasLeavesBelow, Tree, leaf}
use Rattle.px_show.proofs.JudgedLaws.{none_here, not_refused}
use Rattle.px_scene.specs.AcceptedLaw.{AcceptedIsLawful}
use Rattle.px_scene.proofs.FormLemmas.{HoldsOfForms, by_form}
use Rattle.px_scene.proofs.DraftLaws.{draft_more}
use Rattle.px_scene.proofs.LawfulLemmas.{can_be_taken, lawful_line, new_name, with_due}
use Rattle.px_scene.proofs.SolidLemmas.{head_lawful, last_back, last_front, last_side, lawful_last}
use Rattle.px_scene.proofs.TakenLemmas.{at_most, begun_back, begun_front, face_room}
use Rattle.px_show.specs.declared.fault.LimitKind.TheVariants as kind

-- a line that is expected and has no fault leaves the solids lawful
module _ (draft : DraftView) (is : IsLawfulDraft draft) (all : All IsLawfulSolid draft.solids) where
  abbrev Lawful : Keyword → Result Form Cause → Type 0
  Lawful key r = is_due draft.due key ≡ true → fault_by draft r ≡ None → All IsLawfulSolid (taken_by draft r).solids

  forms : HoldsOfForms Lawful
  forms = record {
    bad = λ key cause due none. all;
    header = λ version due none. all;
    picture = λ w h due none. all;
    depth = λ bits fraction due none. all;
    solid = λ name paint named due none.
        let good = new_name (is_among (names_of draft.solids) name) _ _ none in
        let few = none_first (option_or (colour_past paint) (most kind.Solids 255 (length draft.solids + 1)))
        (most kind.Faces 4095 (draft.numbered + 1)) good.1 in
        All-push IsLawfulSolid draft.solids (fresh_solid name (draft.numbered + 1) (colour_of paint)) all
        (head_lawful name (draft.numbered + 1) paint
        (none_first (colour_past paint) (most kind.Solids 255 (length draft.solids + 1)) few));
    front = λ plane due none.
        let room = face_room kind.Fronts (tally_of draft).fronts draft.numbered plane none in
        lawful_last _ draft.solids
        (last_front (slice_get draft.solids (length draft.solids - 1)) (draft.numbered + 1) plane
        room.within room.room (can_be_taken draft is (begun_front draft.due due))) all;
    back = λ plane due none.
        let room = face_room kind.Backs (tally_of draft).backs draft.numbered plane none in
        lawful_last _ draft.solids
        (last_back (slice_get draft.solids (length draft.solids - 1)) (draft.numbered + 1) plane
        room.within room.room (can_be_taken draft is (begun_back draft.due due))) all;
    side = λ form due none.
        let few : (tally_of draft).sides + 1 ≤ 32 = at_most kind.Sides 32 ((tally_of draft).sides + 1)
        (none_second (plane_past form) _ none) in
        lawful_last _ draft.solids (last_side (slice_get draft.solids (length draft.solids - 1)) form
        (none_first (plane_past form) _ none) (omega (arith, few))) all;
    show = λ ws due none. all;
    end = λ due none. all;
  }

-- a draft that is lawful in all its parts
record IsKept (draft : DraftView) : Type 0 where
  lawful : IsLawfulDraft draft
  solids : All IsLawfulSolid draft.solids

kept_line : (draft : DraftView) (l : Words) → IsKept draft → fault_in draft l ≡ None → IsKept (taken draft l)
kept_line draft [] kept none = kept
kept_line draft (w ∷ ws) kept none = record {
  lawful = lawful_line draft w ws kept.lawful none;
  solids = with_due (λ r. All IsLawfulSolid (taken_by draft r).solids) draft (keyword_of w)
      (form_of draft.version (keyword_of w) ws)
      (by_form (Lawful draft kept.lawful kept.solids) (forms draft kept.lawful kept.solids) draft.version (keyword_of w)
      ws) none;
}

kept_all : (before rest : List Words) → IsKept (draft_of before) → first_bad fault_behind before rest ≡ None
    → IsKept (draft_of (before ++ rest))
kept_all before [] kept none = subst (λ ls. IsKept (draft_of ls)) (sym (append-nil before)) kept
kept_all before (l ∷ ls) kept none =
    let here = none_here (length before + 1) (fault_behind before l)
    (first_bad fault_behind (before ++ l ∷ []) ls) none in
    let one = subst IsKept (sym (draft_more before l)) (kept_line (draft_of before) l kept here.0) in
    subst (λ ls. IsKept (draft_of ls)) (append_assoc before (l ∷ []) ls) (kept_all (before ++ l ∷ []) ls one here.1)

ended_nothing : (due : Due) → is_nothing due ≡ true → is_ended due ≡ true
ended_nothing x e = grind arith

shown_leaves : (n : ℕ) (show : Option Tree) → IsSomeAnd show (HasLeavesBelow n)
    → HasLeavesBelow n (unwrap_or show (leaf 0))
shown_leaves n x is = grind arith

past_limit : (long : Bool) (why : SceneFault) (later : Option SceneFault) → (if long then Some why else later) ≡ None
    → later ≡ None
past_limit true why later e = cc
past_limit false why later e = e

pub accepted_lawful : AcceptedIsLawful
accepted_lawful text none =
    let lines = worded text in
    let later = past_limit (nat_lt 1048576 (length text)) _
    (refused (first_bad fault_behind [] lines) (is_nothing (draft_of lines).due) (length (lines_of text))) none in
    let good = not_refused (first_bad fault_behind [] lines) (is_nothing (draft_of lines).due) (length (lines_of text))
    later in
    let start : IsKept blank = record { lawful = grind arith; solids = λ i e lt. absurd (omega arith) } in
    let all = kept_all [] lines start good.0 in
    record { scene_is = grind (arith, shown_leaves, ended_nothing); solids = all.solids }
