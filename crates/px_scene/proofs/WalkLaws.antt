-- Lines none of which is bad, one after another, as they are written, and what they come to.
use Rattle.px_num.proofs.Basics.{arith, ◌≡◌, ℕ, ◌≤◌, ◌^◌, List, [], ◌∷◌, ◌++◌, length, map, Bool, true, false}
use Rattle.px_num.proofs.Basics.{if◌then◌else◌, None, Result, Ok, Err, refl, ap, sym, ◌∙◌, append_assoc, append-nil}
use Rattle.px_num.proofs.Basics.{list_all}
use Rattle.px_scene.proofs.CanonicalWords.{are_plain, blank, both, draft_of, DraftView, drawn, fault_by, fault_in}
use Rattle.px_scene.proofs.CanonicalWords.{first_bad, is_plain, IsReadAs, taken, taken_by, worded, Words, words_of}
use Rattle.px_show.specs.declared.fault.Cause.{Cause}
use Rattle.px_text.proofs.SpacedLaws.{lines_read, words_read}
use Rattle.px_scene.specs.Lines.{Form, form_of, is_due, keyword_of}
use Rattle.px_scene.specs.Reading.{fault_behind, is_nothing}
use Rattle.px_scene.proofs.DraftLaws.{says_more, short}
use Rattle.px_scene.proofs.WrittenLaws.{bare, bare_fed, has_no_feed, is_written, text_of_lines, words_behind}

pub record IsGood (draft : DraftView) (l : Words) : Type 0 where
  pub fed : has_no_feed (bare l) ≡ true
  pub good : fault_in draft (words_behind l) ≡ None

-- from one draft to another by good lines
abbrev pub Walk : DraftView → List Words → DraftView → Type 0
Walk draft [] last = draft ≡ last
Walk draft (l ∷ ls) last = IsGood draft l × Walk (taken draft (words_behind l)) ls last

pub walk_both : (first middle last : DraftView) (ls ms : List Words) → Walk first ls middle → Walk middle ms last
    → Walk first (ls ++ ms) last
walk_both first middle last [] ms one two = rw one two
walk_both first middle last (l ∷ ls) ms one two =
    (one.0, walk_both (taken first (words_behind l)) middle last ls ms one.1 two)

by_due : (due : Bool) (r : Result Form Cause) (cause : Cause) (form : Form) → due ≡ true → r ≡ Ok form
    → (if due then r else Err cause) ≡ Ok form
by_due true r cause form due is = is
by_due false r cause form due is = cc

-- a line that is expected, whose words are of a form without a fault
pub line_walk : (draft : DraftView) (l : Words) (w : List ℕ) (ws : Words) (form : Form) → has_no_feed (bare l) ≡ true
    → words_behind l ≡ w ∷ ws → is_due draft.due (keyword_of w) ≡ true
    → form_of draft.version (keyword_of w) ws ≡ Ok form → fault_by draft (Ok form) ≡ None
    → Walk draft (l ∷ []) (taken_by draft (Ok form))
line_walk draft l w ws form fed words due reads none = grind (arith, by_due)

-- the same of plain words
pub form_walk : (draft : DraftView) (w : List ℕ) (ws : Words) (form : Form) → is_written (w ∷ ws) ≡ true
    → is_due draft.due (keyword_of w) ≡ true → form_of draft.version (keyword_of w) ws ≡ Ok form
    → fault_by draft (Ok form) ≡ None → Walk draft ((w ∷ ws) ∷ []) (taken_by draft (Ok form))
form_walk draft w ws form plain due reads none =
    let each = both (is_plain w) (are_plain ws) plain
    in line_walk draft (w ∷ ws) w ws form (bare_fed (w ∷ ws) plain) (words_read w ws each.0 each.1) due reads none

record IsWalked (before ls : List Words) (last : DraftView) : Type 0 where
  fed : list_all has_no_feed (map bare ls) ≡ true
  good : first_bad fault_behind before (map words_of (map bare ls)) ≡ None
  says : last ≡ draft_of (before ++ map words_of (map bare ls))

walked : (draft last : DraftView) (before ls : List Words) → draft ≡ draft_of before → Walk draft ls last
    → IsWalked before ls last
walked draft last before [] says walk = grind (arith, append-nil)
walked draft last before (l ∷ ls) says walk =
    grind (
      arith,
      words_behind,
      bare,
      append_assoc,
      walked (taken draft (words_behind l)) last (before ++ (words_behind l) ∷ []) ls
          (says_more draft before (words_behind l) says) walk.1,
    )

pub read_by_walk : (text : List ℕ) (ls : List Words) (last : DraftView) → text ≡ text_of_lines ls
    → length text ≤ 2 ^ 20 → Walk blank ls last → is_nothing last.due ≡ true → IsReadAs text (drawn last)
read_by_walk text ls last is few walk ended =
    let all = walked blank last [] ls refl walk
    in let words : worded text ≡ map words_of (map bare ls) =
    ap worded is ∙ ap (map words_of) (lines_read (map bare ls) all.fed)
    in let says : last ≡ draft_of (worded text) = all.says ∙ ap draft_of (sym words)
    in let good : first_bad fault_behind [] (worded text) ≡ None = ap (first_bad fault_behind []) words ∙ all.good
    in let due : is_nothing last.due ≡ is_nothing (draft_of (worded text)).due =
    ap (λ (d : DraftView). is_nothing d.due) says
    in grind (arith, short)
