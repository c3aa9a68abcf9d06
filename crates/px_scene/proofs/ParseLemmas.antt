-- A line without a fault, as it is judged in two steps, leaves the draft lawful.
use Rattle.px_num.proofs.Basics.{arith}
use Rattle.px_num.proofs.Basics.{◌≡◌, ℕ, List, ◌∷◌, Option, Some, None, Ok, Bool, true, false, if◌then◌else◌, refl, ap}
use Rattle.px_num.proofs.Basics.{sym, ◌∙◌, subst, option_or}
use Rattle.px_scene.proofs.Words.{DraftView, Due, due_after, fault_by, fault_in, Form}
use Rattle.px_scene.proofs.Words.{form_in, IsLawfulDraft, LimitKind, LineFault}
use Rattle.px_scene.proofs.Words.{taken, taken_by, with_form, Words}
use Rattle.px_scene.proofs.LawfulLemmas.{lawful_line}
use Rattle.px_scene.specs.Parsed.{fault_left, fault_shown, malformed_or}
use Rattle.px_show.specs.declared.fault.Cause.TheVariants as c
use Rattle.px_show.specs.declared.fault.LineFault.TheVariants as f

or_none : {A : Type 0} (x : Option A) → option_or x None ≡ x
or_none None = refl
or_none (Some x) = refl

named : (among : Bool) (later : Option (LineFault LimitKind))
    → (if among then Some (f.Malformed c.SecondName) else later)
    ≡ option_or (malformed_or (if among then Some c.SecondName else None) later) None
named true later = refl
named false later = sym (or_none later)

-- all that is wrong with a line of good form
pub fault_is : (draft : DraftView) (form : Form)
    → fault_by draft (Ok form) ≡ option_or (fault_left draft form) (fault_shown draft form)
fault_is draft form = grind arith

-- what is found of the line
pub found : (draft : DraftView) (w : List ℕ) (ws : Words) (form : Form) → Ok form ≡ form_in draft w ws
    → fault_in draft (w ∷ ws) ≡ option_or (fault_left draft form) (fault_shown draft form)
found draft w ws form says = ap (fault_by draft) (sym says) ∙ fault_is draft form

-- a draft stays lawful over a line without a fault
pub lawful_with : (draft after : DraftView) (due : Due) (w : List ℕ) (ws : Words) (form : Form) → IsLawfulDraft draft
    → Ok form ≡ form_in draft w ws → fault_left draft form ≡ None → fault_shown draft form ≡ None
    → after ≡ with_form draft form → due ≡ due_after form → IsLawfulDraft (record after { due = due })
lawful_with draft after due w ws form is says left shown now next =
    let none : fault_in draft (w ∷ ws) ≡ None = found draft w ws form says ∙ rw (left, shown) refl
    in let same : taken draft (w ∷ ws) ≡ taken_by draft (Ok form) = ap (taken_by draft) (sym says)
    in rw (next, now) (subst IsLawfulDraft same (lawful_line draft w ws is none))
