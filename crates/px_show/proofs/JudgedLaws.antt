-- Lines that are judged one after another, until one is bad.
use Rattle.px_num.proofs.Basics.{nat_tests, common_steps, ◌≡◌, ◌≢◌, ℕ, ◌+◌, ◌<◌, ◌≤◌, List, [], ◌∷◌, ◌++◌, length}
use Rattle.px_num.proofs.Basics.{take, drop, get_or, Option, Some, None, Bool, true, false, refl, ap, ◌∙◌, arith}
use Rattle.px_num.proofs.Basics.{length-take, take_more, drop_more, drop_all}
use Rattle.px_show.proofs.Words.{at_line, first_bad, LineFault, refused, Words}
use Rattle.px_num.specs.Want.{want}
use Rattle.px_show.specs.declared.fault.LineFault.TheVariants as f
use Rattle.px_show.specs.declared.fault.TextFault.TheVariants as text

-- none of the lines before this one is bad
abbrev pub AreGood : {F : Type 0} → (List Words → Words → Option F) → List Words → (i : ℕ) → Type 0
AreGood judge lines i = first_bad judge [] lines ≡ first_bad judge (take i lines) (drop i lines)

-- the line that is judged next
here : {F : Type 0} (judge : List Words → Words → Option F) (lines : List Words) (i : ℕ) (l : Words) → i < length lines
    → get_or lines i [] ≡ l → first_bad judge (take i lines) (drop i lines) ≡ at_line (length (take i lines) + 1)
    (judge (take i lines) l) (first_bad judge (take i lines ++ l ∷ []) (drop (i + 1) lines))
here judge lines i l lt is =
    ap (first_bad judge (take i lines)) (drop_more lines i [] lt ∙ ap (λ x. x ∷ drop (i + 1) lines) is)

pub one_more : (lines : List Words) (i : ℕ) (l : Words) → i < length lines → get_or lines i [] ≡ l
    → take (i + 1) lines ≡ take i lines ++ l ∷ []
one_more lines i l lt is = take_more lines i [] lt ∙ ap (λ x. take i lines ++ x ∷ []) is

pub good_next : {F : Type 0} (judge : List Words → Words → Option F) (lines : List Words) (i : ℕ) (l : Words)
    → AreGood judge lines i → i < length lines → get_or lines i [] ≡ l → judge (take i lines) l ≡ None
    → AreGood judge lines (i + 1)
good_next judge lines i l so lt is none = grind (arith, nat_tests, common_steps, here, one_more)

pub first_is : {F : Type 0} (judge : List Words → Words → Option F) (lines : List Words) (i : ℕ) (l : Words) (fault : F)
    → AreGood judge lines i → i < length lines → get_or lines i [] ≡ l → judge (take i lines) l ≡ Some fault
    → first_bad judge [] lines ≡ Some (i + 1, fault)
first_is judge lines i l fault so lt is bad = grind (arith, nat_tests, common_steps, here, length-take)

pub all_good : {F : Type 0} (judge : List Words → Words → Option F) (lines : List Words) (i : ℕ)
    → AreGood judge lines i → length lines ≤ i → first_bad judge [] lines ≡ None
all_good judge lines i so past = so ∙ ap (first_bad judge (take i lines)) (drop_all i lines past)

-- where none is bad, neither this one is nor a later one
pub none_here : {F : Type 0} (n : ℕ) (fault : Option F) (later : Option (ℕ × F)) → at_line n fault later ≡ None
    → (fault ≡ None) × (later ≡ None)
none_here n x later e = grind arith

-- where a text is not refused, no line is bad and its end has come
pub not_refused : {K : Type 0} (bad : Option (ℕ × LineFault K)) (ended : Bool) (count : ℕ)
    → refused bad ended count ≡ None → (bad ≡ None) × (ended ≡ true)
not_refused (Some bad) ended count e = cc
not_refused None true count e = (refl, refl)
not_refused None false count e = cc

-- no text is refused because memory runs out
pub not_memory : {K : Type 0} (bad : Option (ℕ × LineFault K)) (ended : Bool) (count : ℕ)
    → refused bad ended count ≢ Some (text.Memory want)
not_memory (Some (line, f.Malformed cause)) ended count e = cc
not_memory (Some (line, f.Limit kind found)) ended count e = cc
not_memory None true count e = cc
not_memory None false count e = cc
