-- A line that is not refused writes an operation that the pixels can carry out.
use Rattle.px_num.proofs.Basics.{◌≡◌, ℕ, ℤ, pos, ◌+◌, ◌^◌, ◌<◌, ◌≤◌, ◌≤ℤ◌, All, List, [], ◌∷◌, ◌++◌, length}
use Rattle.px_num.proofs.Basics.{Option, Some, None, IfOk, IfSome, Result, Ok, Err, sym, subst, arith, append_assoc}
use Rattle.px_num.proofs.Basics.{append-nil, option_or, ints, All-nil, All-push, fold-append}
use Rattle.px_listing.proofs.Words.{AreApart, AreOfOneLength, end_past, field_of, field_past, fields_past, first_bad}
use Rattle.px_listing.proofs.Words.{form_past, IsField, IsInTreeRange, IsLawful, Kind, ListForm}
use Rattle.px_listing.proofs.Words.{ListingView, Macro, negsuc, none_first, none_second, operation_with}
use Rattle.px_listing.proofs.Words.{overlap, past, plane_of, shape_of, shape_past, size_of, value_past}
use Rattle.px_listing.proofs.Words.{worded, Words}
use Rattle.px_num.proofs.BitLaws.{pow_above}
use Rattle.px_show.specs.declared.fault.Cause.{Cause}
use Rattle.px_show.proofs.JudgedLaws.{none_here, not_memory, not_refused}
use Rattle.px_listing.specs.AcceptedLaw.{AcceptedListingIsLawful, MemoryIsNoRefusal}
use Rattle.px_listing.specs.Reading.{ListingDraft, ListFault, bad_by, bad_in, extended_by, listing_draft_of}
use Rattle.px_listing.specs.Reading.{listing_fault_behind, listing_of, listing_refusal_of, listing_taken, unwritten}
use Rattle.px_listing.specs.Reading.{with_operation}
use Rattle.px_listing.proofs.LimitLemmas.{within}
use Rattle.px_macro.specs.declared.operation.Macro.TheVariants as m
use Rattle.px_listing.specs.declared.limit.ListKind.TheVariants as kind

form_in_range : (a b c : ℤ) → form_past a b c ≡ None → IsInTreeRange (plane_of a b c)
form_in_range a b c e = grind (arith, none_first, within, none_second)

-- so many bits from a place on stand within the memory
ends_within : (bits : ℕ) (at len : ℤ) → pos 0 ≤ℤ len → end_past bits at len ≡ None → size_of at + size_of len ≤ bits
ends_within bits at len h p = grind arith

field_is : (bits : ℕ) (at len : ℤ) → field_past bits at len ≡ None → IsField (field_of at len) bits
field_is bits at (pos n) e = grind (arith, within, none_first, ends_within, none_second)
field_is bits at (negsuc n) e = grind (arith, within, none_first)

second_is : (bits : ℕ) (at len to : ℤ) → fields_past bits at len to ≡ None → IsField (field_of to len) bits
second_is bits at len to e = grind (arith, field_is, none_first, within, ends_within, none_second)

number_fits : (len number : ℤ) → value_past len number ≡ None → size_of number < 2 ^ size_of len
number_fits len number h = grind (arith, pos, pow_above)

lie_apart : (at len to : ℤ) → pos 0 ≤ℤ at → pos 0 ≤ℤ len → pos 0 ≤ℤ to → overlap at len to ≡ None
    → AreApart (field_of at len) (field_of to len)
lie_apart at len to h p q r = grind arith

of_one_length : (bits : ℕ) (at len to : ℤ) → fields_past bits at len to ≡ None
    → AreOfOneLength (field_of at len) (field_of to len) bits
of_one_length bits at len to e = grind (arith, field_is, none_first, second_is)

placed : (bits : ℕ) (at len : ℤ) → end_past bits at len ≡ None → pos 0 ≤ℤ at
placed bits (pos n) len e = omega (arith, ints)
placed bits (negsuc n) len e = cc

place_is : (bits : ℕ) (at : ℤ) → end_past bits at (pos 1) ≡ None → size_of at < bits
place_is bits at none = let ends = ends_within bits at (pos 1) (omega (arith, ints)) none in omega (arith, ends)

copies : (bits : ℕ) (at len to : ℤ) → option_or (fields_past bits at len to) (overlap at len to) ≡ None
    → IsLawful (m.Copy (field_of at len) (field_of to len)) bits
copies bits at len to e = grind (arith, none_first, within, lie_apart, placed, none_second, of_one_length)

linear_is : (bits : ℕ) (a b c at len : ℤ) → option_or (form_past a b c) (field_past bits at len) ≡ None
    → IsInTreeRange (plane_of a b c) × IsField (field_of at len) bits
linear_is bits a b c at len none = grind (arith, form_in_range, none_first, field_is, none_second)

bit_is : (bits : ℕ) (at v : ℤ) → option_or (end_past bits at (pos 1)) (past kind.Value (pos 0) (pos 1) v) ≡ None
    → size_of at < bits
bit_is bits at v none = place_is bits at (none_first _ (past kind.Value (pos 0) (pos 1) v) none)

constant_is : (bits : ℕ) (at len number : ℤ) → option_or (field_past bits at len) (value_past len number) ≡ None
    → IsField (field_of at len) bits × (size_of number < 2 ^ size_of len)
constant_is bits at len number none = grind (arith, field_is, none_first, number_fits, none_second)

-- the operation that numbers write which pass no limit; another count of numbers writes none
pub kind_lawful : (bits : ℕ) (kind : Kind) (zs : List ℤ) → shape_past bits (shape_of kind) zs ≡ None
    → IfSome (operation_with kind zs) (λ op. IsLawful op bits)
kind_lawful bits kind zs h = grind (arith, bit_is, place_is, linear_is, constant_is, copies, of_one_length)

pub all_more : (bits : ℕ) (o : Option Macro) (ops : List Macro) → IfSome o (λ op. IsLawful op bits)
    → All (λ op. IsLawful op bits) ops → All (λ op. IsLawful op bits) (with_operation o ops)
all_more bits None ops one all = all
all_more bits (Some op) ops one all = All-push (λ q. IsLawful q bits) ops op all one

form_lawful : (bits : ℕ) (draft : ListingDraft) (r : Result ListForm Cause) → bad_by bits r ≡ None
    → All (λ op. IsLawful op bits) draft.macros → All (λ op. IsLawful op bits) (extended_by draft r).macros
form_lawful bits draft r h p = grind (arith, all_more, kind_lawful)

line_lawful : (bits : ℕ) (draft : ListingDraft) (l : Words) → bad_in bits draft.due l ≡ None
    → All (λ op. IsLawful op bits) draft.macros → All (λ op. IsLawful op bits) (listing_taken draft l).macros
line_lawful bits draft l h p = grind (arith, form_lawful)

pub draft_more : (before : List Words) (l : Words)
    → listing_draft_of (before ++ l ∷ []) ≡ listing_taken (listing_draft_of before) l
draft_more before l = fold-append listing_taken unwritten before (l ∷ [])

lines_lawful : (bits : ℕ) (before ls : List Words) → All (λ op. IsLawful op bits) (listing_draft_of before).macros
    → first_bad (listing_fault_behind bits) before ls ≡ None
    → All (λ op. IsLawful op bits) (listing_draft_of (before ++ ls)).macros
lines_lawful bits before [] all none = rw append-nil all
lines_lawful bits before (l ∷ ls) all none =
    let each = none_here (length before + 1) (listing_fault_behind bits before l)
    (first_bad (listing_fault_behind bits) (before ++ l ∷ []) ls) none in
    let here = line_lawful bits (listing_draft_of before) l each.0 all in
    subst (λ (lines : List Words). All (λ op. IsLawful op bits) (listing_draft_of lines).macros)
    (append_assoc before (l ∷ []) ls)
    (lines_lawful bits (before ++ l ∷ []) ls
    (subst (λ (draft : ListingDraft). All (λ op. IsLawful op bits) draft.macros) (sym (draft_more before l)) here)
    each.1)

pub accepted_is_lawful : AcceptedListingIsLawful
accepted_is_lawful bits text none =
    lines_lawful bits [] (worded text) (All-nil (λ op. IsLawful op bits))
    (not_refused (first_bad (listing_fault_behind bits) [] (worded text)) _ _ none).0

-- such pixels can carry out each operation of the listing that is read
pub read_is_lawful : (bits : ℕ) (text : List ℕ) (r : Result ListingView ListFault)
    → IfOk r (λ l. (listing_refusal_of bits text ≡ None) × (l ≡ listing_of (worded text)))
    → IfOk r (λ l. All (λ op. IsLawful op bits) l.macros)
read_is_lawful bits text (Ok l) (good, is) = rw is (accepted_is_lawful bits text good)
read_is_lawful bits text (Err f) e = tt

pub memory_is_no_refusal : MemoryIsNoRefusal
memory_is_no_refusal bits text = not_memory (first_bad (listing_fault_behind bits) [] (worded text)) _ _
