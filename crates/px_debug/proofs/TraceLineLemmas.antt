-- The lines of a trace, one after another.
use Rattle.px_num.proofs.Basics.{◌≡◌, ℕ, ◌+◌, List, [], ◌∷◌, ◌++◌, length, take, Some, sym, ap, ◌∙◌, append_assoc}
use Rattle.px_num.proofs.Basics.{arith, slice_get, take_more, get_or_from_slice_get, slice_get_within}
use Rattle.std.proofs.lemmas.List.{append-nil, length-take}
use Rattle.px_array.specs.declared.micro.Micro.{Micro}
use Rattle.px_debug.specs.Lines.{trace_line, trace_lines}

lines_append : (clock : ℕ) (xs ys : List Micro) → trace_lines clock (xs ++ ys) ≡ trace_lines clock xs
    ++ trace_lines (clock + length xs) ys
lines_append clock [] ys = ap (λ n. trace_lines n ys) (let z : clock ≡ clock + 0 = omega arith in z)
lines_append clock (x ∷ xs) ys =
    let n : clock + 1 + length xs ≡ clock + length (x ∷ xs) = omega arith in
    ap (λ t. trace_line clock x ++ t) (lines_append (clock + 1) xs ys
    ∙ ap (λ k. trace_lines (clock + 1) xs ++ trace_lines k ys) n)
    ∙ sym (append_assoc (trace_line clock x) (trace_lines (clock + 1) xs) (trace_lines (clock + length (x ∷ xs)) ys))

-- a line more
pub line_more : (clock : ℕ) (ms : List Micro) (i : ℕ) (m : Micro) → slice_get ms i ≡ Some m →
    trace_lines clock (take (i + 1) ms) ≡ trace_lines clock (take i ms) ++ trace_line (clock + i) m
line_more clock ms i m here =
    let low = slice_get_within ms i m here in
    let size : length (take i ms) ≡ i = omega (arith, length-take i ms) in
    ap (trace_lines clock) (take_more ms i m low ∙ ap (λ x. take i ms ++ x ∷ []) (get_or_from_slice_get ms i m m here))
    ∙ (lines_append clock (take i ms) (m ∷ [])
    ∙ ap (λ n. trace_lines clock (take i ms) ++ (trace_line (clock + n) m ++ [])) size
    ∙ ap (λ t. trace_lines clock (take i ms) ++ t) (append-nil (trace_line (clock + i) m)))
