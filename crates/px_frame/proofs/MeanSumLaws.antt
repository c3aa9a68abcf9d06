-- Sums of samples grow pixel by pixel and row by row.
use Rattle.px_num.proofs.Basics.{◌≡◌, ℕ, ◌+◌, ◌*◌, List, map, ap, sym, ◌∙◌, arith, fold-map, range_with_len, sum_by}
use Rattle.std.proofs.lemmas.List.FromFn.{sum_by-map-range_with_len_more}
use Rattle.px_model.specs.declared.solid.Colour.{Colour}
use Rattle.px_model.specs.Scenes.{IsColour}
use Rattle.px_frame.specs.declared.mean_sums.Sums.{Sums}
use Rattle.px_frame.specs.MeanSums.{AreSumsAtMost, block_sums, row_sums, together, with_colour}

plain : (f : ℕ → ℕ) (ns : List ℕ) → sum_by f (map (λ n. n) ns) ≡ sum_by f ns
plain f ns = fold-map (λ (a n : ℕ). a + f n) (λ (n : ℕ). n) 0 ns

pub sum_more : (f : ℕ → ℕ) (n : ℕ) → sum_by f (range_with_len 0 n) + f n ≡ sum_by f (range_with_len 0 (n + 1))
sum_more f n =
    let here : 0 + n ≡ n = omega arith in
    sym (sym (plain f (range_with_len 0 (n + 1))) ∙ sum_by-map-range_with_len_more f (λ i. i) 0 n n here
    ∙ ap (λ m. m + f n) (plain f (range_with_len 0 n)))

-- one pixel more
pub row_more : (colour : (x y : ℕ) → Colour) (from y n : ℕ)
    → with_colour (row_sums colour from y n) (colour (from + n) y) ≡ row_sums colour from y (n + 1)
row_more colour from y n = grind (arith, sum_more)

-- one row more
pub block_more : (colour : (x y : ℕ) → Colour) (across from top n : ℕ) → together (block_sums colour across from top n)
    (row_sums colour from (top + n) across) ≡ block_sums colour across from top (n + 1)
block_more colour across from top n = grind (arith, sum_more)

pub most_more : (sums : Sums) (colour : Colour) (n : ℕ) → AreSumsAtMost (255 * n) sums → IsColour colour
    → AreSumsAtMost (255 * (n + 1)) (with_colour sums colour)
most_more sums colour n most bytes = grind arith

pub most_together : (sums more : Sums) (across n : ℕ) → AreSumsAtMost (255 * (across * n)) sums
    → AreSumsAtMost (255 * across) more → AreSumsAtMost (255 * (across * (n + 1))) (together sums more)
most_together sums more across n most next = grind arith
