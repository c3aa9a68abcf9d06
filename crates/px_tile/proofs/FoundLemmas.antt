-- Numbers that are put row by row into those of a wide picture.
use Rattle.px_num.proofs.Basics.{◌≡◌, ℕ, ◌+◌, ◌*◌, ◌<◌, ◌≤◌, ◌⊎◌, inl, inr, List, ap, sym, ◌∙◌}
use Rattle.px_num.proofs.Basics.{arith, slice_index, mul-le-mul_right, cases_lt}
use Rattle.px_model.specs.Scenes.{SceneView}
use Rattle.px_model.specs.Cells.{picture}
use Rattle.px_tile.specs.Found.{sight_number}
use Rattle.px_tile.specs.PutRows.{PutsRow, PutsRows}

-- the rows before one end before it
ends_before : (width y later x : ℕ) → x < width → y < later → y * width + x < later * width
ends_before width y later x left before = grind (arith, mul-le-mul_right)

ends_at_most : (width y later x : ℕ) → x ≤ width → y < later → y * width + x ≤ later * width
ends_at_most width y later x within before = grind (arith, mul-le-mul_right)

-- one row more
pub rows_more : (scene : SceneView) (y x0 y0 width start : ℕ) (old mid new : List ℕ)
    → PutsRows scene y (record { left = x0; top = y0 }) width old mid
    → PutsRow scene scene.width y start mid new → start ≡ (y0 + y) * width + x0 → x0 + scene.width ≤ width
    → PutsRows scene (y + 1) (record { left = x0; top = y0 }) width old new
rows_more scene y x0 y0 width start old mid new before put is fits = record {
  same_count = put.same_count ∙ before.same_count;
  rows = λ x row left low. elim (cases_lt row y) [
    | inl above ↦
        let early : (y0 + row) * width + (x0 + x) < (y0 + y) * width =
        ends_before width (y0 + row) (y0 + y) (x0 + x) (omega arith) (omega arith) in
        put.rest _ (inl (omega arith)) ∙ before.rows x row left above
    | inr last ↦
        let same : row ≡ y = omega arith in
        let place : (y0 + row) * width + (x0 + x) ≡ start + x = rw same (omega arith) in
        ap (slice_index new) place ∙ put.row x left ∙ ap (λ r. sight_number (picture scene x r)) (sym same)
  ];
  rest = λ x row left out. put.rest _ (outside x row left out) ∙ before.rest x row left (fewer x row out);
}
  where
    fewer : (x row : ℕ) → (row < y0) ⊎ (y0 + (y + 1) ≤ row) ⊎ (x < x0) ⊎ (x0 + scene.width ≤ x)
        → (row < y0) ⊎ (y0 + y ≤ row) ⊎ (x < x0) ⊎ (x0 + scene.width ≤ x)
    fewer x row (inl low) = inl low
    fewer x row (inr (inl high)) = inr (inl (omega arith))
    fewer x row (inr (inr side)) = inr (inr side)

    beside : (x row : ℕ) → row ≡ y0 + y → (row < y0) ⊎ (y0 + (y + 1) ≤ row) ⊎ (x < x0) ⊎ (x0 + scene.width ≤ x)
        → (row * width + x < start) ⊎ (start + scene.width ≤ row * width + x)
    beside x row same (inl low) = absurd (omega arith)
    beside x row same (inr (inl high)) = absurd (omega arith)
    beside x row same (inr (inr (inl before))) = inl (rw (same, is) (omega arith))
    beside x row same (inr (inr (inr behind))) = inr (rw (same, is) (omega arith))

    outside : (x row : ℕ) → x < width → (row < y0) ⊎ (y0 + (y + 1) ≤ row) ⊎ (x < x0) ⊎ (x0 + scene.width ≤ x)
        → (row * width + x < start) ⊎ (start + scene.width ≤ row * width + x)
    outside x row left out = elim (cases_lt row (y0 + y)) [
      | inl above ↦ inl (omega (arith, ends_before width row (y0 + y) x left above))
      | inr from ↦ elim (cases_lt (y0 + y) row) [
        | inl below ↦ inr (omega (arith, ends_at_most width (y0 + y) row (x0 + scene.width) fits below))
        | inr upto ↦
            let same : row ≡ y0 + y = omega arith in beside x row same out
      ]
    ]
