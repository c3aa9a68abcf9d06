-- What an image shows of numbers, of those that a strip has and of those that an array stores.
use Rattle.px_num.proofs.Basics.{◌≡◌, ℕ, zero, suc, ◌+◌, ◌*◌, ◌^◌, ◌<◌, ◌≤◌, List, arith}
use Rattle.px_num.proofs.RangeLaws.{same_parts}
use Rattle.px_frame.proofs.Words.{doublings_of, Field, HoldsRow, Plane, row_of_pixels}
use Rattle.px_frame.proofs.Words.{SceneView, shown_pixel, side_shown, State, stored_number, strip_number}
use Rattle.px_frame.proofs.MeanLemmas.{in_block}

pub few_doublings : (plane : Plane) → doublings_of plane ≤ 2
few_doublings plane = grind arith

pub sides_shown : (plane : Plane) (side : ℕ) → 2 ^ doublings_of plane * side_shown plane side ≤ side
sides_shown plane side = grind arith

pub width_fits : (k width side : ℕ) → 0 < k → k * width ≤ side → width ≤ side
width_fits zero width side some fits = absurd (omega (arith, some))
width_fits (suc k) width side some fits = grind arith

-- numbers that are the same at one pixel
alone : (f g : (x y : ℕ) → ℕ) (x y i j : ℕ) → i ≡ x → j ≡ y → f i j ≡ g i j → f x y ≡ g x y
alone f g x y i j column row same = grind (arith)

-- a pixel shows the same of numbers that are the same in its block
pub shown_same : (scene : SceneView) (plane : Plane) (f g : (x y : ℕ) → ℕ) (x y : ℕ)
    → ((i j : ℕ) → i < 2 ^ doublings_of plane → j < 2 ^ doublings_of plane
    → f (2 ^ doublings_of plane * x + i) (2 ^ doublings_of plane * y + j)
    ≡ g (2 ^ doublings_of plane * x + i) (2 ^ doublings_of plane * y + j))
    → shown_pixel scene plane f x y ≡ shown_pixel scene plane g x y
shown_same scene plane f g x y h = grind arith

module _
    (scene : SceneView) (plane : Plane) (field : Field) (state : State) (strip : List ℕ) (y : ℕ)
    (below : y < side_shown plane scene.height) (rows : scene.height ≤ 2 ^ state.tree.ny)
    (held : HoldsRow strip field state scene.width (2 ^ doublings_of plane * y))
  where
    number_held : (x j : ℕ) → x < scene.width → j < 2 ^ doublings_of plane
        → strip_number strip x (2 ^ doublings_of plane * y + j)
        ≡ stored_number field state x (2 ^ doublings_of plane * y + j)
    number_held x j left low = grind arith

    -- a row of what is shown of a strip is one of what is shown of the array
    pub row_shown : row_of_pixels (side_shown plane scene.width) (shown_pixel scene plane (strip_number strip)) y
        ≡ row_of_pixels (side_shown plane scene.width) (shown_pixel scene plane (stored_number field state)) y
    row_shown =
        same_parts (λ x. shown_pixel scene plane (strip_number strip) x y)
        (λ x. shown_pixel scene plane (stored_number field state) x y) 0 (side_shown plane scene.width) (λ x low left.
        shown_same scene plane (strip_number strip) (stored_number field state) x y (λ i j p q.
        number_held (2 ^ doublings_of plane * x + i) j (omega (
          arith,
          in_block (2 ^ doublings_of plane) x (side_shown plane scene.width) i (omega (arith, left)) p,
          sides_shown plane scene.width,
        )) q))
