-- Means of the same samples, and the image of means over the picture of the finer scene.
use Rattle.px_num.proofs.Basics.{◌≡◌, ◌≢◌, ℕ, zero, suc, ◌+◌, ◌*◌, ◌/◌, ◌%◌, ◌^◌, ◌<◌, ◌≤◌, [], ◌∷◌, refl, ap}
use Rattle.px_num.proofs.Basics.{append-nil, arith, mul-le-mul_left, pow_pos, range_with_len}
use Rattle.px_num.proofs.Basics.{sum_by}
use Rattle.std.proofs.Math.Nat.{mul-div_cancel_left}
use Rattle.px_model.specs.declared.solid.Colour.{Colour}
use Rattle.px_model.specs.Scenes.{SceneView}
use Rattle.px_frame.specs.Finer.{fine_scene}
use Rattle.px_frame.specs.Images.{images}
use Rattle.px_frame.specs.Refined.{doublings, mean, mean_pixel, refined_image}
use Rattle.px_frame.specs.RefinedLaw.{MeansAreRefined}
use Rattle.px_frame.specs.declared.plane.Fineness.{Fineness}
use Rattle.px_frame.specs.declared.plane.Plane.TheVariants as p
use Rattle.px_frame.proofs.MeanSumLaws.{sum_more}

sum_same : (f g : ℕ → ℕ) (count : ℕ) → ((k : ℕ) → k < count → f k ≡ g k)
    → sum_by f (range_with_len 0 count) ≡ sum_by g (range_with_len 0 count)
sum_same f g zero same = refl
sum_same f g (suc n) same =
    let more : n + 1 ≡ suc n = omega arith in
    let first = sum_same f g n (λ k below. same k (omega arith)) in
    let last = same n (omega arith) in
    grind (arith, sum_more)

-- a pixel of so many by so many, each cut into k by k
pub in_block : (k x w i : ℕ) → x < w → i < k → k * x + i < k * w
in_block k x w i left inside = grind (arith, mul-le-mul_left)

module _ (s x y : ℕ) where
  mean_same : (f g : (x y : ℕ) → ℕ)
      → ((i j : ℕ) → i < 2 ^ s → j < 2 ^ s → f (2 ^ s * x + i) (2 ^ s * y + j) ≡ g (2 ^ s * x + i) (2 ^ s * y + j))
      → mean s f x y ≡ mean s g x y
  mean_same f g same = grind (arith, sum_same)

  pub pixel_same : (c d : (x y : ℕ) → Colour)
      → ((i j : ℕ) → i < 2 ^ s → j < 2 ^ s → c (2 ^ s * x + i) (2 ^ s * y + j) ≡ d (2 ^ s * x + i) (2 ^ s * y + j))
      → mean_pixel s c x y ≡ mean_pixel s d x y
  pixel_same c d same =
      let red = mean_same (λ i j. (c i j).red) (λ i j. (d i j).red)
      (λ i j p q. ap (λ (e : Colour). e.red) (same i j p q)) in
      let green = mean_same (λ i j. (c i j).green) (λ i j. (d i j).green) (λ i j p q. ap (λ (e : Colour). e.green)
      (same i j p q)) in
      let blue = mean_same (λ i j. (c i j).blue) (λ i j. (d i j).blue)
      (λ i j p q. ap (λ (e : Colour). e.blue) (same i j p q)) in
      rw (red, green, blue) refl

pub means_refined : MeansAreRefined
means_refined = grind (arith, mul-div_cancel_left, pow_pos)

-- the images of the finer scene that are of means alone
pub images_refined : (fineness : Fineness) (scene : SceneView)
    → images (fine_scene (doublings fineness) scene) (p.Means fineness ∷ []) ≡ refined_image (doublings fineness) scene
images_refined fineness scene = grind (arith, append-nil, doublings)

-- the rows of a block are in one strip
pub in_strip : (s y j : ℕ) → s ≤ 2 → j < 2 ^ s → (2 ^ s * y + j) / 8 ≡ 2 ^ s * y / 8
in_strip zero y j few low = omega arith
in_strip (suc zero) y j few low = omega arith
in_strip (suc (suc zero)) y j few low = omega arith
in_strip (suc (suc (suc k))) y j few low = absurd (omega arith)

-- and those of the next one, where it does not begin a strip
pub next_in_strip : (s y : ℕ) → s ≤ 2 → (2 ^ s * (y + 1)) % 8 ≢ 0 → 2 ^ s * (y + 1) / 8 ≡ 2 ^ s * y / 8
next_in_strip zero y few further = omega (arith, further)
next_in_strip (suc zero) y few further = omega (arith, further)
next_in_strip (suc (suc zero)) y few further = omega (arith, further)
next_in_strip (suc (suc (suc k))) y few further = absurd (omega arith)
