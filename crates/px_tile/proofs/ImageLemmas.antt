-- The images of the numbers of a wide picture.
use Rattle.px_num.proofs.Basics.{◌≡◌, ℕ, zero, suc, ◌+◌, ◌*◌, ◌/◌, ◌%◌, ◌^◌, ◌<◌, ◌≤◌, All, Result, Ok, Err, OnErr}
use Rattle.px_num.proofs.Basics.{OnOk, List, [], ◌∷◌, ◌++◌, length, get_or, take, drop, refl, ap, sym, ◌∙◌, arith}
use Rattle.px_num.proofs.Basics.{between, flat_map, range_with_len, div-lt_iff_lt-mul, div-mul-le_self, pow_mono}
use Rattle.px_num.proofs.Basics.{flat_map-append, get_or_default, take-append-drop, between_is}
use Rattle.std.proofs.Math.Nat.{mod-eq-sub-div-mul}
use Rattle.px_num.proofs.RangeLaws.{range_cut, same_parts}
use Rattle.px_io.specs.Reports.{SinkState, TakesAll, TakesFront}
use Rattle.px_io.proofs.ToldLaws.{front_after, takes_both}
use Rattle.px_frame.specs.Picture.{header, three_bytes, depth_at, face_at, number_pixel, row_of_pixels}
use Rattle.px_face.proofs.BackgroundLemmas.{first_cells, shows_faces}
use Rattle.px_face.proofs.SurfaceLemmas.{scene_surface}
use Rattle.px_model.specs.Scenes.{IsLawfulScene, SceneView}
use Rattle.px_model.specs.Cells.{far_of, picture}
use Rattle.px_tile.specs.declared.image.Part.{Part}
use Rattle.px_tile.specs.Found.{IsFound, number_at, sight_number}
use Rattle.px_tile.specs.Parts.{IsSmall, bytes_of, part_image, part_of}
use Rattle.px_tile.specs.Tiles.{wide_scene}
use Rattle.px_tile.specs.declared.image.Part.TheVariants as part

-- or of numbers that are so much greater
shifted : (g : ℕ → List ℕ) (c from count : ℕ) → flat_map g (range_with_len (c + from) count)
    ≡ flat_map (λ k. g (c + k)) (range_with_len from count)
shifted g c from zero = refl
shifted g c from (suc count) = grind (arith, shifted g c (from + 1) count)

-- places row by row
by_rows : (g : ℕ → List ℕ) (width from height : ℕ) → flat_map g (range_with_len (from * width) (width * height))
    ≡ flat_map (λ y. flat_map (λ x. g (y * width + x)) (range_with_len 0 width)) (range_with_len from height)
by_rows g width from zero = let none : width * 0 ≡ 0 = omega arith in rw none refl
by_rows g width from (suc height) =
    let more : width * suc height ≡ width + width * height = grind arith in
    let next : from * width + width ≡ (from + 1) * width = grind arith in
    let here : from * width ≡ from * width + 0 = omega arith in
    grind (arith, range_cut, flat_map-append, shifted, by_rows g width (from + 1) height)

-- a list by its places
listed : (f : ℕ → List ℕ) (xs : List ℕ) → flat_map f xs ≡ flat_map (λ i. f (get_or xs i 0))
    (range_with_len 0 (length xs))
listed f [] = refl
listed f (x ∷ xs) =
    ap (λ others. f x ++ others)
    (listed f xs
    ∙ same_parts (λ i. f (get_or xs i 0)) (λ i. f (get_or (x ∷ xs) (1 + i) 0)) 0 (length xs)
    (λ i low high. let e : 1 + i ≡ suc i = omega arith in rw e refl)
    ∙ sym (shifted (λ i. f (get_or (x ∷ xs) i 0)) 1 0 (length xs)))

-- the parts of a number
depth_part : (depth face : ℕ) → face < 2 ^ 32 → (depth * 2 ^ 32 + face) / 2 ^ 32 ≡ depth
depth_part depth face small = omega arith

face_part : (depth face : ℕ) → face < 2 ^ 32 → (depth * 2 ^ 32 + face) % 2 ^ 32 ≡ face
face_part depth face small = omega arith

module _ (scene : SceneView) (lawful : IsLawfulScene scene) (width height : ℕ) (found : List ℕ)
    (is : IsFound scene width height found) where
  face_small : (x y : ℕ) → (picture scene x y).face < 2 ^ 24
  face_small x y = omega (arith, shows_faces scene_surface scene lawful x y, lawful.faces)

  far_small : far_of scene < 2 ^ 24
  far_small = grind (arith, pow_mono)

  depth_small : (x y : ℕ) → (picture scene x y).depth < 2 ^ 24
  depth_small x y = grind (arith, far_small, first_cells)

  part_small : (p : Part) (x y : ℕ) → IsSmall p (sight_number (picture scene x y))
  part_small part.Depth x y = grind (arith, depth_part, face_small, depth_small)
  part_small part.Face x y =
      rw (face_part (picture scene x y).depth (picture scene x y).face (omega (arith, face_small x y))) (face_small x y)

  pub all_small : (p : Part) → 0 < width → All (IsSmall p) found
  all_small p some i d low =
      let x = i % width in
      let y = i / width in
      let back : y * width + x ≡ i = omega (arith, mod-eq-sub-div-mul i width, div-mul-le_self i width) in
      let all : i < height * width =
      omega (arith, is.count, (let t : width * height ≡ height * width = grind arith in t)) in
      let above : y < height = (div-lt_iff_lt-mul {k = width} {x = i} {y = height} some).1 all in
      let left : x < width = omega arith in
      let here : get_or found i 0 ≡ sight_number (picture scene x y) = grind arith in
      rw (get_or_default found i d 0 low, here) (part_small p x y)

  abbrev part_at : Part → (x y : ℕ) → ℕ
  part_at part.Depth x y = depth_at (wide_scene scene width height) x y
  part_at part.Face x y = face_at (wide_scene scene width height) x y

  part_found : (p : Part) (x y : ℕ) → x < width → y < height → part_of p (number_at found width x y) ≡ part_at p x y
  part_found part.Depth x y left above =
      ap (λ n. n / 2 ^ 32) (is.each x y left above)
      ∙ depth_part (picture scene x y).depth (picture scene x y).face (omega (arith, face_small x y))
  part_found part.Face x y left above =
      ap (λ n. n % 2 ^ 32) (is.each x y left above)
      ∙ face_part (picture scene x y).depth (picture scene x y).face (omega (arith, face_small x y))

  pixels_are : (p : Part)
      → bytes_of p found ≡ flat_map (row_of_pixels width (number_pixel (part_at p))) (range_with_len 0 height)
  pixels_are p =
      let pixel = λ (i : ℕ). three_bytes (part_of p (get_or found i 0)) in
      let start : 0 * width ≡ 0 = omega arith in
      listed (λ number. three_bytes (part_of p number)) found
      ∙ ap (λ n. flat_map pixel (range_with_len 0 n)) is.count
      ∙ ap (λ n. flat_map pixel (range_with_len n (width * height))) (sym start)
      ∙ by_rows pixel width 0 height
      ∙ same_parts (λ y. flat_map (λ x. pixel (y * width + x)) (range_with_len 0 width))
      (row_of_pixels width (number_pixel (part_at p))) 0 height
      (λ y low above. same_parts (λ x. pixel (y * width + x)) (λ x. three_bytes (part_at p x y)) 0 width
      (λ x low left. ap three_bytes (part_found p x y (omega arith) (omega arith))))

  pub image_is : (p : Part) → header width height ++ bytes_of p found ≡ part_image p (wide_scene scene width height)
  image_is part.Depth = ap (λ pixels. header width height ++ pixels) (pixels_are part.Depth)
  image_is part.Face = ap (λ pixels. header width height ++ pixels) (pixels_are part.Face)

take_shorter : (i j : ℕ) (xs : List ℕ) → i ≤ j → take i (take j xs) ≡ take i xs
take_shorter zero j xs low = refl
take_shorter (suc i) zero xs low = absurd (omega arith)
take_shorter (suc i) (suc j) [] low = refl
take_shorter (suc i) (suc j) (x ∷ xs) low = ap (λ others. x ∷ others) (take_shorter i j xs (omega arith))

on_ok : {T E P Q : Type 0} (r : Result T E) → (P → Q) → OnOk r P → OnOk r Q
on_ok (Ok x) f p = f p
on_ok (Err x) f p = p

on_err : {T E P Q : Type 0} (r : Result T E) → (P → Q) → OnErr r P → OnErr r Q
on_err (Ok x) f p = p
on_err (Err x) f p = f p

-- first all of some bytes, and then all of others, or a front of them
pub all_after : {T E : Type 0} (r : Result T E) (a b c : SinkState) (xs ys zs : List ℕ) → xs ++ ys ≡ zs
    → TakesAll a b xs → OnOk r (TakesAll b c ys) → OnOk r (TakesAll a c zs)
all_after r a b c xs ys zs whole first second = on_ok r (λ next. rw whole at (takes_both a b c xs ys first next)) second

pub front_then : {T E : Type 0} (r : Result T E) (a b c : SinkState) (xs ys zs : List ℕ) → xs ++ ys ≡ zs
    → TakesAll a b xs → OnErr r (TakesFront b c ys) → OnErr r (TakesFront a c zs)
front_then r a b c xs ys zs whole first second =
    on_err r (λ next. rw whole at (front_after a b c xs ys first next)) second

-- a list up to a place, and on to a later one
taken_on : (xs : List ℕ) (i j : ℕ) → i ≤ j → take i xs ++ between i j xs ≡ take j xs
taken_on xs i j low =
    rw (between_is xs i j) (ap (λ front. front ++ drop i (take j xs)) (sym (take_shorter i j xs low))
    ∙ take-append-drop i (take j xs))

-- the pixels up to a place, and on to a later one
pub bytes_on : (p : Part) (xs : List ℕ) (i j : ℕ) → i ≤ j → bytes_of p (take i xs) ++ bytes_of p (between i j xs)
    ≡ bytes_of p (take j xs)
bytes_on p xs i j low =
    sym (flat_map-append (λ number. three_bytes (part_of p number)) (take i xs) (between i j xs))
    ∙ ap (bytes_of p) (taken_on xs i j low)

-- and on to the end
pub bytes_all : (p : Part) (xs : List ℕ) (i : ℕ) → bytes_of p (take i xs) ++ bytes_of p (drop i xs) ≡ bytes_of p xs
bytes_all p xs i =
    sym (flat_map-append (λ number. three_bytes (part_of p number)) (take i xs) (drop i xs))
    ∙ ap (bytes_of p) (take-append-drop i xs)
