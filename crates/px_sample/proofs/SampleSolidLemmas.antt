-- The solids of the sample: their planes, their colours and their names.
use Rattle.px_num.proofs.Basics.{common_steps, ◌≡◌, ℕ, pos, ◌+◌, ◌*◌, ◌/◌, ◌%◌, ◌^◌, ◌<◌, ◌≤◌, List, [], ◌∷◌, ◌++◌}
use Rattle.px_num.proofs.Basics.{length, true, false, codes, decimal, map, get_or, Some, refl, ap, sym, subst, ◌∙◌}
use Rattle.px_num.proofs.Basics.{arith, length-append, nat_le, zero, suc, All, list_all, range_with_len, bytes_eq}
use Rattle.px_num.proofs.Basics.{get_or-append_seam, nat_tests, length-decimal-le, ints, get_or_append_left}
use Rattle.px_num.proofs.Basics.{get_or-map-range_with_len, length-map-range_with_len, bytes_eq-Decides}
use lib.IntN.{neg_ℤ}
use Rattle.std.proofs.lemmas.Fmt.{decimal_injective}
use Rattle.std.proofs.lemmas.List.FromFn.{map-range_with_len_more}
use Rattle.px_num.specs.declared.linear.Linear.{Linear}
use Rattle.px_num.specs.Forms.{IsWithin}
use Rattle.px_text.specs.Text.{Words, is_digit, is_name, is_name_byte, size_of_digits}
use Rattle.px_text.proofs.DecimalLaws.{size_read}
use Rattle.px_text.proofs.PlainLaws.{both}
use Rattle.px_show.specs.Expressions.{is_among}
use Rattle.px_show.specs.Printed.{AreDistinctNames}
use Rattle.px_model.specs.declared.solid.Colour.{Colour}
use Rattle.px_model.specs.declared.solid.Face.{Face}
use Rattle.px_model.specs.Scenes.{IsColour, IsPlane, SolidView, names_of}
use Rattle.px_scene.specs.Canonical.{colour_words, words_of_plane}
use Rattle.px_sample.specs.Sample.{block_name, form}
use Rattle.px_sample.proofs.SampleTreeLemmas.{BeginsWithBlocks}
use Rattle.px_scene.proofs.NameLaws.{names_push}

abbrev pub blue : ℕ → Colour
blue i = record { red = i; green = 100; blue = 200 }

abbrev pub yellow : Colour
yellow = record { red = 255; green = 255; blue = 0 }

-- the sides of a block, left and right and top and bottom
abbrev pub left_side : ℕ → Linear
left_side i = form (pos 1) (pos 0) (neg_ℤ (pos (4 * (i % 16))))

abbrev pub right_side : ℕ → Linear
right_side i = form (neg_ℤ (pos 1)) (pos 0) (pos (4 * (i % 16) + 2))

abbrev pub top_side : ℕ → Linear
top_side i = form (pos 0) (pos 1) (neg_ℤ (pos (4 * (i / 16))))

abbrev pub bottom_side : ℕ → Linear
bottom_side i = form (pos 0) (neg_ℤ (pos 1)) (pos (4 * (i / 16) + 2))

abbrev pub front_of : ℕ → Linear
front_of i = form (pos 1) (pos 2) (pos (100 + i))

abbrev pub back_of : Linear
back_of = form (pos 0) (pos 0) (pos 1000)

abbrev pub cut_side : Linear
cut_side = form (pos 1) (neg_ℤ (pos 1)) (pos 0)

abbrev pub cut_back : Linear
cut_back = form (pos 0) (pos 0) (pos 300)

abbrev pub block_sides_of : ℕ → List Linear
block_sides_of i = left_side i ∷ right_side i ∷ top_side i ∷ bottom_side i ∷ []

abbrev pub side_words : List Linear → List Words
side_words ps = map (λ p. codes "side" ∷ words_of_plane p) ps

-- the words of the lines of a block, and of the cut
abbrev pub block_words : ℕ → List Words
block_words i =
    (codes "solid" ∷ block_name i ∷ colour_words (blue i)) ∷ (side_words (block_sides_of i)
    ++ ((codes "front" ∷ words_of_plane (front_of i)) ∷ (codes "back" ∷ words_of_plane back_of) ∷ []))

abbrev pub cut_words : List Words
cut_words =
    (codes "solid" ∷ codes "cut" ∷ colour_words yellow) ∷ (codes "side" ∷ words_of_plane cut_side)
    ∷ (codes "back" ∷ words_of_plane cut_back) ∷ []

-- a face in the colour of its solid
abbrev pub face_at : ℕ → Linear → Colour → Face
face_at n p c = record { number = n; plane = p; colour = c }

-- the solids
abbrev pub block : ℕ → SolidView
block i = record {
  name = block_name i;
  colour = blue i;
  near_number = 3 * i + 1;
  fronts = face_at (3 * i + 1 + 1) (front_of i) (blue i) ∷ [];
  backs = face_at (3 * i + 1 + 1 + 1) back_of (blue i) ∷ [];
  sides = block_sides_of i;
}

abbrev pub cut_solid : ℕ → SolidView
cut_solid n = record {
  name = codes "cut";
  colour = yellow;
  near_number = n + 1;
  fronts = [];
  backs = face_at (n + 1 + 1) cut_back yellow ∷ [];
  sides = cut_side ∷ [];
}

abbrev pub blocks : ℕ → List SolidView
blocks n = map block (range_with_len 0 n)

-- names of blocks
digits_named : (w : List ℕ) → list_all is_digit w ≡ true → list_all is_name_byte w ≡ true
digits_named [] all = refl
digits_named (b ∷ w) all = grind (arith, both, digits_named w (both (is_digit b) (list_all is_digit w) all).1)

sized : (w : List ℕ) (n : ℕ) → size_of_digits w ≡ Some n → list_all is_digit w ≡ true
sized w n is = grind (arith, both)

pub block_named : (i : ℕ) → i < 1000 → is_name (block_name i) ≡ true
block_named i low =
    let digits : list_all is_name_byte (decimal i) ≡ true =
    digits_named (decimal i) (sized (decimal i) i (size_read i (omega arith))) in
    let short : length (decimal i) ≤ 3 = length-decimal-le 3 i (omega arith) (omega arith) (omega arith) in
    let few : nat_le (length (block_name i)) 32 ≡ true = at_most (length (decimal i)) short in
    rw (digits, few) refl
  where
    at_most : (k : ℕ) → k ≤ 3 → nat_le (suc k) 32 ≡ true
    at_most k le = grind (arith, nat_tests)

other_block : (i j : ℕ) → j < i → i < 1000 → bytes_eq (block_name j) (block_name i) ≡ false
other_block i j less low = grind (arith, decimal_injective, bytes_eq-Decides)

names_with : (ss : List SolidView) (s : SolidView) → names_of (ss ++ s ∷ []) ≡ names_of ss ++ s.name ∷ []
names_with [] s = refl
names_with (q ∷ ss) s = ap (λ ns. q.name ∷ ns) (names_with ss s)

not_among : (names : Words) (n name : List ℕ) → is_among names name ≡ false → bytes_eq n name ≡ false
    → is_among (names ++ n ∷ []) name ≡ false
not_among [] n name none other = rw other refl
not_among (m ∷ names) n name none other = grind (arith, nat_tests, common_steps)

pub blocks_more : (n : ℕ) → blocks (n + 1) ≡ blocks n ++ block n ∷ []
blocks_more n = map-range_with_len_more block 0 n n (omega arith)

names_more : (n : ℕ) → names_of (blocks (suc n)) ≡ names_of (blocks n) ++ block_name n ∷ []
names_more n =
    let next : suc n ≡ n + 1 = omega arith in
    ap (λ k. names_of (blocks k)) next ∙ ap names_of (blocks_more n) ∙ names_with (blocks n) (block n)

-- none of the first blocks has the name of a later solid
pub fresh_block : (i n : ℕ) → n ≤ i → i < 1000 → is_among (names_of (blocks n)) (block_name i) ≡ false
fresh_block i zero le low = refl
fresh_block i (suc n) le low =
    subst (λ (ns : Words). is_among ns (block_name i) ≡ false) (sym (names_more n))
    (not_among (names_of (blocks n)) (block_name n) (block_name i) (fresh_block i n (omega arith) low)
    (other_block i n (omega arith) low))

pub fresh_cut : (n : ℕ) → is_among (names_of (blocks n)) (codes "cut") ≡ false
fresh_cut zero = refl
fresh_cut (suc n) =
    subst (λ (ns : Words). is_among ns (codes "cut") ≡ false) (sym (names_more n))
    (not_among (names_of (blocks n)) (block_name n) (codes "cut") (fresh_cut n) refl)

names_are : (n : ℕ) → n ≤ 200 → AreDistinctNames (names_of (blocks n))
names_are zero le = grind arith
names_are (suc n) le =
    subst AreDistinctNames (sym (names_more n))
    (names_push (names_of (blocks n)) (block_name n) (names_are n (omega arith)) (block_named n (omega arith))
    (fresh_block n n (omega arith) (omega arith)))

-- limits of the planes
down : (k : ℕ) → k ≤ 1000 → IsWithin (2 ^ 33) (neg_ℤ (pos k))
down zero le = (omega (arith, ints), omega (arith, ints))
down (suc k) le = (omega (arith, ints), omega (arith, ints))

up : (k : ℕ) → k ≤ 1000 → IsWithin (2 ^ 33) (pos k)
up k le = (omega (arith, ints), omega (arith, ints))

small : (k : ℕ) → k ≤ 1000 → IsWithin (2 ^ 23) (pos k)
small k le = (omega (arith, ints), omega (arith, ints))

small_down : IsWithin (2 ^ 23) (neg_ℤ (pos 1))
small_down = (omega (arith, ints), omega (arith, ints))

plane_is : (p : Linear) → IsWithin (2 ^ 23) p.a → IsWithin (2 ^ 23) p.b → IsWithin (2 ^ 33) p.c → IsPlane p
plane_is p a b c = record { a = a; b = b; c = c }

pub block_planes : (i : ℕ) → i < 200 → All IsPlane (block_sides_of i)
block_planes i low = grind (arith, small, plane_is, down, small_down, up)

pub front_plane : (i : ℕ) → i < 200 → IsPlane (front_of i)
front_plane i low = plane_is (front_of i) (small 1 (omega arith)) (small 2 (omega arith)) (up (100 + i) (omega arith))

pub back_plane : IsPlane back_of
back_plane = plane_is back_of (small 0 (omega arith)) (small 0 (omega arith)) (up 1000 (omega arith))

pub cut_planes : All IsPlane (cut_side ∷ [])
cut_planes = grind (arith, plane_is, small, small_down, up)

pub cut_back_plane : IsPlane cut_back
cut_back_plane = plane_is cut_back (small 0 (omega arith)) (small 0 (omega arith)) (up 300 (omega arith))

pub blue_is : (i : ℕ) → i < 200 → IsColour (blue i)
blue_is i low = record { red = omega arith; green = omega arith; blue = omega arith }

pub yellow_is : IsColour yellow
yellow_is = record { red = omega arith; green = omega arith; blue = omega arith }

abbrev pub sample_solids : ℕ → List SolidView
sample_solids n = blocks n ++ cut_solid (3 * n) ∷ []

-- the names of all solids
named_blocks : (n : ℕ) → names_of (blocks n) ≡ map block_name (range_with_len 0 n)
named_blocks zero = refl
named_blocks (suc n) =
    let next : suc n ≡ n + 1 = omega arith in
    names_more n ∙ ap (λ ns. ns ++ block_name n ∷ []) (named_blocks n)
    ∙ sym (ap (λ k. map block_name (range_with_len 0 k)) next ∙ map-range_with_len_more block_name 0 n n (omega arith))

pub record AreSampleNames (n : ℕ) (names : Words) : Type 0 where
  pub distinct : AreDistinctNames names
  pub count : length names ≡ n + 1
  pub blocks_first : BeginsWithBlocks n names
  pub cut_last : get_or names n [] ≡ codes "cut"

pub sample_names : (n : ℕ) → n ≤ 200 → AreSampleNames n (names_of (sample_solids n))
sample_names n le =
    let first = names_of (blocks n) in
    let are = names_push first (codes "cut") (names_are n le) refl (fresh_cut n) in
    let long : length first ≡ n = ap length (named_blocks n) ∙ length-map-range_with_len block_name 0 n in
    rw (names_with (blocks n) (cut_solid (3 * n))) (record {
      distinct = are;
      count = omega (arith, length-append first (codes "cut" ∷ []), long);
      blocks_first = record {
        each = λ i low. get_or_append_left first (codes "cut" ∷ []) [] i (omega (arith, long))
            ∙ ap (λ ns. get_or ns i []) (named_blocks n)
            ∙ get_or-map-range_with_len block_name 0 n i i [] low (omega arith);
      };
      cut_last = subst (λ k. get_or (first ++ codes "cut" ∷ []) k [] ≡ codes "cut") long
          (get_or-append_seam first (codes "cut") [] []);
    })
