-- Rows by their pixels, and images by their rows, as they are written one after another; images of the same numbers.
use Rattle.px_num.proofs.Basics.{◌≡◌, ℕ, ◌+◌, ◌-◌, ◌/◌, ◌<◌, ◌≤◌, ap, sym, ◌∙◌, arith, List, [], ◌∷◌, ◌++◌}
use Rattle.px_num.proofs.Basics.{append_assoc, get_or, length, set, take, length-set, flat_map-append, flat_map}
use Rattle.px_num.proofs.Basics.{range_with_len}
use Rattle.px_frame.proofs.Words.{Field, front_after, front_before, HoldsRow, image_of, image_of_pixels}
use Rattle.px_frame.proofs.Words.{row_of_pixels, SinkState, State, takes_both, TakesAll, TakesFront}
use Rattle.std.proofs.lemmas.List.{append-nil}
use Rattle.std.proofs.lemmas.Grind.{take-set_at}
use Rattle.px_num.proofs.RangeLaws.{range_cut, same_parts}
use Rattle.px_frame.specs.Waiting.{TakesAllBut}

range_join : (n m : ℕ) → range_with_len 0 n ++ range_with_len n m ≡ range_with_len 0 (n + m)
range_join n m = grind (arith, range_cut)

-- what is made of the first n numbers
abbrev made : (ℕ → List ℕ) → ℕ → List ℕ
made f n = flat_map f (range_with_len 0 n)

made_more : (f : ℕ → List ℕ) (n : ℕ) → made f n ++ f n ≡ made f (n + 1)
made_more f n =
    ap (λ bytes. made f n ++ bytes) (sym (append-nil (f n)))
    ∙ sym (flat_map-append f (range_with_len 0 n) (n ∷ [])) ∙ ap (flat_map f) (range_join n 1)

made_all : (f : ℕ → List ℕ) (n m : ℕ) → made f n ++ flat_map f (range_with_len n m) ≡ made f (n + m)
made_all f n m = sym (flat_map-append f (range_with_len 0 n) (range_with_len n m)) ∙ ap (flat_map f) (range_join n m)

-- three bytes that are entered behind some others
pub three_entered : (xs ys : List ℕ) (n m : ℕ) → m ≡ n + 3 → m ≤ length xs → length ys ≡ 3
    → take m (set (set (set xs n (get_or ys 0 0)) (n + 1) (get_or ys 1 0)) (n + 2) (get_or ys 2 0)) ≡ take n xs ++ ys
three_entered xs [] n m behind room three = absurd (omega arith)
three_entered xs (a ∷ []) n m behind room three = absurd (omega arith)
three_entered xs (a ∷ b ∷ []) n m behind room three = absurd (omega arith)
three_entered xs (a ∷ b ∷ c ∷ d ∷ rest) n m behind room three = absurd (omega arith)
three_entered xs (a ∷ b ∷ c ∷ []) n m behind room three = grind (arith, take-set_at, set, length-set, append_assoc)

-- one pixel more
pub pixels_grown : (pixel : (x y : ℕ) → List ℕ) (x y : ℕ) (bytes old new : List ℕ) → old ≡ row_of_pixels x pixel y
    → bytes ≡ pixel x y → new ≡ old ++ bytes → new ≡ row_of_pixels (x + 1) pixel y
pixels_grown pixel x y bytes old new filled is grown =
    grown ∙ ap (λ front. front ++ bytes) filled ∙ ap (λ more. row_of_pixels x pixel y ++ more) is
    ∙ made_more (λ x. pixel x y) x

-- those that wait are written, or a front of them
module _ (a b c : SinkState) (waiting bytes : List ℕ) (but : TakesAllBut waiting a b bytes) where
  pub all_written : TakesAll b c waiting → TakesAll a c bytes
  all_written next = rw but.whole at (takes_both a b c but.gone waiting but.all next)

  pub none_waits : TakesAll b c waiting → TakesAllBut [] a c bytes
  none_waits next = record { gone = bytes; whole = append-nil bytes; all = all_written next }

  pub front_written : TakesFront b c waiting → TakesFront a c bytes
  front_written next = rw but.whole at (front_after a b c but.gone waiting but.all next)

-- one row more waits
pub rows_grown : (a b : SinkState) (waiting front : List ℕ) (row : ℕ → List ℕ) (y : ℕ)
    → TakesAllBut waiting a b (front ++ flat_map row (range_with_len 0 y))
    → TakesAllBut (waiting ++ row y) a b (front ++ flat_map row (range_with_len 0 (y + 1)))
rows_grown a b waiting front row y but =
    let more = append_assoc front (made row y) (row y) ∙ ap (λ bytes. front ++ bytes) (made_more row y) in
    record {
      gone = but.gone;
      whole = sym (append_assoc but.gone waiting (row y)) ∙ ap (λ bytes. bytes ++ row y) but.whole ∙ more;
      all = but.all;
    }

-- a front of some rows is one of the whole
pub rows_broken : (a b : SinkState) (front : List ℕ) (row : ℕ → List ℕ) (y height : ℕ) → y < height
    → TakesFront a b (front ++ flat_map row (range_with_len 0 y))
    → TakesFront a b (front ++ flat_map row (range_with_len 0 height))
rows_broken a b front row y height above some =
    let rest = height - y in
    let all : y + rest ≡ height = omega arith in
    let whole = append_assoc front (made row y) (flat_map row (range_with_len y rest))
    ∙ ap (λ bytes. front ++ bytes) (made_all row y rest ∙ ap (made row) all) in
    rw whole at (front_before a b (front ++ made row y) (flat_map row (range_with_len y rest)) some)

-- an image is that of the pixels in the picture
pub same_pixels : (width height : ℕ) (f g : (x y : ℕ) → List ℕ) → ((x y : ℕ) → x < width → y < height → f x y ≡ g x y)
    → image_of_pixels width height f ≡ image_of_pixels width height g
same_pixels width height f g same = grind (arith, same_parts)

pub same_image : (width height : ℕ) (f g : (x y : ℕ) → ℕ) → ((x y : ℕ) → x < width → y < height → f x y ≡ g x y)
    → image_of width height f ≡ image_of width height g
same_image width height f g same = grind (arith, same_pixels)

-- a strip that has the numbers of a row has those of another one of its eight
pub other_row : (strip : List ℕ) (field : Field) (state : State) (width y other : ℕ) → other / 8 ≡ y / 8
    → HoldsRow strip field state width y → HoldsRow strip field state width other
other_row strip field state width y other same held = grind arith
