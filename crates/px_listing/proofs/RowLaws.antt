-- What is made of numbers in a row, and of operations, one after another.
use Rattle.px_num.proofs.Basics.{nat_tests, common_steps, flat_map-append, ◌≡◌, ℕ, ◌+◌, ◌-◌, ◌<◌, ap, sym, ◌∙◌, arith}
use Rattle.px_num.proofs.Basics.{List, [], ◌++◌, append_assoc, length, take, drop, get_or, flat_map_more, take_more}
use Rattle.px_num.proofs.Basics.{take-append-drop, flat_map, range_with_len}
use Rattle.px_num.proofs.RangeLaws.{range_cut}

range_join : (n m : ℕ) → range_with_len 0 (n + m) ≡ range_with_len 0 n ++ range_with_len n m
range_join n m = grind (arith, range_cut)

-- what is made of the first n numbers, and of one more
pub made_more : (f : ℕ → List ℕ) (n : ℕ) → flat_map f (range_with_len 0 n) ++ f n
    ≡ flat_map f (range_with_len 0 (n + 1))
made_more f n = flat_map_more f [] (range_with_len 0 n) n ∙ ap (flat_map f) (sym (range_join n 1))

-- what is made of the first numbers, of one more, and of the others
pub made_cut : (f : ℕ → List ℕ) (i n : ℕ) → i < n
    → flat_map f (range_with_len 0 i) ++ (f i ++ flat_map f (range_with_len (i + 1) (n - (i + 1))))
    ≡ flat_map f (range_with_len 0 n)
made_cut f i n within =
    let m = n - (i + 1) in
    let all : i + 1 + m ≡ n = omega arith in
    let rest = flat_map f (range_with_len (i + 1) m) in
    grind (arith, append_assoc, made_more, flat_map-append, range_join)

-- of the first elements and one more
pub listed_more : {X : Type 0} (f : X → List ℕ) (xs : List X) (i : ℕ) (d : X) → i < length xs
    → flat_map f (take i xs) ++ f (get_or xs i d) ≡ flat_map f (take (i + 1) xs)
listed_more f xs i d within = grind (arith, nat_tests, common_steps, flat_map_more, take_more)

-- of the first elements, of one more, and of the others
pub listed_cut : {X : Type 0} (f : X → List ℕ) (xs : List X) (i : ℕ) (d : X) → i < length xs
    → flat_map f (take i xs) ++ (f (get_or xs i d) ++ flat_map f (drop (i + 1) xs)) ≡ flat_map f xs
listed_cut f xs i d within =
    let rest = flat_map f (drop (i + 1) xs) in
    sym (append_assoc (flat_map f (take i xs)) (f (get_or xs i d)) rest)
    ∙ (ap (λ bytes. bytes ++ rest) (listed_more f xs i d within)
    ∙ (sym (flat_map-append f (take (i + 1) xs) (drop (i + 1) xs)) ∙ ap (flat_map f) (take-append-drop (i + 1) xs)))

-- a part that is cut stands between a first part and a last one
pub behind : (first xs ys zs last whole : List ℕ) → xs ++ (ys ++ zs) ≡ whole → (first ++ xs) ++ (ys ++ (zs ++ last))
    ≡ (first ++ whole) ++ last
behind first xs ys zs last whole is = grind (arith, append_assoc)
