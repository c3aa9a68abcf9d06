-- The end of the scene part, byte by byte.
use Rattle.px_num.proofs.Basics.{common_steps, ◌≡◌, ℕ, ◌+◌, ◌-◌, ◌<◌, ◌≤◌, ◌==◌, ◌≢◌, Bool, true, false, List, [], ◌∷◌}
use Rattle.px_num.proofs.Basics.{◌++◌, Option, Some, None, length, take, drop, get_or, refl, sym, ap, ◌∙◌, arith}
use Rattle.px_num.proofs.Basics.{length-drop, length-take, if◌then◌else◌, nat_tests, take_more, take-append-drop}
use Rattle.std.proofs.lemmas.List.{get_or-drop}
use Rattle.px_asked.specs.Lines.{left}
use Rattle.px_asked.specs.Parts.{end_after, is_end_line, part_end}
use Rattle.px_asked.specs.Searches.{HasSeen}
use Rattle.px_asked.specs.declared.search.Search.{Search}

same_count : (line : List ℕ) (n m : ℕ) (ys : List ℕ) → n ≡ m → end_after line n ys ≡ end_after line m ys
same_count line n m ys is = ap (λ k. end_after line k ys) is

-- behind bytes in which it does not end, it ends where it does from there on
pub end_on : (line : List ℕ) (n : ℕ) (xs ys : List ℕ) → end_after line n xs ≡ None
    → end_after line n (xs ++ ys) ≡ end_after (left line xs) (n + length xs) ys
end_on line n [] ys none = same_count line n (n + 0) ys (omega arith)
end_on line n (b ∷ xs) ys none =
    let Ends : (t e : Bool) (zs : List ℕ) → Option ℕ =
    λ t e zs. (if t then (if e then Some (n + 1) else end_after [] (n + 1) zs) else end_after (line ++ b ∷ [])
    (n + 1) zs) in
    let P : (t e : Bool) → Type 0 = λ t e. Ends t e xs ≡ None
    → Ends t e (xs ++ ys) ≡ end_after (if t then left [] xs else left (line ++ b ∷ []) xs) (n + length (b ∷ xs)) ys in
    (elim (b == 10) as (λ t. P t (is_end_line line)) [
      | true ↦ elim (is_end_line line) as (λ e. P true e) [
        | true ↦ λ none. cc
        | false ↦ λ none. end_on [] (n + 1) xs ys none ∙ same_count (left [] xs) _ _ ys (omega arith)
      ]
      | false ↦ λ none. end_on (line ++ b ∷ []) (n + 1) xs ys none
          ∙ same_count (left (line ++ b ∷ []) xs) _ _ ys (omega arith)
    ]) none

-- where it ends in some bytes, it ends there in more
pub end_kept : (line : List ℕ) (n k : ℕ) (xs ys : List ℕ) → end_after line n xs ≡ Some k → end_after line n (xs ++ ys)
    ≡ Some k
end_kept line n k [] ys some = cc
end_kept line n k (b ∷ xs) ys some =
    let Ends : (t e : Bool) (zs : List ℕ) → Option ℕ =
    λ t e zs. (if t then (if e then Some (n + 1) else end_after [] (n + 1) zs) else end_after (line ++ b ∷ [])
    (n + 1) zs) in
    let P : (t e : Bool) → Type 0 = λ t e. Ends t e xs ≡ Some k → Ends t e (xs ++ ys) ≡ Some k in
    (elim (b == 10) as (λ t. P t (is_end_line line)) [
      | true ↦ elim (is_end_line line) as (λ e. P true e) [
        | true ↦ λ some. some
        | false ↦ λ some. end_kept [] (n + 1) k xs ys some
      ]
      | false ↦ λ some. end_kept (line ++ b ∷ []) (n + 1) k xs ys some
    ]) some

-- a byte more that ends no line
pub left_byte : (line xs : List ℕ) (b : ℕ) → (b == 10) ≡ false → left line (xs ++ b ∷ []) ≡ left line xs ++ b ∷ []
left_byte line [] b other = rw other refl
left_byte line (x ∷ xs) b other =
    elim (x == 10) as (λ t. (if t then left [] (xs ++ b ∷ []) else left (line ++ x ∷ []) (xs ++ b ∷ []))
    ≡ (if t then left [] xs else left (line ++ x ∷ []) xs) ++ b ∷ [])
    [ true ↦ left_byte [] xs b other | false ↦ left_byte (line ++ x ∷ []) xs b other ]

-- a line feed
pub left_feed : (line xs : List ℕ) (b : ℕ) → (b == 10) ≡ true → left line (xs ++ b ∷ []) ≡ []
left_feed line [] b feed = rw feed refl
left_feed line (x ∷ xs) b feed =
    elim (x == 10) as (λ t. (if t then left [] (xs ++ b ∷ []) else left (line ++ x ∷ []) (xs ++ b ∷ [])) ≡ [])
    [ true ↦ left_feed [] xs b feed | false ↦ left_feed (line ++ x ∷ []) xs b feed ]

-- behind bytes in which the part does not end, it does not end with a byte that ends no line
pub none_byte : (xs : List ℕ) (b : ℕ) → (b == 10) ≡ false → part_end xs ≡ None → part_end (xs ++ b ∷ []) ≡ None
none_byte xs b other none = end_on [] 0 xs (b ∷ []) none ∙ rw other refl

-- with a line feed it ends where the line is its last
at_feed : (xs : List ℕ) (b : ℕ) (e : Bool) → (b == 10) ≡ true → is_end_line (left [] xs) ≡ e → part_end xs ≡ None
    → part_end (xs ++ b ∷ []) ≡ (if e then Some (0 + length xs + 1) else None)
at_feed xs b e feed is none = end_on [] 0 xs (b ∷ []) none ∙ rw (feed, is) refl

pub not_feed : (b : ℕ) → b ≢ 10 → (b == 10) ≡ false
not_feed b other = grind (arith, nat_tests)

-- the line goes on with a byte that ends no line
pub seen_byte : (s : Search) (text : List ℕ) → HasSeen s text → s.at < length text → (get_or text s.at 0 == 10) ≡ false
    → HasSeen (record { line = s.line; at = s.at + 1 }) text
seen_byte s text seen more other =
    let n = s.at - s.line in
    let b = get_or text s.at 0 in
    let shorter : take (s.at + 1) text ≡ take s.at text ++ b ∷ [] = take_more text s.at 0 more in
    let place : s.line + n ≡ s.at = omega (arith, seen.order) in
    let byte : get_or (drop s.line text) n 0 ≡ b = get_or-drop s.line text n 0 ∙ ap (λ i. get_or text i 0) place in
    let longer : take (n + 1) (drop s.line text) ≡ take n (drop s.line text) ++ b ∷ [] =
    take_more (drop s.line text) n 0 (omega (arith, length-drop s.line text, seen.order)) ∙ rw byte refl in
    let count : s.at + 1 - s.line ≡ n + 1 = omega (arith, seen.order) in
    grind (arith, left_byte, none_byte)

-- a line that is over leaves the next
pub seen_feed : (s : Search) (text : List ℕ) → HasSeen s text → s.at < length text → (get_or text s.at 0 == 10) ≡ true
    → is_end_line (take (s.at - s.line) (drop s.line text)) ≡ false
    → HasSeen (record { line = s.at + 1; at = s.at + 1 }) text
seen_feed s text seen more feed other = grind (arith, nat_tests, common_steps, take_more, left_feed, at_feed)

-- the scene part ends with its line feed
pub seen_end : (s : Search) (text : List ℕ) → HasSeen s text → s.at < length text → (get_or text s.at 0 == 10) ≡ true
    → is_end_line (take (s.at - s.line) (drop s.line text)) ≡ true → part_end text ≡ Some (s.at + 1)
seen_end s text seen more feed last =
    let b = get_or text s.at 0 in
    let front = take s.at text in
    let shorter : take (s.at + 1) text ≡ front ++ b ∷ [] = take_more text s.at 0 more in
    let count : 0 + length front + 1 ≡ s.at + 1 = omega (arith, length-take s.at text) in
    let here : part_end (take (s.at + 1) text) ≡ Some (s.at + 1) =
    rw shorter (at_feed front b true feed (rw seen.line at last) seen.none ∙ ap Some count) in
    ap (λ t. part_end t) (sym (take-append-drop (s.at + 1) text))
    ∙ end_kept [] 0 (s.at + 1) (take (s.at + 1) text) (drop (s.at + 1) text) here

-- it ends within the bytes
pub end_within : (line : List ℕ) (n k : ℕ) (xs : List ℕ) → end_after line n xs ≡ Some k → k ≤ n + length xs
end_within line n k [] some = cc
end_within line n k (b ∷ xs) some =
    let Ends : (t e : Bool) → Option ℕ =
    λ t e. (if t then (if e then Some (n + 1) else end_after [] (n + 1) xs) else end_after (line ++ b ∷ [])
    (n + 1) xs) in
    let P : (t e : Bool) → Type 0 = λ t e. Ends t e ≡ Some k → k ≤ n + length (b ∷ xs) in
    (elim (b == 10) as (λ t. P t (is_end_line line)) [
      | true ↦ elim (is_end_line line) as (λ e. P true e) [
        | true ↦ λ some. (let is : n + 1 ≡ k = cc in omega arith)
        | false ↦ λ some. (let less = end_within [] (n + 1) k xs some in omega (arith, less))
      ]
      | false ↦ λ some. (let less = end_within (line ++ b ∷ []) (n + 1) k xs some in omega (arith, less))
    ]) some
