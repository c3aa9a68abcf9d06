-- Trees of rows: their levels of less than a word, and what a clear and a feed make of them.
use Rattle.px_num.proofs.Basics.{rules}
use Rattle.px_num.proofs.Basics.{◌≡◌, ℕ, ◌+◌, ◌-◌, ◌*◌, ◌/◌, ◌^◌, ◌<◌, ◌≤◌, Bool, true, false, cond, nat_lt, List}
use Rattle.px_num.proofs.Basics.{length, get_or, replicate, refl, sym, ap, subst, ◌∙◌, arith, bit_and}
use Rattle.px_num.proofs.Basics.{cases_lt, le-ltb, lt-ltb, and_mask, mod_below, pow-add, bit_at_above, bit_at-zero}
use Rattle.px_num.proofs.Basics.{pow-le-pow_right, get_or_past}
use Rattle.px_plane_tree.proofs.Words.{after_feed, AreStill, bit_down, bit_of_low, cleared, heights, IsFedHeap, IsGrid}
use Rattle.px_plane_tree.proofs.Words.{IsTree, Lines, nat_bit, next_at, next_node, Node, node_of, power_grows, row_bit}
use Rattle.px_plane_tree.proofs.Words.{rows, seen_tree, zero_node}
use Rattle.std.proofs.lemmas.Simd.{get_or-replicate, length-replicate}
use Rattle.px_num.proofs.ListLaws.{length-tabulate, get_or-tabulate, is_tabulate}
use Rattle.px_num.specs.Lists.{tabulate}

pub level_law : (word m j : ℕ) → nat_bit (bit_and (word / 2 ^ m) (2 ^ m - 1)) j
    ≡ cond (nat_lt j m) (nat_bit word (m + j)) false
level_law word m j = search (
  rules,
  nat_bit,
  and_mask,
  cases_lt,
  lt-ltb,
  bit_of_low,
  bit_down,
  le-ltb,
  bit_at_above,
  mod_below,
)

pub small_power : (k : ℕ) → k < 6 → 2 ^ k ≤ 32
small_power k h = let le : k ≤ 5 = omega arith in pow-le-pow_right {n = 2} (omega arith) le

-- ---- nodes

pub fed_law : (a b c : Bool) (first_b n : ℕ) (outputs carries new_outputs new_carries : List ℕ)
    → n ≤ 64 * length outputs
    → IsFedHeap a b c first_b (rows outputs carries) (rows new_outputs new_carries)
    → tabulate n (node_of new_outputs new_carries)
    ≡ tabulate n (next_at a b c first_b (tabulate n (node_of outputs carries)))
fed_law a b c first_b n outputs carries new_outputs new_carries enough f =
    is_tabulate (tabulate n (node_of new_outputs new_carries)) n (next_at a b c first_b
    (tabulate n (node_of outputs carries))) zero_node (length-tabulate n (node_of new_outputs new_carries))
    (λ p h.
    let here : get_or (tabulate n (node_of outputs carries)) p zero_node ≡ node_of outputs carries p =
    get_or-tabulate n (node_of outputs carries) p zero_node h in
    let parent : get_or (tabulate n (node_of outputs carries)) (p / 2) zero_node ≡ node_of outputs carries (p / 2) =
    get_or-tabulate n (node_of outputs carries) (p / 2) zero_node (omega arith) in
    get_or-tabulate n (node_of new_outputs new_carries) p zero_node h
    ∙ (f.node p (omega arith) ∙ rw (here, parent) refl))

pub node_seen : (n : ℕ) (outputs carries : List ℕ) (p : ℕ) → p < n → get_or (tabulate n (node_of outputs carries)) p
    zero_node ≡ node_of outputs carries p
node_seen n outputs carries p h = get_or-tabulate n (node_of outputs carries) p zero_node h

pub zero_bit : (n p : ℕ) → row_bit (replicate n 0) p ≡ false
zero_bit n p = grind (arith, cases_lt, get_or-replicate, get_or_past, length-replicate, bit_at-zero)

pub cleared_law : (m k n : ℕ) → tabulate m (node_of (replicate k 0) (replicate n 0)) ≡ replicate m zero_node
cleared_law m k n =
    sym (is_tabulate (replicate m zero_node) m (node_of (replicate k 0) (replicate n 0)) zero_node
    (length-replicate m zero_node)
    (λ p h. get_or-replicate m p zero_node zero_node h
    ∙ sym (ap (λ (o : Bool). record { output = o; carry = row_bit (replicate n 0) p }) (zero_bit k p)
    ∙ ap (λ (c : Bool). record { output = false; carry = c }) (zero_bit n p))))

-- ---- sizes

pub record IsTall (levels n : ℕ) : Type 0 where
  pub some : 1 ≤ n
  pub few : levels ≤ 18 → n ≤ 12
  pub enough : 2 ^ (levels + 1) ≤ 64 * 2 ^ (n + 1)
  pub exact : 8 ≤ levels → 2 ^ (levels + 1) ≡ 64 * 2 ^ (n + 1)

pub is_tall : (levels n : ℕ) → n ≡ heights levels → IsTall levels n
is_tall levels n e = grind (arith, cases_lt, lt-ltb, power_grows, le-ltb, pow-add)

zero_word_bit : (n k j : ℕ) → nat_bit (get_or (replicate n 0) k 0) j ≡ false
zero_word_bit n k j = grind (arith, cases_lt, get_or-replicate, get_or_past, length-replicate, bit_at-zero)

both_false : (b : Bool) → false ≡ cond b false false
both_false true = refl
both_false false = refl

none_next : (odd : Bool) → next_node odd false false false ≡ zero_node
none_next true = refl
none_next false = refl

pub zero_tree : (nx ny w : ℕ) (still : List Bool) → IsGrid nx ny → length still ≡ heights (nx + ny)
    → w ≡ 2 ^ (length still + 1) → IsTree nx ny (rows (replicate w 0) (replicate w 0))
    (replicate 6 0) still (record { a = false; b = false; c = false })
zero_tree nx ny w still grid tall words =
    let size = is_tall (nx + ny) (length still) tall in
    let four : 4 ≤ 2 ^ (length still + 1) = power_grows 2 (length still + 1) (let some = size.some in omega arith) in
    let fours : 2 ^ (length still + 1) ≡ 4 * 2 ^ (length still - 1) =
    ap (λ m. 2 ^ m) (let some = size.some in omega arith) ∙ pow-add 2 2 (length still - 1) in
    record {
      grid = grid;
      heap = record {
        same = refl;
        room = omega (arith, length-replicate {A = ℕ} w 0);
        fours = omega (arith, length-replicate {A = ℕ} w 0);
        odd = record { each = λ v j a b h e. zero_word_bit w v j };
        zero_output = zero_word_bit w 0 0;
        one_output = zero_word_bit w 0 1;
        one_carry = zero_word_bit w 0 1;
      };
      tall = tall;
      words = length-replicate w 0 ∙ words;
      enough = omega (arith, length-replicate {A = ℕ} w 0, size.enough);
      low = grind (arith, zero_word_bit, both_false, cond);
      rest = grind (arith, zero_word_bit, none_next, cond);
    }

pub fed_tree : (nx ny : ℕ) (last now : Lines) (outputs carries small : List ℕ) (still : List Bool)
    (new_outputs new_carries new_small : List ℕ) (new_still : List Bool) (word : ℕ)
    → IsTree nx ny (rows outputs carries) small still last
    → IsFedHeap now.a now.b now.c (2 ^ (nx + 1)) (rows outputs carries) (rows new_outputs new_carries)
    → AreStill nx now new_still new_outputs new_carries
    → length new_outputs ≡ length outputs → length new_still ≡ length still → length new_small ≡ length small
    → word ≡ get_or new_outputs 0 0
    → ((k j : ℕ) → 1 ≤ k → k < 6 → j < 64 → nat_bit (get_or new_small k 0) j ≡ cond (nat_lt j (2 ^ k))
    (nat_bit word (2 ^ k + j)) false)
    → IsTree nx ny (rows new_outputs new_carries) new_small new_still now
fed_tree nx ny last now outputs carries small still new_outputs new_carries new_small new_still word t f s lo lt ls e
    bits = record {
      grid = t.grid;
      heap = f.heap;
      tall = lt ∙ t.tall;
      words = lo ∙ (t.words ∙ ap (λ n. 2 ^ (n + 1)) (sym lt));
      enough = rw lo t.enough;
      low = record {
        long = ls ∙ t.low.long;
        each = λ k j l h i. subst (λ n. nat_bit (get_or new_small k 0) j
            ≡ cond (nat_lt j (2 ^ k)) (nat_bit n (2 ^ k + j)) false) e (bits k j l h i);
      };
      rest = s;
    }

-- ---- whole trees

pub fed_seen : (nx ny : ℕ) (a b c : Bool) (outputs carries new_outputs new_carries : List ℕ)
    → 2 ^ (nx + ny + 1) ≤ 64 * length outputs
    → IsFedHeap a b c (2 ^ (nx + 1)) (rows outputs carries) (rows new_outputs new_carries)
    → seen_tree nx ny new_outputs new_carries ≡ after_feed a b c (seen_tree nx ny outputs carries)
fed_seen nx ny a b c outputs carries new_outputs new_carries enough f =
    ap (λ (nodes : List Node). record { nx = nx; ny = ny; nodes = nodes })
    (fed_law a b c (2 ^ (nx + 1)) (2 ^ (nx + ny + 1)) outputs carries new_outputs new_carries enough f)

pub cleared_seen : (nx ny k n : ℕ) → seen_tree nx ny (replicate k 0) (replicate n 0) ≡ cleared nx ny
cleared_seen nx ny k n =
    ap (λ (nodes : List Node). record { nx = nx; ny = ny; nodes = nodes }) (cleared_law (2 ^ (nx + ny + 1)) k n)

pub bit_seen : (n : ℕ) (outputs carries : List ℕ) (p q : ℕ) → p ≡ q → p < n → row_bit outputs p
    ≡ (get_or (tabulate n (node_of outputs carries)) q zero_node).output
bit_seen n outputs carries p q e h = rw (← e) (ap (λ (m : Node). m.output) (sym (node_seen n outputs carries p h)))

pub carry_seen : (n : ℕ) (outputs carries : List ℕ) (p q : ℕ) → p ≡ q → p < n → row_bit carries p
    ≡ (get_or (tabulate n (node_of outputs carries)) q zero_node).carry
carry_seen n outputs carries p q e h = rw (← e) (ap (λ (m : Node). m.carry) (sym (node_seen n outputs carries p h)))
