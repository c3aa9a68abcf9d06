-- Two runs of the same micros from states of which some parts are known to be the same.
use Rattle.px_num.proofs.Basics.{◌≡◌, ℕ, zero, suc, ◌+◌, ◌-◌, ◌*◌, ◌/◌, ◌%◌, ◌^◌, ◌<◌, ◌≤◌, ◌==◌, Bool, true, false}
use Rattle.px_num.proofs.Basics.{if◌then◌else◌, List, [], ◌∷◌, All, refl, sym, subst, ◌∙◌, arith, nat_tests}
use Rattle.px_asm.proofs.Words.{Act, act_at, after_act, after_clock, after_clocks, after_clocks-append, after_tree_op}
use Rattle.px_asm.proofs.Words.{all_known, all_micros, all_renewed, Clear, cycles, ext_get_or, Feed, grid_after_clock}
use Rattle.px_asm.proofs.Words.{HasGrid, Hold, IsLawful, Known, Macro, Micro, micro_at, micros, no_pixel, pixel_at}
use Rattle.px_asm.proofs.Words.{pixel_at-after_clock, PixelState, renewed, State, tree_at, TreeOp, TreeState}
use Rattle.px_asm.proofs.StepLemmas.{run_is_steps, steps}
use Rattle.px_array.specs.declared.act.Act.TheVariants as act
use Rattle.px_macro.specs.declared.operation.Macro.TheVariants as m

pub record AlikePixels (k : Known) (p q : PixelState) : Type 0 where
  pub memory : p.memory ≡ q.memory
  pub enable : p.enable ≡ q.enable
  pub carry : k.carry ≡ true → p.carry ≡ q.carry
  pub latch : k.latch ≡ true → p.latch ≡ q.latch

pub record Alike (bits nx ny : ℕ) (k : Known) (s t : State) : Type 0 where
  pub first : HasGrid bits nx ny s
  pub second : HasGrid bits nx ny t
  pub pixels : (place : ℕ) → place < 2 ^ (nx + ny) → AlikePixels k (pixel_at s place) (pixel_at t place)
  pub tree : k.tree ≡ true → s.tree ≡ t.tree

-- ---- one act

-- what an act reads is known
abbrev pub suits : Act → Known → Type 0
suits (act.EnableCarry v) k = k.carry ≡ true
suits (act.EnableTree v) k = k.tree ≡ true
suits (act.StoreTree at) k = k.tree ≡ true
suits (act.StoreLatch at) k = k.latch ≡ true
suits (act.CarryTree at) k = k.tree ≡ true
suits (act.CarryLatch at) k = k.latch ≡ true
suits (act.AddTree at) k = (k.tree ≡ true) × (k.carry ≡ true)
suits a k = Unit {0}

abbrev pub known_by_act : Act → Known → Known
known_by_act (act.SetCarry v) k = record { tree = k.tree; carry = true; latch = k.latch }
known_by_act (act.Fetch at) k = record { tree = k.tree; carry = k.carry; latch = true }
known_by_act a k = k

pub act_alike : (a : Act) (k : Known) (b c : Bool) (p q : PixelState) → suits a k → (k.tree ≡ true → b ≡ c)
    → AlikePixels k p q → AlikePixels (known_by_act a k) (after_act a b p) (after_act a c q)
act_alike a k b c p q fit tree h = grind arith

-- ---- one clock

abbrev pub known_by_op : TreeOp → Known → Known
known_by_op Hold k = k
known_by_op Clear k = record { tree = true; carry = k.carry; latch = k.latch }
known_by_op (Feed a b c) k = k

abbrev pub known_by : Micro → Known → Known
known_by micro k = known_by_op micro.tree (known_by_act micro.act k)

act_keeps_tree : (a : Act) (k : Known) → (known_by_act a k).tree ≡ k.tree
act_keeps_tree act.Nop k = refl
act_keeps_tree a k = refl

op_alike : (op : TreeOp) (k : Known) (p q : PixelState) → AlikePixels k p q → AlikePixels (known_by_op op k) p q
op_alike op k p q h = grind arith

trees_alike : (op : TreeOp) (k : Known) (s t : TreeState) → s.nx ≡ t.nx → s.ny ≡ t.ny → (k.tree ≡ true → s ≡ t)
    → (known_by_op op k).tree ≡ true → after_tree_op op s ≡ after_tree_op op t
trees_alike op k s t columns rows same known = grind arith

pub clock_alike : (bits nx ny : ℕ) (micro : Micro) (k : Known) (s t : State) → suits micro.act k
    → Alike bits nx ny k s t → Alike bits nx ny (known_by micro k) (after_clock micro s) (after_clock micro t)
clock_alike bits nx ny micro k s t fit h =
    record {
      first = grid_after_clock bits nx ny micro s h.first;
      second = grid_after_clock bits nx ny micro t h.second;
      pixels = grind (arith, act_alike, pixel_at-after_clock, op_alike);
      tree = grind (arith, trees_alike, act_keeps_tree);
    }

-- ---- a run of clocks that need nothing but what is known

pub record Keeps (micro : Micro) (k : Known) : Type 0 where
  pub fit : suits micro.act k
  pub same : known_by micro k ≡ k

pub run_alike : (bits nx ny : ℕ) (micro : ℕ → Micro) (k : Known) (from n : ℕ) (s t : State)
    → ((i : ℕ) → from ≤ i → i < from + n → Keeps (micro i) k)
    → Alike bits nx ny k (steps micro from s) (steps micro from t)
    → Alike bits nx ny k (steps micro (from + n) s) (steps micro (from + n) t)
run_alike bits nx ny micro k from zero s t keeps h = grind arith
run_alike bits nx ny micro k from (suc n) s t keeps h =
    let before = run_alike bits nx ny micro k from n s t (λ i low high. keeps i low (omega arith)) h in
    let here = keeps (from + n) (omega arith) (omega arith) in
    let e : from + suc n ≡ suc (from + n) = omega arith in
    let one = clock_alike bits nx ny (micro (from + n)) k (steps micro (from + n) s) (steps micro (from + n) t)
    here.fit before in
    rw e (rw here.same at one)

-- ---- the operations

-- one of two micros, or one of two acts, where each keeps what is known
keeps_choice : (b : Bool) (x y : Micro) (k : Known) → Keeps x k → Keeps y k → Keeps (if b then x else y) k
keeps_choice true x y k first second = first
keeps_choice false x y k first second = second

keeps_act : (op : TreeOp) (b : Bool) (x y : Act) (k : Known) → Keeps (record { tree = op; act = x }) k
    → Keeps (record { tree = op; act = y }) k → Keeps (record { tree = op; act = if b then x else y }) k
keeps_act op true x y k first second = first
keeps_act op false x y k first second = second

-- what is known while a form is fed: where the tree is known, it stays so
abbrev while_fed : (carry latch : Bool) → Known
while_fed carry latch = record { tree = true; carry = carry; latch = latch }

op_keeps : (op : TreeOp) (carry latch : Bool) → known_by_op op (while_fed carry latch) ≡ while_fed carry latch
op_keeps Hold carry latch = refl
op_keeps op carry latch = refl

keeps_fed : (op : TreeOp) (a : Act) (carry latch : Bool) → suits a (while_fed carry latch)
    → known_by_act a (while_fed carry latch) ≡ while_fed carry latch
    → Keeps (record { tree = op; act = a }) (while_fed carry latch)
keeps_fed op a carry latch fit same = grind (arith, op_keeps)

not_first : (i n : ℕ) → i < n → (i == n) ≡ false
not_first i n low = grind (arith, nat_tests)

not_zero : (i : ℕ) → 1 ≤ i → (i == 0) ≡ false
not_zero i some = grind (arith, nat_tests)

-- the acts on the bits of the value
bits_keep : (op : TreeOp) (levels i : ℕ) (first : Act) (each : ℕ → Act) (carry latch : Bool) → 1 ≤ i
    → ((t : ℕ) → Keeps (record { tree = op; act = each t }) (while_fed carry latch))
    → Keeps (record { tree = op; act = act_at levels first each i }) (while_fed carry latch)
bits_keep op levels i first each carry latch some keeps = grind (arith, not_zero, keeps_act, keeps_fed)

-- the first clock, and then those that need nothing but what is known
first_then : (bits nx ny : ℕ) (micro : ℕ → Micro) (k l : Known) (n count : ℕ) (s t : State) → count ≡ 1 + n
    → suits (micro 0).act k → known_by (micro 0) k ≡ l → ((i : ℕ) → 1 ≤ i → i < count → Keeps (micro i) l)
    → Alike bits nx ny k s t → Alike bits nx ny l (steps micro count s) (steps micro count t)
first_then bits nx ny micro k l n count s t total fit known keeps h =
    let one = clock_alike bits nx ny (micro 0) k s t fit h in
    let start : Alike bits nx ny l (steps micro 1 s) (steps micro 1 t) = rw known at one in
    rw total (run_alike bits nx ny micro l 1 n s t (λ i low high. keeps i low (omega arith)) start)

module _ (bits nx ny : ℕ) (k : Known) (s t : State) (h : Alike bits nx ny k s t) where
  -- operations of one clock, which need nothing
  one_clock : (micro : ℕ → Micro) → Keeps (micro 0) k → Alike bits nx ny k (steps micro 1 s) (steps micro 1 t)
  one_clock micro keeps = rw (← keeps.same) (clock_alike bits nx ny (micro 0) k s t keeps.fit h)

  steps_alike : (op : Macro) → IsLawful op bits → Alike bits nx ny (renewed op k)
      (steps (micro_at op nx ny) (cycles op nx ny) s) (steps (micro_at op nx ny) (cycles op nx ny) t)
  steps_alike (m.KeepSign form) lawful =
      let last = 40 + (nx + ny) in
      let early : (0 == last) ≡ false = not_first 0 last (omega arith) in
      first_then bits nx ny (micro_at (m.KeepSign form) nx ny) k (while_fed k.carry k.latch) last (41 + (nx + ny)) s t
      (omega arith) (rw early tt) (rw early refl)
      (λ i low high.
      let op = tree_at form nx ny i in
      keeps_act op (i == last) (act.EnableTree false) act.Nop _
      (keeps_fed op (act.EnableTree false) k.carry k.latch refl refl)
      (keeps_fed op act.Nop k.carry k.latch tt refl)) h
  steps_alike (m.LoadLinear form f) lawful =
      first_then bits nx ny (micro_at (m.LoadLinear form f) nx ny) k (while_fed k.carry k.latch) (nx + ny + f.len)
      (1 + (nx + ny) + f.len) s t (omega arith) tt refl
      (λ i low high.
      let op = tree_at form nx ny i in
      bits_keep op (nx + ny) i act.Nop (λ u. act.StoreTree (f.at + u)) k.carry k.latch low
      (λ u. keeps_fed op (act.StoreTree (f.at + u)) k.carry k.latch refl refl)) h
  steps_alike (m.KeepAtMost form f) lawful =
      let last = 1 + (nx + ny) + f.len in
      let early : (0 == last) ≡ false = not_first 0 last (omega arith) in
      first_then bits nx ny (micro_at (m.KeepAtMost form f) nx ny) k (while_fed true k.latch) last
      (2 + (nx + ny) + f.len) s t (omega arith) (rw early tt) (rw early refl)
      (λ i low high.
      let op = tree_at form nx ny i in
      keeps_choice (i == last) (record { tree = Hold; act = act.EnableCarry true }) _ _
      (record { fit = refl; same = refl })
      (bits_keep op (nx + ny) i (act.SetCarry true) (λ u. act.CarryTree (f.at + u)) true k.latch low
      (λ u. keeps_fed op (act.CarryTree (f.at + u)) true k.latch refl refl))) h
  steps_alike (m.AddLinear form f) lawful =
      first_then bits nx ny (micro_at (m.AddLinear form f) nx ny) k (while_fed true k.latch) (nx + ny + f.len)
      (1 + (nx + ny) + f.len) s t (omega arith) tt refl
      (λ i low high.
      let op = tree_at form nx ny i in
      bits_keep op (nx + ny) i (act.SetCarry false) (λ u. act.AddTree (f.at + u)) true k.latch low
      (λ u. keeps_fed op (act.AddTree (f.at + u)) true k.latch (refl, refl) refl)) h
  steps_alike (m.LoadConst f c) lawful =
      let e : 0 + f.len ≡ f.len = omega arith in
      rw e at (run_alike bits nx ny (micro_at (m.LoadConst f c) nx ny) k 0 f.len s t
      (λ i low high. record { fit = tt; same = refl }) h)
  steps_alike (m.Copy f g) lawful =
      let l : Known = record { tree = k.tree; carry = k.carry; latch = true } in
      first_then bits nx ny (micro_at (m.Copy f g) nx ny) k l (2 * f.len - 1) (2 * f.len) s t
      (omega (arith, lawful.0.fields.0.from_one)) tt refl
      (λ i low high. keeps_act Hold (i % 2 == 0) (act.Fetch (f.at + i / 2)) (act.StoreLatch (g.at + i / 2)) l
      (record { fit = tt; same = refl }) (record { fit = refl; same = refl })) h
  steps_alike (m.KeepLess f g) lawful =
      let micro = micro_at (m.KeepLess f g) nx ny in
      let l : Known = record { tree = k.tree; carry = true; latch = k.latch } in
      let l2 : Known = record { tree = k.tree; carry = true; latch = true } in
      let one = clock_alike bits nx ny (micro 0) k s t tt h in
      let second : (1 == 1 + 2 * f.len) ≡ false = not_first 1 (1 + 2 * f.len) (omega arith) in
      let two = clock_alike bits nx ny (micro 1) l (steps micro 1 s) (steps micro 1 t) (rw second tt) one in
      let known : known_by (micro 1) l ≡ l2 = rw second refl in
      let start : Alike bits nx ny l2 (steps micro 2 s) (steps micro 2 t) =
      subst (λ (j : Known). Alike bits nx ny j (steps micro 2 s) (steps micro 2 t)) known two in
      run_alike bits nx ny micro l2 2 (2 * f.len) s t
      (λ i low high.
      let later : (i == 0) ≡ false = not_zero i (omega arith) in
      rw later (keeps_act Hold (i == 1 + 2 * f.len) (act.EnableCarry false) _ l2 (record { fit = refl; same = refl })
      (keeps_act Hold (i % 2 == 1) (act.Fetch (g.at + (i - 1) / 2)) (act.CarryLatch (f.at + (i - 1) / 2)) l2
      (record { fit = tt; same = refl }) (record { fit = refl; same = refl })))) start
  steps_alike op lawful = one_clock (micro_at op nx ny) (record { fit = tt; same = refl })

pub micros_alike : (bits nx ny : ℕ) (k : Known) (s t : State) (op : Macro) → IsLawful op bits → Alike bits nx ny k s t
    → Alike bits nx ny (renewed op k) (after_clocks (micros op nx ny) s) (after_clocks (micros op nx ny) t)
micros_alike bits nx ny k s t op lawful h = grind (arith, run_is_steps, steps_alike)

pub all_micros_alike : (bits nx ny : ℕ) (ops : List Macro) → All (λ op. IsLawful op bits) ops
    → (k : Known) (s t : State) → Alike bits nx ny k s t → Alike bits nx ny (all_renewed ops k)
    (after_clocks (all_micros ops nx ny) s) (after_clocks (all_micros ops nx ny) t)
all_micros_alike bits nx ny [] lawful k s t h = h
all_micros_alike bits nx ny (op ∷ ops) lawful k s t h =
    let rest : All (λ m. IsLawful m bits) ops = λ i d low. lawful (suc i) d (omega arith) in
    let first = micros_alike bits nx ny k s t op (lawful 0 op (omega arith)) h in
    grind (arith, after_clocks-append, all_micros_alike bits nx ny ops rest (renewed op k) _ _ first)

-- ---- where all is known, the states are the same

pub same_pixel : (p q : PixelState) → p.memory ≡ q.memory → p.enable ≡ q.enable → p.carry ≡ q.carry
    → p.latch ≡ q.latch → p ≡ q
same_pixel p q memory enable carry latch = grind arith

pub same_state : (bits nx ny : ℕ) (s t : State) → Alike bits nx ny all_known s t → s ≡ t
same_state bits nx ny s t h =
    let pixels : s.pixels ≡ t.pixels =
    ext_get_or no_pixel s.pixels t.pixels (h.first.pixels ∙ sym h.second.pixels)
    (λ place inside.
    let one = h.pixels place (omega (arith, h.first.pixels)) in
    same_pixel (pixel_at s place) (pixel_at t place) one.memory one.enable (one.carry refl) (one.latch refl)) in
    grind arith
