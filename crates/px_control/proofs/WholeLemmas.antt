-- Operations that are held on the way through a program, and then made.
use Rattle.px_num.proofs.Basics.{◌≡◌, ℕ, ◌+◌, ◌-◌, ◌≤◌, All, All-append, List, [], ◌∷◌, ◌++◌, length, Some, sym, ap}
use Rattle.px_num.proofs.Basics.{◌∙◌, get_or, arith, append-nil, length-append, between}
use Rattle.px_control.proofs.Words.{all_clocked, all_clocked-append, all_made, CanMake, cycles_in, Device}
use Rattle.px_control.proofs.Words.{flat_map-append, HasGrid, Holds, IsAt, IsLawful, IsLawfulInMore, layout_of, Macro}
use Rattle.px_control.proofs.Words.{micros_on, need_of, nx-after_clocks, ny-after_clocks, Place, SceneView, StandsFor}
use Rattle.px_control.proofs.Words.{total}
use Rattle.px_asm.proofs.MakingLemmas.{all_of_them}
use Rattle.px_control.specs.ProgramLaws.{HaveLawfulPasses, IsGoodProgram}
use Rattle.px_control.proofs.PlaceLemmas.{clocks_at}
use Rattle.px_control.proofs.RunLemmas.{at_run, cycles_are, pixels_at, columns_are, rows_are}

-- one operation more of the program
pub at_more : (bits : ℕ) (scene : SceneView) (p : Place) (m : Macro) (n : ℕ) (before : Device) → HaveLawfulPasses scene
    → StandsFor scene p → p.current ≡ Some m → p.micro ≡ 0 → n ≡ p.clock + (cycles_in scene m - p.micro)
    → IsAt bits scene p.clock before → IsAt bits scene n (all_clocked (micros_on before m) before)
at_more bits scene p m n before lawful stands e first n_is at =
    let whole : between p.micro (cycles_in scene m) (micros_on before m) ≡ micros_on before m =
    rw (first, ← cycles_are bits scene p.clock before m at)
    (all_of_them m before.state.tree.nx before.state.tree.ny) in
    let run = at_run bits scene p m (cycles_in scene m) before _ lawful stands e (omega (arith, first)) (omega arith) at
    (ap (λ ms. all_clocked ms before) (sym whole)) in
    rw n_is run

-- some operations, and then others
pub made_both : (xs ys : List Macro) (d : Device) → all_made (xs ++ ys) d ≡ all_made ys (all_made xs d)
made_both xs ys d = grind (arith, flat_map-append, all_clocked-append, nx-after_clocks, ny-after_clocks)

pub made_more : (ops : List Macro) (m : Macro) (d : Device) → all_made (ops ++ m ∷ []) d
    ≡ all_clocked (micros_on (all_made ops d) m) (all_made ops d)
made_more ops m d = made_both ops (m ∷ []) d ∙ ap (λ ms. all_clocked ms (all_made ops d)) (append-nil _)

-- the first operations that are held
pub holds_first : (bits : ℕ) (scene : SceneView) (n end : ℕ) (held : List Macro) (device : Device)
    → IsAt bits scene n device
    → All (λ m. IsLawful m (need_of (layout_of scene))) held
    → ((bits : ℕ) (d : Device) → IsAt bits scene n d → IsAt bits scene end (all_made held d))
    → Holds bits scene end held device
holds_first bits scene n end held device at lawful leads = record {
  pixels = rw (← columns_are bits scene n device at, ← rows_are bits scene n device at)
      (pixels_at bits scene n device at);
  lawful = lawful;
  reached = leads bits device at;
}

-- the operations that are held can be made, and those behind them
pub can_make : IsLawfulInMore → (bits : ℕ) (scene : SceneView) (n : ℕ) (held behind : List Macro) (device : Device)
    → IsGoodProgram scene → Holds bits scene n held device → n ≤ total scene
    → All (λ m. IsLawful m (need_of (layout_of scene))) behind → length held ≤ 512 → length behind ≤ 512
    → CanMake bits (held ++ behind) device
can_make more bits scene n held behind device good holds within lawful few fewer =
    let all : All (λ m. IsLawful m (need_of (layout_of scene))) (held ++ behind) =
    All-append (λ m. IsLawful m (need_of (layout_of scene))) held behind holds.lawful lawful in
    let size = length-append held behind in
    let made = clocks_at bits scene n (all_made held device) holds.reached in
    record {
      grid = rw (holds.pixels.columns, holds.pixels.rows) good.grid;
      pixels = grind arith;
      lawful = λ i d low. more (get_or (held ++ behind) i d) _ 256 (omega (arith, good.bits)) (all i d low);
      places = λ i d low. more (get_or (held ++ behind) i d) _ bits holds.reached.enough (all i d low);
      counted = omega (arith, good.clocks, made, size);
    }

-- those that are held are made, and those behind them held
pub holds_more : (bits : ℕ) (scene : SceneView) (n end : ℕ) (held behind : List Macro) (before now : Device)
    → Holds bits scene n held before → All (λ m. IsLawful m (need_of (layout_of scene))) behind
    → ((bits : ℕ) (d : Device) → IsAt bits scene n d → IsAt bits scene end (all_made behind d))
    → HasGrid bits before.state.tree.nx before.state.tree.ny now.state
    → all_made behind now ≡ all_made (held ++ behind) before → Holds bits scene end behind now
holds_more bits scene n end held behind before now holds lawful leads pixels made = record {
  pixels = rw (holds.pixels.columns, holds.pixels.rows) at pixels;
  lawful = lawful;
  reached = rw (made, made_both held behind before) (leads bits (all_made held before) holds.reached);
}

-- where nothing is held any more, all its clocks are made
pub clocks_made : (bits : ℕ) (scene : SceneView) (n : ℕ) (held : List Macro) (device : Device) → length held ≡ 0
    → Holds bits scene n held device → device.clocks ≡ n
clocks_made bits scene n [] device none holds = omega (arith, clocks_at bits scene n (all_made [] device) holds.reached)
clocks_made bits scene n (m ∷ held) device none holds = absurd (omega arith)
