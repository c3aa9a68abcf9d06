-- The broadcasts of one operation, from one up to another.
use Rattle.px_num.proofs.Basics.{◌≡◌, ℕ, ◌+◌, ◌-◌, ◌<◌, ◌≤◌, List, ◌++◌, length, take, drop, get_or, Some, subst, sym}
use Rattle.px_num.proofs.Basics.{ap, ◌∙◌, arith, between, slice_get, take-add, drop-take, same_lists, between_is}
use Rattle.px_control.proofs.Words.{after_clocks, after_clocks-append, all_clocked, all_micros, columns_of, cycles}
use Rattle.px_control.proofs.Words.{cycles_in, cycles_on, Device, get_or-tabulate, grid_after_clocks}
use Rattle.px_control.proofs.Words.{grid_of_zero_state, HasGrid, IsAt, IsGrid, length-tabulate, Macro, micro_at}
use Rattle.px_control.proofs.Words.{micros, micros_on, passes, Place, rows_of, SceneView, StandsFor, start_of, total}
use Rattle.px_control.proofs.Words.{zero_state}
use Rattle.std.proofs.lemmas.List.Edits.{get_or-between, length-between}
use Rattle.px_control.specs.Program.{array_after, program}
use Rattle.px_control.specs.ProgramLaws.{HaveLawfulPasses}
use Rattle.px_control.proofs.PlaceLemmas.{here_of}
use Rattle.px_control.proofs.ArrayLaws.{columns_at, rows_at}
use Rattle.px_control.proofs.StepLemmas.{micro_here, start_within}

-- the front of a list up to a place, and what follows up to another
take_further : {X : Type 0} (xs : List X) (n k : ℕ) → n ≤ k → take k xs ≡ take n xs ++ between n k xs
take_further xs n k low =
    let k_is : n + (k - n) ≡ k = omega arith in
    let cut : between n k xs ≡ take (k - n) (drop n xs) =
    between_is xs n k ∙ (ap (λ j. drop n (take j xs)) (sym k_is) ∙ drop-take n (k - n) xs) in
    ap (λ j. take j xs) (sym k_is) ∙ (take-add n (k - n) xs ∙ ap (λ ys. take n xs ++ ys) (sym cut))

-- the broadcasts of a program from one up to another of one operation are its micros
same_micros : (ms : List Macro) (nx ny k i j : ℕ) (m : Macro) → slice_get ms k ≡ Some m → i ≤ j → j ≤ cycles m nx ny →
    length (all_micros (take k ms) nx ny) + j ≤ length (all_micros ms nx ny) →
    between (length (all_micros (take k ms) nx ny) + i) (length (all_micros (take k ms) nx ny) + j)
    (all_micros ms nx ny) ≡ between i j (micros m nx ny)
same_micros ms nx ny k i j m here low within inside =
    let start = length (all_micros (take k ms) nx ny) in
    let all = all_micros ms nx ny in
    let here_on = micros m nx ny in
    let count = length-tabulate (cycles m nx ny) (micro_at m nx ny) in
    let first : length (between (start + i) (start + j) all) ≡ j - i =
    length-between all (start + i) (start + j) inside ∙ omega arith in
    let second : length (between i j here_on) ≡ j - i = length-between here_on i j (omega (arith, count)) in
    same_lists (between (start + i) (start + j) all) (between i j here_on) (first ∙ sym second) (λ n d below.
    let within_all : (start + i) + n < start + j = omega (arith, first) in
    let place : (start + i) + n ≡ start + (i + n) = omega arith in
    get_or-between all (start + i) (start + j) n d within_all
    ∙ (ap (λ p. get_or all p d) place
    ∙ (micro_here ms nx ny k (i + n) m d here (omega (arith, first))
    ∙ sym (get_or-between here_on i j n d (omega (arith, first)) ∙ get_or-tabulate (cycles m nx ny) (micro_at m nx ny)
    (i + n) d (omega (arith, first))))))

-- its grid is that of the scene
pub columns_are : (bits : ℕ) (scene : SceneView) (n : ℕ) (device : Device) → IsAt bits scene n device
    → device.state.tree.nx ≡ columns_of scene
columns_are bits scene n device at = ap (λ d. d.state.tree.nx) at.reached ∙ columns_at bits scene n

pub rows_are : (bits : ℕ) (scene : SceneView) (n : ℕ) (device : Device) → IsAt bits scene n device
    → device.state.tree.ny ≡ rows_of scene
rows_are bits scene n device at = ap (λ d. d.state.tree.ny) at.reached ∙ rows_at bits scene n

pub grid_at : (bits : ℕ) (scene : SceneView) (n : ℕ) (device : Device) → IsGrid (columns_of scene) (rows_of scene)
    → IsAt bits scene n device → IsGrid device.state.tree.nx device.state.tree.ny
grid_at bits scene n device grid at = rw (columns_are bits scene n device at, rows_are bits scene n device at) grid

pub pixels_at : (bits : ℕ) (scene : SceneView) (n : ℕ) (device : Device) → IsAt bits scene n device →
    HasGrid bits device.state.tree.nx device.state.tree.ny device.state
unfolding array_after
pixels_at bits scene n device at =
    let nx = columns_of scene in
    let ny = rows_of scene in
    let there : HasGrid bits nx ny (array_after bits scene n).state =
    grid_after_clocks bits nx ny (take n (program scene)) (zero_state bits nx ny) (grid_of_zero_state bits nx ny) in
    let here : HasGrid bits nx ny device.state =
    subst (λ (d : Device). HasGrid bits nx ny d.state) (sym at.reached) there in
    subst (λ x. HasGrid bits x device.state.tree.ny device.state) (sym (columns_are bits scene n device at))
    (subst (λ y. HasGrid bits nx y device.state) (sym (rows_are bits scene n device at)) here)

pub cycles_are : (bits : ℕ) (scene : SceneView) (n : ℕ) (device : Device) (m : Macro) → IsAt bits scene n device
    → cycles_on device m ≡ cycles_in scene m
cycles_are bits scene n device m at = grind (arith, columns_are, rows_are)

-- the array after these broadcasts
pub at_run : (bits : ℕ) (scene : SceneView) (p : Place) (m : Macro) (to : ℕ) (before now : Device)
    → HaveLawfulPasses scene → StandsFor scene p → p.current ≡ Some m → p.micro ≤ to → to ≤ cycles_in scene m
    → IsAt bits scene p.clock before → now ≡ all_clocked (between p.micro to (micros_on before m)) before
    → IsAt bits scene (p.clock + (to - p.micro)) now
unfolding array_after program
at_run bits scene p m to before now lawful stands e low within at is =
    let here = here_of scene p m lawful stands e in
    let nx = columns_of scene in
    let ny = rows_of scene in
    let start = start_of scene p.operation in
    let zeros = zero_state bits nx ny in
    let made = between p.micro to (micros m nx ny) in
    let end : p.clock + (to - p.micro) ≡ start + to = omega (arith, stands.clock) in
    let inside : start + to ≤ total scene =
    omega (arith, here.next, start_within (passes scene) nx ny (p.operation + 1)) in
    let columns = columns_are bits scene p.clock before at in
    let rows = rows_are bits scene p.clock before at in
    let list : take (start + to) (program scene) ≡ take (start + p.micro) (program scene) ++ made =
    take_further (program scene) (start + p.micro) (start + to) (omega arith)
    ∙ ap (λ ms. take (start + p.micro) (program scene) ++ ms) (same_micros (passes scene) nx ny p.operation p.micro to
    m here.at low within inside) in
    let state : after_clocks (take (start + to) (program scene)) zeros
    ≡ after_clocks made (after_clocks (take (start + p.micro) (program scene)) zeros) =
    ap (λ ms. after_clocks ms zeros) list ∙ after_clocks-append (take (start + p.micro) (program scene)) made zeros in
    let count : length made ≡ to - p.micro =
    length-between (micros m nx ny) p.micro to (omega (arith, length-tabulate (cycles m nx ny) (micro_at m nx ny))) in
    let from : before ≡ record {
      state = after_clocks (take (start + p.micro) (program scene)) zeros;
      clocks = p.clock;
    } =
    at.reached ∙ ap (λ n. record { state = after_clocks (take n (program scene)) zeros; clocks = p.clock })
    stands.clock in
    record {
      enough = at.enough;
      reached = is
          ∙ (ap (λ x. all_clocked (between p.micro to (micros m x before.state.tree.ny)) before) columns
          ∙ (ap (λ y. all_clocked (between p.micro to (micros m nx y)) before) rows
          ∙ (ap (all_clocked made) from
          ∙ (ap (λ s. record { state = s; clocks = p.clock + length made }) (sym state)
          ∙ (ap (λ n. record { state = after_clocks (take n (program scene)) zeros; clocks = p.clock + length made })
          (sym end)
          ∙ ap (λ n. record {
            state = after_clocks (take (p.clock + (to - p.micro)) (program scene)) zeros;
            clocks = p.clock + n;
          }) count)))));
    }
