-- The steps of the shadow passes as the functions make them, one after another.
use Rattle.px_num.proofs.Basics.{nat_tests, common_steps, map, take, take_more, map-append, ◌∷◌, [], ◌≡◌, ◌<◌, ◌+◌, ◌∙◌}
use Rattle.px_num.proofs.Basics.{ℕ, List, ◌++◌, drop, length, arith, set, range_with_len, get_or-range_with_len, get_or}
use Rattle.px_num.proofs.Basics.{All, nat_lt, true, All-weaker, drop-cons}
use Rattle.px_shadow.proofs.Words.{Linear, Macro, IsBelow, LayoutView, light_passes, lt_holds, lt_true, passes_from}
use Rattle.px_shadow.proofs.Words.{solids, solids_laws, SolidSet}
use Rattle.px_macro.specs.declared.operation.Macro.TheVariants as m
use Rattle.std.proofs.lemmas.List.Sums.{AllPass-from_list_all}
use Rattle.px_model.specs.Scenes.{SceneView}

pub number_at : (n t : ℕ) → t < n → get_or (range_with_len 0 n) t 0 ≡ t
number_at n t low = get_or-range_with_len 0 n t 0 low ∙ omega arith

-- each solid of a set that has only these is one of them
pub all_known : (count : ℕ) (set : SolidSet) → IsBelow count set → All (λ q. q < count) (solids set)
all_known count set known =
    All-weaker (λ q. nat_lt q count ≡ true) (λ q. q < count) (λ q e. lt_holds q count e) (solids set)
    (AllPass-from_list_all (λ q. nat_lt q count) (solids set)
    ((solids_laws.each (λ q. nat_lt q count) set).1 (λ q low h. lt_true q count (known q low h))))

-- stands where no light is
abbrev pub no_light : SolidSet
no_light = record { words = [] }

pub next_lights : (scene : SceneView) (l : LayoutView) (sets : List SolidSet) (i : ℕ) → i < length sets →
    passes_from scene l (i + 1) (drop i sets) ≡ light_passes scene l (i + 1) (get_or sets i no_light)
    ++ passes_from scene l (i + 1 + 1) (drop (i + 1) sets)
next_lights scene l sets i there = grind (arith, drop-cons)

-- one edge more
pub turn_more : (xs : List Linear) (i : ℕ) (d e : Linear) (ops now : List Macro)
    → ops ≡ m.All ∷ map m.KeepSign (take i xs)
    → e ≡ get_or xs i d → i < length xs → now ≡ ops ++ m.KeepSign e ∷ []
    → now ≡ m.All ∷ map m.KeepSign (take (i + 1) xs)
turn_more xs i d e ops now so_far is there more = grind (arith, nat_tests, common_steps, take_more, map-append)
