-- Laws of sets of solids, for whoever reasons of several of them: how a test goes over their solids. Clauses of
-- public calls stand on it.
use Rattle.std.specs.Prelude.{ℕ, ◌≡◌, ◌<◌, ◌↔◌, Bool, true, false, ◌&&◌, ◌||◌}
use Rattle.std.specs.List.{list_all, list_any}
use Rattle.px_normal.specs.declared.set.SolidSet.{SolidSet}
use Rattle.px_normal.specs.Sets.{has, empty, one, sets_joined, solids}

pub record LawsOfSets : Type 0 where
  pub all_of_none : (test : ℕ → Bool) → list_all test (solids empty) ≡ true
  pub some_of_none : (test : ℕ → Bool) → list_any test (solids empty) ≡ false
  pub all_of_one : (test : ℕ → Bool) (solid : ℕ) → solid < 256 → list_all test (solids (one solid)) ≡ test solid
  pub some_of_one : (test : ℕ → Bool) (solid : ℕ) → solid < 256 → list_any test (solids (one solid)) ≡ test solid
  pub all_of_joined : (test : ℕ → Bool) (a b : SolidSet) →
      list_all test (solids (sets_joined a b)) ≡ (list_all test (solids a) && list_all test (solids b))
  pub some_of_joined : (test : ℕ → Bool) (a b : SolidSet) →
      list_any test (solids (sets_joined a b)) ≡ (list_any test (solids a) || list_any test (solids b))
  -- the solids of a set are those that it has, each one below 256
  pub each : (test : ℕ → Bool) (set : SolidSet) →
      (list_all test (solids set) ≡ true) ↔ ((solid : ℕ) → solid < 256 → has set solid ≡ true → test solid ≡ true)
