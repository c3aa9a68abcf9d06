-- One name more, which is none of those before.
use Rattle.px_num.proofs.Basics.{nat_tests, common_steps, zero, suc, ◌≡◌, ◌≢◌, ℕ, ◌<◌, List, [], ◌∷◌, ◌++◌, length}
use Rattle.px_num.proofs.Basics.{get_or, Bool, true, false, ◌||◌, refl, sym, arith, bytes_eq, all_pairs_push}
use Rattle.px_scene.proofs.Words.{is_among, is_name, Words}
use Rattle.std.specs.Cmp.Lexicographic.{other_text}
use Rattle.px_show.specs.Printed.{AreDistinctNames}

neither : (a b : Bool) → a || b ≡ false → (a ≡ false) × (b ≡ false)
neither false b e = (refl, e)
neither true b e = cc

others : (names : Words) (name : List ℕ) → is_among names name ≡ false → (k : ℕ) (e : List ℕ) → k < length names
    → get_or names k e ≢ name
others [] name fresh k e lt = absurd (omega arith)
others (n ∷ ns) name fresh zero e lt = other_text n name (sym (neither (bytes_eq n name) _ fresh).0)
others (n ∷ ns) name fresh (suc k) e lt = others ns name (neither (bytes_eq n name) _ fresh).1 k e (omega arith)

pub names_push : (names : Words) (name : List ℕ) → AreDistinctNames names → is_name name ≡ true
    → is_among names name ≡ false → AreDistinctNames (names ++ name ∷ [])
names_push names name are lawful fresh = grind (arith, nat_tests, common_steps, all_pairs_push, others)
