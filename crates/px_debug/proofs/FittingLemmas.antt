-- An array that fits a session, and one next to its course.
use Rattle.px_num.proofs.Basics.{◌≡◌, ℕ, ◌*◌, ◌<◌, ◌≤◌, arith, cases_lt}
use Rattle.px_debug.proofs.Words.{AreMarked, ArrayView, Fits, IsOnCourse, quarter_of, SessionView}
use Rattle.px_debug.specs.declared.course.Course.{Course}

step_up : (k n q : ℕ) → k ≤ n → k * q ≤ n * q
step_up k n q low = grind (arith, low)

was_passed : (q count now k : ℕ) → AreMarked q count now → count ≤ 4 → k ≤ 3 → k * q ≤ now → k < count
was_passed q count now k m few low passed = grind (arith, cases_lt, step_up)

pub fits_session : (bits : ℕ) (c : Course) (v : SessionView) (array : ArrayView) → v.scene ≡ c.job.scene
    → v.now ≡ c.job.place.clock → c.quarter ≡ quarter_of c.job.scene → bits ≤ 256 → IsOnCourse bits c array
    → Fits bits v array
fits_session bits c v array scene now quarter few course = grind (arith, was_passed)
