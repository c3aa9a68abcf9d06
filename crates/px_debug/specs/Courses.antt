-- A job on its course, with an array. Only proofs and private functions stand on it.
use Rattle.std.specs.Prelude.{◌≡◌, ℕ}
use Rattle.circular_buffer.specs.Buffer.{buffer}
use Rattle.px_array.specs.Slots.{ArrayView}
use Rattle.px_control.specs.Program.{IsAt}
use Rattle.px_debug.specs.Marks.{AreAlmostMarked, AreMarked, HasMarks, HasSlots, last_before}
use Rattle.px_debug.specs.Moves.{quarter_of}
use Rattle.px_debug.specs.declared.course.Course.{Course}

-- the array is as the job's broadcasts leave it, and each quarter that was passed has its place and its slot
pub record IsOnCourse (bits : ℕ) (c : Course) (array : ArrayView) : Type 0 where
  pub at : IsAt bits c.job.scene c.job.place.clock array.device
  pub marks : HasMarks c.job.scene c.quarter c.passed c.places
  pub marked : AreMarked c.quarter c.passed c.job.place.clock
  pub keeps : HasSlots bits c.job.scene c.quarter c.passed array.slots

-- the same, where the next quarter may have been passed just now
pub record IsAlmostOnCourse (bits : ℕ) (c : Course) (array : ArrayView) : Type 0 where
  pub at : IsAt bits c.job.scene c.job.place.clock array.device
  pub marks : HasMarks c.job.scene c.quarter c.passed c.places
  pub marked : AreAlmostMarked c.quarter c.passed c.job.place.clock
  pub keeps : HasSlots bits c.job.scene c.quarter c.passed array.slots

-- the same scene and the same quarters
pub record IsSameCourse (old new : Course) : Type 0 where
  pub scene : new.job.scene ≡ old.job.scene
  pub quarter : new.quarter ≡ old.quarter

-- the trace shows the last broadcasts
abbrev pub IsTraced : Course → Type 0
IsTraced c = c.trace ≡ buffer (last_before c.job.scene c.job.place.clock) 32

-- what a session keeps of its course
pub record IsKeptBySession (c : Course) : Type 0 where
  pub marks : HasMarks c.job.scene c.quarter c.passed c.places
  pub marked : AreMarked c.quarter c.passed c.job.place.clock
  pub traced : IsTraced c
  pub quarter : c.quarter ≡ quarter_of c.job.scene
