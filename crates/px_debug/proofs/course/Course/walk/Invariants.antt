use Rattle.px_num.proofs.Basics.{◌≡◌, ◌+◌, ◌≤◌, ◌++◌, drop, take}
use Rattle.px_debug.proofs.Words.{buffer, IsOnCourse, IsSameCourse, keep_last, program}
use Rattle.px_debug.proofs.course.Course.walk.Given as goal

abbrev pub invariant-loop : goal.invariant-loop
invariant-loop g l = record {
  course : IsOnCourse g.A.Array.BITS l.self (g.A.Array.view l.array);
  same : IsSameCourse l.fn.self l.self;
  clock : l.self.job.place.clock ≡ l.fn.self.job.place.clock + l.counter;
  trace : l.self.trace ≡ buffer (keep_last l.fn.self.trace.capacity
      (l.fn.self.trace.items ++ take l.counter (drop l.fn.self.job.place.clock (program l.fn.self.job.scene))))
      l.fn.self.trace.capacity;
  work : (g.A.Array.view l.array).work ≤ (g.A.Array.view l.fn.array).work + l.counter;
}
