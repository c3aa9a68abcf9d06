use Rattle.px_num.proofs.Basics.{◌≡◌, ◌+◌, ◌-◌, ◌≤◌}
use Rattle.px_debug.specs.Courses.{IsOnCourse, IsSameCourse}
use Rattle.px_debug.proofs.course.Course.run_to.Given as goal

abbrev pub decreases-loop-self : goal.decreases-loop-self
decreases-loop-self g l = l.target - l.self.job.place.clock

abbrev pub invariant-loop-self : goal.invariant-loop-self
invariant-loop-self g l = record {
  course : IsOnCourse g.A.Array.BITS l.self (g.A.Array.view l.array);
  same : IsSameCourse l.fn.self l.self;
  forth : l.fn.self.job.place.clock ≤ l.self.job.place.clock;
  within : l.self.job.place.clock ≤ l.target;
  trace : l.self.trace ≡ l.fn.self.trace;
  work : (g.A.Array.view l.array).work ≤ (g.A.Array.view l.fn.array).work
      + (l.self.job.place.clock - l.fn.self.job.place.clock);
}
