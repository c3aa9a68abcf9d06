use Rattle.px_num.proofs.Basics.{◌≡◌, ◌+◌, ◌-◌, ◌≤◌}
use Rattle.px_debug.proofs.Words.{after_ends, ends_after, IsOnCourse, IsSameCourse, IsTraced, total}
use Rattle.px_debug.proofs.course.Course.go_ends.Given as goal

abbrev pub invariant-loop : goal.invariant-loop
invariant-loop g l =
    let old = l.fn.self in
    let now = l.self in
    record {
      course : IsOnCourse g.A.Array.BITS now (g.A.Array.view l.array);
      same : IsSameCourse old now;
      forth : old.job.place.clock ≤ now.job.place.clock;
      left : after_ends l.count (ends_after old.job.scene old.job.place.clock) old.job.place.clock (total old.job.scene)
          ≡ after_ends (l.count - l.counter) (ends_after now.job.scene now.job.place.clock) now.job.place.clock
          (total now.job.scene);
      trace : IsTraced now;
      work : (g.A.Array.view l.array).work ≤ (g.A.Array.view l.fn.array).work
          + (now.job.place.clock - old.job.place.clock);
    }
