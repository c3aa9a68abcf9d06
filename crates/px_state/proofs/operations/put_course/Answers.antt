use Rattle.px_state.proofs.Cited.{HasOperations, IsOperationIn, IsPassed, subst, sym}
use Rattle.px_state.proofs.operations.put_course.Goals as goal

pub returns-in-Passes-clause-operations : goal.returns-in-Passes-clause-operations
returns-in-Passes-clause-operations c =
    subst (λ b. HasOperations (IsOperationIn b) c.args.first c.put_passes.new.list) (sym c.in-Passes.is)
    (subst (λ scene. HasOperations (IsPassed scene) c.args.first c.put_passes.new.list) c.scene.ensures
    c.put_passes.ensures.operations)
