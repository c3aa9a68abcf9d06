use Rattle.px_scene.proofs.LawfulLemmas.{can_be_taken}
use Rattle.px_scene.proofs.TakenLemmas.{begun_front, begun_back}
use Rattle.px_scene.proofs.draft.Draft.take.Goals as goal

pub take_front-requires-clause-next : goal.take_front-requires-clause-next
take_front-requires-clause-next c =
    can_be_taken _ c.requires.lawful (begun_front _ (rw c.in-Front.is at c.requires.due))

pub take_back-requires-clause-next : goal.take_back-requires-clause-next
take_back-requires-clause-next c = can_be_taken _ c.requires.lawful (begun_back _ (rw c.in-Back.is at c.requires.due))
