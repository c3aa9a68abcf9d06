use Rattle.px_prune.proofs.Words.{bounding_box, solids_laws}
use Rattle.px_prune.proofs.KeptLaws.{kept_is_shown, none_is_void}
use Rattle.px_prune.proofs.PruningLemmas.{kept_of_live}
use Rattle.px_prune.proofs.StayingLemmas.{kept_below, kept_plain}
use Rattle.px_prune.proofs.plan.laws_of_pruning.Goals as goal

pub returns : goal.returns
returns c = record {
  law = kept_is_shown;
  apart = none_is_void;
  plain = λ scene products all. kept_plain (bounding_box scene) products all;
  known = λ count scene products known. kept_below solids_laws count (bounding_box scene) products known;
  live = λ scene products. kept_of_live (bounding_box scene) products;
}
