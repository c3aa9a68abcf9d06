use Rattle.px_prune.specs.Blocks.{extent}
use Rattle.px_prune.proofs.bounds.+grown.Given as goal

abbrev pub decreases-grown : goal.decreases-grown
decreases-grown l = extent l.block.now
