use Rattle.px_num.proofs.Basics.{◌≡◌, ℕ, ◌<◌, ◌≤◌, slice_index_or}
use Rattle.px_array.specs.Acts.{after_act}
use Rattle.px_tree.specs.Nodes.{leaf_output}
use Rattle.px_array.specs.Arrays.{no_pixel}
use Rattle.px_array.proofs.pixel_grid.act_all.Given as goal

abbrev pub invariant-loop-place : goal.invariant-loop-place
invariant-loop-place g l = record {
  done : (k : ℕ) → k < l.place → slice_index_or l.pixels k no_pixel
      ≡ after_act l.act (leaf_output l.tree k) (slice_index_or l.fn.pixels k no_pixel);
  rest : (k : ℕ) → l.place ≤ k → slice_index_or l.pixels k no_pixel ≡ slice_index_or l.fn.pixels k no_pixel;
}
