use Rattle.px_num.proofs.Basics.{nat_tests, common_steps, ◌≡◌, ℤ, pos, ◌-◌, ◌-ℤ◌, min, None, arith, to_z, of_z, w64}
use Rattle.px_num.proofs.Basics.{int_min}
use Rattle.px_scene.proofs.Words.{past, size_of}
use Rattle.std.proofs.lemmas.Int.{int_min_is}
use Rattle.px_model.specs.declared.limits.TheConstants.{MAX_DEPTH_BITS, MAX_FRACTION_BITS}
use Rattle.px_scene.proofs.TakenLemmas.{size_within}
use Rattle.px_show.specs.declared.fault.LimitKind.TheVariants as kind
use Rattle.px_scene.proofs.limit.fraction_past.Goals as goal

-- the greatest number of fraction bits, as it is counted
most : (bits whole part least : ℤ) → past kind.Depth (pos 1) (pos MAX_DEPTH_BITS) bits ≡ None
    → whole ≡ pos MAX_DEPTH_BITS → part ≡ pos MAX_FRACTION_BITS
    → least ≡ int_min (to_z w64 (of_z w64 (to_z w64 (of_z w64 whole) -ℤ to_z w64 (of_z w64 bits))))
    (to_z w64 (of_z w64 part)) → to_z w64 (of_z w64 least) ≡ pos (min MAX_FRACTION_BITS (MAX_DEPTH_BITS - size_of bits))
most x whole part least good all some is = grind (arith, size_within, to_z, of_z, int_min_is)

pub returns : goal.returns
returns c = grind (arith, nat_tests, common_steps, to_z, of_z, most)
