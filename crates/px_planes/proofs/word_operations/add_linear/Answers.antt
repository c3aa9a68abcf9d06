use Rattle.px_num.proofs.Basics.{◌≡◌, ◌∙◌, ℕ, suc, ℤ, pos, ◌+ℤ◌, ◌+◌, ◌*◌, ◌/◌, ◌^◌, ◌<◌, ◌%◌, length, get_or, ap}
use Rattle.px_num.proofs.Basics.{arith, w64, to_z, of_z, rules, ints, to_z-of_z}
use Rattle.px_planes.proofs.Words.{AddLinear, bit_of, modulo, modulo_bit, nat_bit, number_in, offset, pixel_in}
use Rattle.px_planes.proofs.Words.{value_at}
use mir.Val.{SFits}
use Rattle.px_planes.proofs.OperationLemmas.{done_by_work, stored_law, value_here}
use Rattle.px_planes.proofs.WorkLemmas.{bit_above, stored_more}
use Rattle.px_planes.proofs.word_operations.add_linear.Goals as goal

pub loop-t-preserved : goal.loop-t-preserved
loop-t-preserved c =
    let i = c.loop-t.invariant in
    let t = c.loop-t.t in
    let planes = c.args.planes.now in
    let n = length planes.enable in
    let f = c.args.field.now in
    let base = to_z w64 (of_z w64 c.base_of-base.result) in
    let next : t + 1 ≡ suc t = omega arith in
    let o = λ (p : ℕ). offset c.args.values.form.now c.args.values.ny (p % 64) in
    let number = λ (p : ℕ). pos (number_in f (pixel_in planes p).memory) in
    let first : (p : ℕ) → nat_bit (get_or c.args.values.offsets.now t 0) (p % 64) ≡ bit_of (o p) t =
    λ p. let small : p % 64 < 64 = omega arith in (c.requires.values.offsets (p % 64) small).each t c.loop-t-test.true in
    let second : (p : ℕ) → nat_bit c.bit_of_all.result (p % 64) ≡ bit_of base t =
    λ p. let small : p % 64 < 64 = omega arith in c.bit_of_all.ensures (p % 64) small in
    let third : (p : ℕ) → p < 64 * n → p / 64 ≡ c.args.w → nat_bit c.memory_word-held.result (p % 64)
    ≡ bit_of (number p) t =
    grind (arith, bit_above) in
    record {
      worked = grind (arith, stored_more);
      carries = λ p within here.
          let small : p % 64 < 64 = omega arith in
          c.added_bit-sum.ensures.carries (p % 64) t (o p) base (number p) small (first p) (second p)
          (third p within here)
          (i.carries p within here);
    }

turned : (o b n v : ℤ) → v ≡ o +ℤ b → (o +ℤ b) +ℤ n ≡ n +ℤ v
turned o b n v is = omega (arith, ints, is)

pub returns : goal.returns
returns c =
    let planes = c.args.planes.now in
    let form = c.args.values.form.now in
    let f = c.args.field.now in
    let ny = c.args.values.ny in
    let fit : SFits w64 c.base_of-base.result = search rules in
    let base = to_z w64 (of_z w64 c.base_of-base.result) in
    let base_is : base ≡ c.base_of-base.result = to_z-of_z w64 c.base_of-base.result fit in
    let end : c.loop-t.t ≡ f.len = omega (arith, c.requires.values.long) in
    done_by_work (AddLinear form f) ny c.args.w (length planes.enable) _ planes c.loop-t.planes
    c.loop-t.invariant.worked
    (λ p within here.
    let v = value_at form (p / 2 ^ ny) (p % 2 ^ ny) in
    let number = pos (number_in f (pixel_in planes p).memory) in
    let o = offset form ny (p % 64) in
    let value : v ≡ o +ℤ base =
    rw base_is (value_here form ny c.args.w p c.base_of-base.result c.base_of-base.ensures.value here) in
    let same = turned o base number v value in
    stored_law f (modulo (number +ℤ v) f.len) (λ s. bit_of ((o +ℤ base) +ℤ number) s) c.loop-t.t planes p end
    c.requires.field.within
    (λ t low. ap (λ (z : ℤ). bit_of z t) same ∙ modulo_bit (number +ℤ v) f.len t low))
