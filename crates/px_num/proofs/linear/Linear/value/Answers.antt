use Rattle.px_num.proofs.Basics.{◌≡◌, ◌≤◌, ◌^◌, w64, to_z, of_z, ℕ, ℤ, pos, ◌+ℤ◌, ◌*ℤ◌, arith, ints}
use Rattle.std.proofs.Common.{lit≤}
use Rattle.px_num.specs.Forms.{IsWithin, value_at}
use Rattle.px_num.specs.declared.linear.Linear.{Linear}
use Rattle.px_num.proofs.linear.Linear.value.Goals as goal

sum_is : (p : Linear) (x y : ℕ) (u v : ℤ) → u ≡ p.a *ℤ pos x → v ≡ p.b *ℤ pos y → (u +ℤ v) +ℤ p.c ≡ value_at p x y
sum_is p x y u v first second = cc

pub overflow_add-result : goal.overflow_add-result
overflow_add-result c =
    let left = c.scaled.ensures.size 4095 (omega arith) in
    let right = c.scaled-2.ensures.size 4095 (omega arith) in omega (arith, ints, left.0, left.1, right.0, right.1)

pub overflow_add-result-2 : goal.overflow_add-result-2
overflow_add-result-2 c =
    let left = c.scaled.ensures.size 4095 (omega arith) in
    let right = c.scaled-2.ensures.size 4095 (omega arith) in
    omega (arith, ints, left.0, left.1, right.0, right.1, c.requires.range.c.0, c.requires.range.c.1)

-- a stored coefficient is itself
kept : (z : ℤ) (n : ℕ) → n ≤ 2 ^ 38 → IsWithin n z → to_z w64 (of_z w64 z) ≡ z
kept z n le (low, high) = omega (arith, ints)

pub returns-clause-value : goal.returns-clause-value
returns-clause-value c =
    let a = kept c.args.self.now.a _ (lit≤ tt) c.requires.range.a
    in let b = kept c.args.self.now.b _ (lit≤ tt) c.requires.range.b
    in let e = sum_is c.args.self.now c.args.x c.args.y _ _ (rw a at c.scaled.ensures.value)
    (rw b at c.scaled-2.ensures.value)
    in let left = c.scaled.ensures.size 4095 (omega arith)
    in let right = c.scaled-2.ensures.size 4095 (omega arith)
    in omega (arith, ints, left.0, left.1, right.0, right.1, c.requires.range.c.0, c.requires.range.c.1, e)

pub returns-clause-size : goal.returns-clause-size
returns-clause-size c at_x at_y =
    let left = c.scaled.ensures.size 511 (omega arith)
    in let right = c.scaled-2.ensures.size 511 (omega arith)
    in (
      omega (arith, ints, left.0, left.1, right.0, right.1, c.requires.range.c.0, c.requires.range.c.1),
      omega (arith, ints, left.0, left.1, right.0, right.1, c.requires.range.c.0, c.requires.range.c.1),
    )
