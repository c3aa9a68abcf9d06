use Rattle.px_num.proofs.Basics.{rules, ◌≡◌, ◌∙◌, ◌+◌, ◌*◌, ◌/◌, ◌%◌, ◌<◌, ◌≤◌, [], get_or, length, ap, arith, inl}
use Rattle.px_num.proofs.Basics.{inr, cases_lt, get_or_default}
use Rattle.px_planes.proofs.Words.{bit_at, pixel_in, row_bit, value_on, xor}
use Rattle.px_planes.proofs.StoredLemmas.{bit_of_rows}
use Rattle.px_planes.proofs.WorkLemmas.{put_row_law}
use Rattle.px_planes.proofs.strips.add_bit.Goals as goal

pub returns-clause-worked : goal.returns-clause-worked
returns-clause-worked c =
    let planes = c.args.planes.now in
    let at = c.args.at in
    let strip = c.args.strip in
    let value = value_on c.args.value.now c.args.step c.args.first.now in
    let first = c.args.first.now in
    let second = c.args.second.now in
    let target : c.index_mut.result.now ≡ get_or planes.memory.items at [] = grind (arith, get_or_default) in
    put_row_law 32768 strip at planes c.add_steps.new.self
    (λ p. xor (value (p % 32768)) (xor (bit_at (pixel_in planes p).memory at) (row_bit second (p % 32768))))
    c.requires.words c.requires.place
    (c.add_steps.ensures.words ∙ (ap length target ∙ c.requires.words.memory at c.requires.place))
    (λ p within is.
    let whole : 64 * (512 * strip) + p % 32768 ≡ p = omega arith in
    let low : p % 32768 < 64 * length first = omega (arith, c.requires.first) in
    rw (bit_of_rows planes.memory.items at p c.requires.place)
    (rw (whole, c.words-mask.ensures, target) at (c.add_steps.ensures.inside (p % 32768) low)))
    (λ p within other.
    rw target at (c.add_steps.ensures.outside p (elim (cases_lt (p / 64) (512 * strip)) [
      | inl before ↦ inl before
      | inr past ↦ let beyond : 512 * strip + length first ≤ p / 64 = omega (arith, c.requires.first) in inr beyond
    ])))

pub returns-clause-second : goal.returns-clause-second
returns-clause-second c p within is =
    let planes = c.args.planes.now in
    let at = c.args.at in
    let strip = c.args.strip in
    let target : c.index_mut.result.now ≡ get_or planes.memory.items at [] = grind (arith, get_or_default) in
    let whole : 64 * (512 * strip) + p % 32768 ≡ p = omega arith in
    grind (arith, bit_of_rows)

pub returns-clause-value : goal.returns-clause-value
returns-clause-value c i small = search (rules, c.requires.first, c.add_steps.ensures.value)
