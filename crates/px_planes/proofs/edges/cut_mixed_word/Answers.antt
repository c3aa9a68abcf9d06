use Rattle.px_num.proofs.Basics.{◌∙◌, Bool, ℤ, ◌<◌, ◌%◌, length, not, ap, sym, arith, w64, is_negative, to_z-of_z}
use Rattle.px_planes.proofs.Words.{bits_of, KeepSign, kept, pixel_in}
use Rattle.px_planes.proofs.OperationLemmas.{done_by_work, value_here}
use Rattle.px_planes.proofs.edges.cut_mixed_word.Goals as goal

pub returns : goal.returns
returns c =
    let planes = c.args.planes.now in
    let form = c.args.form.now in
    let ny = c.args.ny in
    done_by_work (KeepSign form) ny c.args.w (length planes.enable) _ planes c.keep_word.new.planes c.keep_word.ensures
    (λ p within here.
    let small : p % 64 < 64 = omega arith in
    let sign = rw (to_z-of_z w64 c.args.base c.ranges.base) at (c.signs.ensures (p % 64) small) in
    let value = value_here form ny c.args.w p c.args.base c.requires.values here in
    ap (λ (b : Bool). bits_of (kept b (pixel_in planes p)))
    (c.turned.ensures (p % 64) small ∙ ap not (sign ∙ ap (λ (v : ℤ). is_negative v) (sym value))))
