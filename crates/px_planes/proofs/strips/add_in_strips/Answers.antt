use Rattle.px_num.proofs.Basics.{◌≡◌, ◌≢◌, ◌∙◌, ◌/◌, ◌^◌, ◌%◌, length, ap, arith, inl, inr, cases_lt}
use Rattle.px_planes.proofs.Words.{AddLinear, after_macro, bits_of, PixelState}
use Rattle.px_planes.proofs.WorkLemmas.{like_then}
use Rattle.px_planes.proofs.strips.add_in_strips.Goals as goal

pub loop-strip-preserved : goal.loop-strip-preserved
loop-strip-preserved c =
    let planes = c.args.planes.now in
    let n = length planes.enable in
    let i = c.loop-strip.invariant in
    let strip = c.loop-strip.strip in
    let ny = c.args.ny in
    let op = AddLinear c.args.form.now c.args.field.now in
    let long : length c.loop-strip.planes.enable ≡ n = i.like.words.enable in
    let work = rw long at c.add_to_strip.ensures.done in
    record {
      done = λ p within before. elim (cases_lt (p / 32768) strip) [
        | inl done ↦
            let other : p / 32768 ≢ strip = omega arith in
            ap bits_of (work.others p within other) ∙ i.done p within done
        | inr past ↦
            let here : p / 32768 ≡ strip = omega arith in
            work.each p within here
            ∙ ap (λ (x : PixelState). after_macro op (p / 2 ^ ny) (p % 2 ^ ny) (bits_of x)) (i.rest p within past)
      ];
      rest = grind arith;
      like = like_then n planes c.loop-strip.planes c.add_to_strip.new.planes i.like work.like;
      values = c.add_to_strip.ensures.values;
      long = c.add_to_strip.ensures.long ∙ i.long;
    }
