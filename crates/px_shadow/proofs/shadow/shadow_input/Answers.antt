use Rattle.px_shadow.proofs.ShadowLemmas.{performs_shades}
use Rattle.px_shadow.proofs.shadow.shadow_input.Goals as goal

pub returns-clause-performs : goal.returns-clause-performs
returns-clause-performs g c =
    performs_shades _ _ _ _ _ _ c.in_ok-text.ensures.front c.in_ok-text.ensures.taken
    c.as_slice.ensures.value
    c.shade_text.ensures.serves c.shade_text.ensures.array
