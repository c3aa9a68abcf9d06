use Rattle.px_debug.proofs.GridLemmas.{memory_long}
use Rattle.px_debug.proofs.machine_text.pixel_answer.Goals as goal

pub pixel_line-requires-clause-memory : goal.pixel_line-requires-clause-memory
pixel_line-requires-clause-memory g c =
    memory_long g.A.Array.BITS (g.A.Array.view c.args.array.now).device.state c.args.x c.args.y c.requires.pixels
    (c.is_pixel.ensures.column c.if-is_pixel.true) (c.is_pixel.ensures.row c.if-is_pixel.true)
