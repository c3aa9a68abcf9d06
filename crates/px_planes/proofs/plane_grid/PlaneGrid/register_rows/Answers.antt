use Rattle.px_num.proofs.Basics.{◌+◌, ◌^◌, length, ap, sym, arith}
use Rattle.px_planes.proofs.Words.{PixelState, get_or-tabulate, no_pixel, pixel_in}
use Rattle.px_planes.proofs.plane_grid.PlaneGrid.register_rows.Goals as goal

pub returns-clause-enable : goal.returns-clause-enable
returns-clause-enable g c =
    let planes = c.self.inside.planes in
    let n = 2 ^ (c.self.inside.tree.nx + c.self.inside.tree.ny) in
    rw (← c.self.view_is) (record {
      words = omega (arith, c.self.invariant.pixels.words.enable, ap length c.words.ensures);
      each = λ p within. rw c.words.ensures
          (sym (ap (λ (x : PixelState). x.enable) (get_or-tabulate n (pixel_in planes) p no_pixel within)));
    })

pub returns-clause-carry : goal.returns-clause-carry
returns-clause-carry g c =
    let planes = c.self.inside.planes in
    let n = 2 ^ (c.self.inside.tree.nx + c.self.inside.tree.ny) in
    rw (← c.self.view_is) (record {
      words = omega (arith, c.self.invariant.pixels.words.carry, ap length c.words-2.ensures);
      each = λ p within. rw c.words-2.ensures
          (sym (ap (λ (x : PixelState). x.carry) (get_or-tabulate n (pixel_in planes) p no_pixel within)));
    })

pub returns-clause-latch : goal.returns-clause-latch
returns-clause-latch g c =
    let planes = c.self.inside.planes in
    let n = 2 ^ (c.self.inside.tree.nx + c.self.inside.tree.ny) in
    rw (← c.self.view_is) (record {
      words = omega (arith, c.self.invariant.pixels.words.latch, ap length c.words-3.ensures);
      each = λ p within. rw c.words-3.ensures
          (sym (ap (λ (x : PixelState). x.latch) (get_or-tabulate n (pixel_in planes) p no_pixel within)));
    })
