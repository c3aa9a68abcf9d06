use Rattle.px_state.proofs.Cited.{arith, listing_in, room_of, ◌≡◌}
use Rattle.px_state.proofs.CourseLemmas.{columns_are, rows_are}
use Rattle.px_state.proofs.whole.write_state.Goals as goal

pub write_words-requires : goal.write_words-requires
write_words-requires g c =
    let l = listing_in c.in_ok-course.course in
    let columns = columns_are g.row.N l c.args.clock _ c.run_to-next.ensures.device in
    let rows = rows_are g.row.N l c.args.clock _ c.run_to-next.ensures.device in
    let due : c.room_of-due.result ≡ room_of g.row.N l.nx l.ny =
    rw (c.grid-nx.ensures.columns, c.grid-nx.ensures.rows) at c.room_of-due.ensures in
    (omega (arith), (omega (arith), (omega (arith, columns, c.grid-nx.ensures.good.grid), (c.requires.bits, rw (columns, rows, ← due) c.in_ok-judge.ensures.room))))
