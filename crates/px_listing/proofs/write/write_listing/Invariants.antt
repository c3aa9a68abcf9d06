use Rattle.px_num.proofs.Basics.{◌≡◌, ◌++◌, [], take, flat_map}
use Rattle.px_listing.proofs.Words.{listing_head, macro_line, Puts}
use Rattle.px_listing.proofs.write.write_listing.Given as goal

abbrev pub invariant-loop-m : goal.invariant-loop-m
invariant-loop-m g l = record {
  put : Puts (g.O.Sink.state l.fn.out) (g.O.Sink.state l.out) []
      (listing_head l.listing.nx l.listing.ny ++ flat_map macro_line (take l.m-index l.listing.macros)) l.piece.bytes;
  calm : (g.O.Sink.state l.out).faults ≡ (g.O.Sink.state l.fn.out).faults;
}
