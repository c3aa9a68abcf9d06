use Rattle.px_num.proofs.Basics.{◌≡◌, map, take}
use Rattle.px_text.specs.Text.{words_of}
use Rattle.px_show.proofs.JudgedLaws.{AreGood}
use Rattle.px_show.proofs.read.draft_of.Given as goal

abbrev pub invariant-loop-i : goal.invariant-loop-i
invariant-loop-i g l = record {
  judges : g.D.Drafting.judge l.draft ≡ g.D.Drafting.judge l.fn.draft;
  says : g.D.Drafting.says l.draft (take l.i (map (λ m. words_of m.now) l.lines));
  judged : AreGood (g.D.Drafting.judge l.fn.draft) (map (λ m. words_of m.now) l.lines) l.i;
}
