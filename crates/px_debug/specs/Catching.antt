-- How a session stands each time that more is asked for. Only proofs and private functions stand on it.
use Rattle.std.specs.Prelude.{◌≡◌, ℕ, ◌+◌, List, ◌++◌, length}
use Rattle.px_asked.specs.Asks.{all_given}
use Rattle.px_debug.specs.declared.session.Going.TheVariants as g
use Rattle.px_debug.specs.Prompts.{Moment, Prompts}
use Rattle.px_debug.specs.Servings.{Serves, seen}
use Rattle.px_debug.specs.Turns.{Fed}
use Rattle.px_debug.specs.declared.serving.Ending.{Ending}

-- how things stood where the session began, what had been read, and how many bytes more might be
pub record Begun : Type 0 where
  pub was : Moment
  pub read : List ℕ
  pub more : ℕ

abbrev pub begun : Moment → (read : List ℕ) → (more : ℕ) → Begun
begun was read more = record { was = was; read = read; more = more }

-- it ended so
abbrev pub IsOverBy : Ending → (bits : ℕ) → Begun → (now : Moment) → Type 0
IsOverBy ending bits b now = Serves ending bits b.read b.more b.was now

-- all whole lines of what was read have been answered: how things stand, with so many bytes left to be read, and
-- what a buffer keeps of the line that is not whole
pub record Caught (bits : ℕ) (b : Begun) (more : ℕ) (now : Moment) (held : List ℕ) : Type 0 where
  pub prompts : Prompts bits b.read b.more b.was now
  pub left : b.more ≡ length (all_given prompts.asks) + more
  pub seen : seen b.more (all_given prompts.asks) ≡ all_given prompts.asks
  pub fed : Fed g.More bits (b.read ++ all_given prompts.asks) b.was.at now.at held
  pub calm_in : now.faults ≡ b.was.faults
  pub calm_out : now.at.out.faults ≡ b.was.at.out.faults
