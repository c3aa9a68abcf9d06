use Rattle.px_num.proofs.Basics.{◌≡◌, ℕ, List, ◌*◌, ◌^◌, ◌≤◌, take, sum_by}
use Rattle.px_control.proofs.Words.{Literal, rated, share_worth}
use Rattle.px_control.proofs.total.literals_cost.Given as goal

-- what the first literals add
pub record AreAdded (cost : ℕ) (share : Literal → ℕ) (list : List Literal) (count : ℕ) : Type 0 where
  pub added : cost ≡ sum_by share (take count list)
  pub few : cost ≤ count * 2 ^ 30

abbrev pub invariant-loop-q : goal.invariant-loop-q
invariant-loop-q l = AreAdded l.cost (share_worth (rated l.rates l.scene) l.scene l.others) l.list l.q-index
