-- Operations that are written one after another. Only proofs and private functions stand on it.
use Rattle.std.specs.Prelude.{ℕ, ◌+◌, ◌<◌, List, get_or, length}
use Rattle.px_state.specs.Operations.{no_operation}
use Rattle.px_state.specs.declared.operation.Operation.{Operation}

-- those before one are the ones of their places
abbrev pub IsPutTo : (Is : ℕ → Operation → Type 0) → (first end : ℕ) → List Operation → Type 0
IsPutTo Is first end list = (j : ℕ) → j < length list → first + j < end → Is (first + j) (get_or list j no_operation)
