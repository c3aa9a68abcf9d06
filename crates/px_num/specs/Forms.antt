-- What a contract says of a linear form: its value at a pixel, and the range that the multiplier tree takes.
-- Clauses of public calls stand on it.
use Rattle.std.specs.Prelude.{ℕ, ℤ, pos, ◌+ℤ◌, ◌-ℤ◌, ◌*ℤ◌, ◌≤ℤ◌, ◌^◌}
use Rattle.px_num.specs.declared.linear.Linear.{Linear}

-- from -n to n
abbrev pub IsWithin : ℕ → ℤ → Type 0
IsWithin n z = ((pos 0 -ℤ pos n) ≤ℤ z) × (z ≤ℤ pos n)

-- the value of a form at a pixel
abbrev pub value_at : Linear → ℕ → ℕ → ℤ
value_at form x y = (form.a *ℤ pos x) +ℤ (form.b *ℤ pos y) +ℤ form.c

-- the form whose value is the first's less the second's
abbrev pub minus : Linear → Linear → Linear
minus p q = record { a = p.a -ℤ q.a; b = p.b -ℤ q.b; c = p.c -ℤ q.c }

-- the form whose value is one less
abbrev pub less_one : Linear → Linear
less_one p = record p { c = p.c -ℤ pos 1 }

-- the form whose value is greater by n
abbrev pub plus : Linear → ℕ → Linear
plus p n = record p { c = p.c +ℤ pos n }

-- the coefficients that the tree takes
pub record IsInTreeRange (form : Linear) : Type 0 where
  pub a : IsWithin (2 ^ 27) form.a
  pub b : IsWithin (2 ^ 27) form.b
  pub c : IsWithin (2 ^ 38) form.c

-- half of that, so that the difference of two such forms is in the tree's range
pub record IsInHalfRange (form : Linear) : Type 0 where
  pub a : IsWithin (2 ^ 26) form.a
  pub b : IsWithin (2 ^ 26) form.b
  pub c : IsWithin (2 ^ 37) form.c
