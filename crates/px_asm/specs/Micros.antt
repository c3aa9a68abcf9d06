-- The table of micros: how many clocks each operation takes, and what is broadcast in each of them, counted from 0.
-- Clauses of public calls stand on it.
use Rattle.std.specs.Prelude.{ℕ, ◌+◌, ◌-◌, ◌*◌, ◌/◌, ◌%◌, ◌==◌, true, false, if◌then◌else◌, nat_lt, List}
use Rattle.std.specs.List.{flat_map}
use Rattle.px_num.specs.Bits.{nat_bit}
use Rattle.px_num.specs.Lists.{tabulate}
use Rattle.px_num.specs.declared.linear.Linear.{Linear}
use Rattle.px_macro.specs.declared.field.Field.{Field}
use Rattle.px_macro.specs.declared.operation.Macro.{Macro}
use Rattle.px_macro.specs.declared.operation.Macro.TheVariants.{All, KeepSign, KeepBit, LoadLinear, KeepAtMost}
use Rattle.px_macro.specs.declared.operation.Macro.TheVariants.{AddLinear, LoadConst, SetBit, Toggle, Copy}
use Rattle.px_macro.specs.declared.operation.Macro.TheVariants.{KeepLess}
use Rattle.px_array.specs.declared.act.Act.{Act}
use Rattle.px_array.specs.declared.act.Act.TheVariants as act
use Rattle.px_tree.specs.Feeds.{lines_at}
use Rattle.px_array.specs.declared.micro.Micro.{Micro}
use Rattle.px_array.specs.declared.micro.TreeOp.{TreeOp}
use Rattle.px_array.specs.declared.micro.TreeOp.TheVariants.{Hold, Clear, Feed}

-- how many clocks an operation takes
abbrev pub cycles : Macro → (nx ny : ℕ) → ℕ
cycles All nx ny = 1
cycles (KeepSign form) nx ny = 41 + (nx + ny)
cycles (KeepBit at v) nx ny = 1
cycles (LoadLinear form f) nx ny = 1 + (nx + ny) + f.len
cycles (KeepAtMost form f) nx ny = 2 + (nx + ny) + f.len
cycles (AddLinear form f) nx ny = 1 + (nx + ny) + f.len
cycles (LoadConst f c) nx ny = f.len
cycles (SetBit at v) nx ny = 1
cycles (Toggle at) nx ny = 1
cycles (Copy f g) nx ny = 2 * f.len
cycles (KeepLess f g) nx ny = 2 + 2 * f.len

-- an act while the tree stands still
abbrev pub still : Act → Micro
still act = record { tree = Hold; act = act }

-- what the tree does in clock i while a form is fed: first a clear, then the feeds from 0 on
abbrev pub tree_at : Linear → (nx ny i : ℕ) → TreeOp
tree_at form nx ny i =
    let lines = lines_at form nx ny (i - 1) in
    if i == 0 then Clear else Feed lines.a lines.b lines.c

-- the act in clock i: at the clear the first one, and once bit 0 of the value has come down all levels one for each bit
abbrev pub act_at : (levels : ℕ) → (first : Act) → (each_bit : ℕ → Act) → (i : ℕ) → Act
act_at levels first each_bit i =
    if i == 0 then first else
    if nat_lt levels i then each_bit (i - 1 - levels) else act.Nop

-- the act in clock i of a copy: each bit of f is fetched into the latch, and then stored in g
abbrev pub copy_act : (f g : Field) (i : ℕ) → Act
copy_act f g i = if i % 2 == 0 then act.Fetch (f.at + i / 2) else act.StoreLatch (g.at + i / 2)

-- the act in clock i of a comparison of two fields: each bit of g is fetched, and the carry takes it in with that of f
abbrev pub less_act : (f g : Field) (i : ℕ) → Act
less_act f g i =
    if i == 0 then act.SetCarry true else
    if i == 1 + 2 * f.len then act.EnableCarry false else
    if i % 2 == 1 then act.Fetch (g.at + (i - 1) / 2) else act.CarryLatch (f.at + (i - 1) / 2)

-- what is broadcast in clock i
abbrev pub micro_at : Macro → (nx ny i : ℕ) → Micro
micro_at All nx ny i = still act.EnableAll
micro_at (KeepSign form) nx ny i = record {
  tree = tree_at form nx ny i;
  act = if i == 40 + (nx + ny) then act.EnableTree false else act.Nop;
}
micro_at (KeepBit at v) nx ny i = still (act.EnableBit at v)
micro_at (LoadLinear form f) nx ny i = record {
  tree = tree_at form nx ny i;
  act = act_at (nx + ny) act.Nop (λ t. act.StoreTree (f.at + t)) i;
}
micro_at (KeepAtMost form f) nx ny i =
    if i == 1 + (nx + ny) + f.len then still (act.EnableCarry true) else
    record {
      tree = tree_at form nx ny i;
      act = act_at (nx + ny) (act.SetCarry true) (λ t. act.CarryTree (f.at + t)) i;
    }
micro_at (AddLinear form f) nx ny i = record {
  tree = tree_at form nx ny i;
  act = act_at (nx + ny) (act.SetCarry false) (λ t. act.AddTree (f.at + t)) i;
}
micro_at (LoadConst f c) nx ny i = still (act.StoreConst (f.at + i) (nat_bit c i))
micro_at (SetBit at v) nx ny i = still (act.StoreConst at v)
micro_at (Toggle at) nx ny i = still (act.Toggle at)
micro_at (Copy f g) nx ny i = still (copy_act f g i)
micro_at (KeepLess f g) nx ny i = still (less_act f g i)

-- the micros of an operation, one after another
abbrev pub micros : Macro → (nx ny : ℕ) → List Micro
micros m nx ny = tabulate (cycles m nx ny) (micro_at m nx ny)

-- the micros of operations, one after another
abbrev pub all_micros : List Macro → (nx ny : ℕ) → List Micro
all_micros ms nx ny = flat_map (λ m. micros m nx ny) ms
