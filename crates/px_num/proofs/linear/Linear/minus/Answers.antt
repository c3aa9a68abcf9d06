use Rattle.px_num.proofs.Basics.{◌≡◌, ◌-ℤ◌, ◌∙◌, ap, refl, rules, subst, sym}
use Rattle.px_num.specs.declared.linear.Linear.{Linear}
use Rattle.px_num.specs.Forms.{IsInTreeRange, minus, value_at}
use Rattle.px_num.proofs.FormLaws.{IsInTreeRange-minus, value_at-minus}
use Rattle.px_num.proofs.linear.Linear.minus.Goals as goal

each : (p q r : Linear) → r.a ≡ p.a -ℤ q.a → r.b ≡ p.b -ℤ q.b → r.c ≡ p.c -ℤ q.c → r ≡ minus p q
each p q r a b c = rw (← a, ← b, ← c) refl

pub returns : goal.returns
returns c =
    let form = each c.args.self.now c.args.other.now _ (search rules) (search rules) (search rules) in
    record {
      form = form;
      range = subst IsInTreeRange (sym form) (IsInTreeRange-minus c.args.self.now c.args.other.now c.requires.range
          c.requires.other);
      value = λ x y. ap (λ p. value_at p x y) form ∙ value_at-minus c.args.self.now c.args.other.now x y;
    }
