-- The union of the sample's blocks, however deep it is allowed to be halved.
use Rattle.px_num.proofs.Basics.{◌≡◌, ℕ, zero, suc, ◌+◌, ◌-◌, ◌/◌, ◌<◌, ◌≤◌, ◌==◌, Bool, true, false, if◌then◌else◌}
use Rattle.px_num.proofs.Basics.{List, ◌++◌, codes, inl, inr, refl, ap, sym, ◌∙◌, arith, cases_lt, nat_tests}
use Rattle.px_sample.specs.Sample.{block_name, union_in, union_of}

abbrev pub joined : (left right : List ℕ) → List ℕ
joined left right = codes "(" ++ left ++ codes " + " ++ right ++ codes ")"

abbrev pub middle : (first end : ℕ) → ℕ
middle first end = (first + end) / 2

pub where_true : {A : Type 0} (b : Bool) (x y : A) → b ≡ true → (if b then x else y) ≡ x
where_true b x y e = rw e refl

pub where_false : {A : Type 0} (b : Bool) (x y : A) → b ≡ false → (if b then x else y) ≡ y
where_false b x y e = rw e refl

pub alone : (d first end : ℕ) → end ≡ first + 1 → union_in (suc d) first end ≡ block_name first
unfolding union_in
alone d first end e = where_true (end == first + 1) (block_name first) _ (grind (arith, nat_tests))

pub halved : (d first end : ℕ) → first + 1 < end
    → union_in (suc d) first end ≡ joined (union_in d first (middle first end)) (union_in d (middle first end) end)
unfolding union_in
halved d first end more = where_false (end == first + 1) (block_name first) _ (grind (arith, nat_tests))

-- depth that is enough is as good as more
enough : (d e first end : ℕ) → first < end → end - first ≤ d → end - first ≤ e → union_in d first end
    ≡ union_in e first end
enough zero e first end some small large = absurd (omega arith)
enough (suc d) zero first end some small large = absurd (omega arith)
enough (suc d) (suc e) first end some small large =
    elim (cases_lt (first + 1) end) [
      | inl more ↦
          let low = enough d e first (middle first end) (omega arith) (omega arith) (omega arith) in
          let high = enough d e (middle first end) end (omega arith) (omega arith) (omega arith) in
          halved d first end more
          ∙ ap (λ t. joined t (union_in d (middle first end) end)) low
          ∙ ap (joined (union_in e first (middle first end))) high
          ∙ sym (halved e first end more)
      | inr few ↦
          grind (arith, alone)
    ]

pub union_of_one : (first : ℕ) → union_of first (first + 1) ≡ block_name first
union_of_one first =
    let e : first + 1 - first ≡ suc 0 = omega arith in
    ap (λ d. union_in d first (first + 1)) e ∙ alone 0 first (first + 1) refl

pub union_of_halves : (first end : ℕ) → first + 1 < end
    → union_of first end ≡ joined (union_of first (middle first end)) (union_of (middle first end) end)
union_of_halves first end more =
    let d = end - first - 1 in
    let e : end - first ≡ suc d = omega arith in
    let m = middle first end in
    let low : union_in d first m ≡ union_of first m =
    enough d (m - first) first m (omega arith) (omega arith) (omega arith) in
    let high : union_in d m end ≡ union_of m end = enough d (end - m) m end (omega arith) (omega arith) (omega arith) in
    grind (arith, halved)
