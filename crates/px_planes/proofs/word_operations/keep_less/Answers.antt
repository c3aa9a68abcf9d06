use Rattle.px_num.proofs.Basics.{◌≡◌, ◌∙◌, Bool, ℕ, pos, ◌^◌, ◌<◌, ◌%◌, length, not, nat_le, nat_lt, ap, arith, rules}
use Rattle.px_num.proofs.Basics.{mod-eq_of_lt, nat_tests}
use Rattle.px_planes.proofs.Words.{bits_of, HasValue, KeepLess, kept, number_in, pixel_in}
use Rattle.px_planes.proofs.OperationLemmas.{done_by_work}
use Rattle.px_planes.proofs.word_operations.keep_less.Goals as goal

less_is : (m n : ℕ) → not (nat_le n m) ≡ nat_lt m n
less_is m n = grind (arith, nat_tests)

pub returns : goal.returns
returns c =
    let planes = c.args.planes.now in
    let f = c.args.first.now in
    let g = c.args.second.now in
    let values = c.read_words.new.values in
    let long : length values ≡ g.len = search rules in
    done_by_work (KeepLess f g) c.args.ny c.args.w (length planes.enable) _ planes c.keep_word.new.planes
    c.keep_word.ensures
    (λ p within here.
    let small : p % 64 < 64 = omega arith in
    let memory = (pixel_in planes p).memory in
    let h : HasValue values (p % 64) (pos (number_in g memory)) = grind arith in
    let rest : number_in g memory % 2 ^ f.len ≡ number_in g memory =
    mod-eq_of_lt (rw (c.requires.fields.length) (c.laws_of_fields.ensures.below g memory)) in
    ap (λ (b : Bool). bits_of (kept b (pixel_in planes p)))
    (c.turned.ensures (p % 64) small
    ∙ (ap not (c.at_most-most.ensures p (pos (number_in g memory)) within here h)
    ∙ rw rest (less_is (number_in f memory) (number_in g memory)))))
