use Rattle.px_num.proofs.Basics.{ℕ, ◌*◌, ◌+◌, get_or, List, [], ◌∷◌, refl, arith}
use Rattle.px_plane_tree.proofs.WeaveLemmas.{woven_law, eight_places}
use Rattle.px_plane_tree.proofs.doubling.first_woven.Goals as goal

abbrev places : List ℕ
places = 0 ∷ 16 ∷ 1 ∷ 17 ∷ 2 ∷ 18 ∷ 3 ∷ 19 ∷ 4 ∷ 20 ∷ 5 ∷ 21 ∷ 6 ∷ 22 ∷ 7 ∷ 23 ∷ []

pub returns : goal.returns
returns c =
    woven_law 0 0 c.args.words c.args.bytes c.args.low c.args.high places refl (omega arith) c.requires.bytes
    c.requires.low c.requires.high refl
    (eight_places (λ k. get_or places (2 * k) 0) (λ k. 0 + k) refl) (eight_places (λ k. get_or places (2 * k + 1) 0)
    (λ k. 16 + (0 + k)) refl)
