use Rattle.px_num.proofs.Basics.{ℕ, ◌*◌, ◌+◌, get_or, List, [], ◌∷◌, refl, arith}
use Rattle.px_plane_tree.proofs.WeaveLemmas.{woven_law, eight_places}
use Rattle.px_plane_tree.proofs.doubling.second_woven.Goals as goal

abbrev places : List ℕ
places = 8 ∷ 24 ∷ 9 ∷ 25 ∷ 10 ∷ 26 ∷ 11 ∷ 27 ∷ 12 ∷ 28 ∷ 13 ∷ 29 ∷ 14 ∷ 30 ∷ 15 ∷ 31 ∷ []

pub returns : goal.returns
returns c =
    woven_law 1 8 c.args.words c.args.bytes c.args.low c.args.high places refl (omega arith) c.requires.bytes
    c.requires.low c.requires.high refl
    (eight_places (λ k. get_or places (2 * k) 0) (λ k. 8 + k) refl) (eight_places (λ k. get_or places (2 * k + 1) 0)
    (λ k. 16 + (8 + k)) refl)
