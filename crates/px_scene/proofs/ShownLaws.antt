-- The line of an expression, and what is read of it.
use Rattle.px_num.proofs.Basics.{arith, ◌≡◌, [], ◌∷◌, true, codes, refl, append-nil, list_all, list_all-append}
use Rattle.px_scene.proofs.CanonicalWords.{before_none, both, has_names, is_no_comment, is_no_feed, name_bytes, Named}
use Rattle.px_scene.proofs.CanonicalWords.{names_plain, plain_byte, plain_fed, printed, printed_uncommented, words_of}
use Rattle.px_show.specs.Expressions.{leaf, join}
use Rattle.px_show.proofs.SignLaws.{sign_plain}
use Rattle.px_scene.proofs.WrittenLaws.{bare, has_no_feed}

printed_fed : (tree : Named) → has_names tree ≡ true → list_all is_no_feed (printed tree) ≡ true
printed_fed (leaf n) names = plain_fed n (names_plain n (name_bytes n names))
printed_fed (join op left right) names =
    let each = both (has_names left) (has_names right) names
    in grind (arith, list_all-append, plain_byte, sign_plain, printed_fed left each.0, printed_fed right each.1)

-- the words that are read of it
pub show_read : (tree : Named) → has_names tree ≡ true
    → words_of (bare (codes "show" ∷ printed tree ∷ [])) ≡ codes "show" ∷ words_of (printed tree)
show_read tree names = grind (arith, printed_uncommented, bare, codes, append-nil, is_no_comment, before_none)

pub show_fed : (tree : Named) → has_names tree ≡ true → has_no_feed (bare (codes "show" ∷ printed tree ∷ [])) ≡ true
show_fed tree names = rw (append-nil (printed tree), printed_fed tree names) refl
