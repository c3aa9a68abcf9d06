-- A test of what each element is mapped to.
use Rattle.px_num.proofs.Basics.{◌≡◌, ℕ, List, [], ◌∷◌, Bool, ◌||◌, map, refl, ap, list_any, bytes_eq}
use Rattle.px_scene.proofs.Words.{is_among, names_of, SolidView}

list_any-map : {X Y : Type 0} (p : Y → Bool) (f : X → Y) (xs : List X) → list_any p (map f xs)
    ≡ list_any (λ x. p (f x)) xs
list_any-map p f [] = refl
list_any-map p f (x ∷ xs) = ap (λ b. p (f x) || b) (list_any-map p f xs)

pub any_of_mapped : (solids : List SolidView) (name : List ℕ) → is_among (names_of solids) name
    ≡ list_any (λ s. bytes_eq s.name name) solids
any_of_mapped solids name = list_any-map (λ n. bytes_eq n name) (λ s. s.name) solids
