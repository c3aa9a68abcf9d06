-- Members of lists, by their places too, and the least of them.
use Rattle.px_num.proofs.Basics.{◌≡◌, ◌≤◌, ◌+◌, ℕ, zero, suc, get_or, length, Bool, true, List, ◌∷◌, ◌++◌, map, min, []}
use Rattle.px_num.proofs.Basics.{refl, ap, sym, ◌∙◌, subst, arith, inl, inr, ◌⊎◌, if◌then◌else◌, ◌==◌, All, filter}
use Rattle.px_num.proofs.Basics.{flat_map, fold, list_all, list_any, range_with_len, cases_Bool, nat_tests}
use Rattle.px_sched.proofs.Words.{and_left, and_right, has_face, or_true}

abbrev pub In : {X : Type 0} → X → List X → Type 0
In x [] = ⊥
In x (y ∷ ys) = (y ≡ x) ⊎ In x ys

pub in_left : {X : Type 0} (x : X) (xs ys : List X) → In x xs → In x (xs ++ ys)
in_left x [] ys h = absurd h
in_left x (y ∷ xs) ys (inl e) = inl e
in_left x (y ∷ xs) ys (inr h) = inr (in_left x xs ys h)

pub in_right : {X : Type 0} (x : X) (xs ys : List X) → In x ys → In x (xs ++ ys)
in_right x [] ys h = h
in_right x (y ∷ xs) ys h = inr (in_right x xs ys h)

pub in_either : {X : Type 0} (x : X) (xs ys : List X) → In x (xs ++ ys) → In x xs ⊎ In x ys
in_either x [] ys h = inr h
in_either x (y ∷ xs) ys (inl e) = inl (inl e)
in_either x (y ∷ xs) ys (inr h) = elim (in_either x xs ys h) [ inl a ↦ inl (inr a) | inr b ↦ inr b ]

pub in_flat : {X Y : Type 0} (f : X → List Y) (xs : List X) (x : X) (y : Y) → In x xs → In y (f x)
    → In y (flat_map f xs)
in_flat f [] x y h k = absurd h
in_flat f (x' ∷ xs) x y (inl e) k = in_left y (f x') (flat_map f xs) (subst (λ u. In y (f u)) (sym e) k)
in_flat f (x' ∷ xs) x y (inr h) k = in_right y (f x') (flat_map f xs) (in_flat f xs x y h k)

-- an element that something comes from
pub record From {X : Type 0} (Gives : X → Type 0) (xs : List X) : Type 0 where
  pub from : X
  pub there : In from xs
  pub gives : Gives from

later : {X : Type 0} (Gives : X → Type 0) (x : X) (xs : List X) → From Gives xs → From Gives (x ∷ xs)
later Gives x xs r = record { from = r.from; there = inr r.there; gives = r.gives }

pub out_flat : {X Y : Type 0} (f : X → List Y) (xs : List X) (y : Y) → In y (flat_map f xs) → From (λ x. In y (f x)) xs
out_flat f [] y h = absurd h
out_flat f (x ∷ xs) y h = elim (in_either y (f x) (flat_map f xs) h) [
  | inl a ↦ record { from = x; there = inl refl; gives = a }
  | inr b ↦ later (λ x. In y (f x)) x xs (out_flat f xs y b)
]

pub in_map : {X Y : Type 0} (f : X → Y) (xs : List X) (x : X) → In x xs → In (f x) (map f xs)
in_map f [] x h = absurd h
in_map f (y ∷ ys) x (inl e) = inl (ap f e)
in_map f (y ∷ ys) x (inr h) = inr (in_map f ys x h)

pub out_map : {X Y : Type 0} (f : X → Y) (xs : List X) (y : Y) → In y (map f xs) → From (λ x. f x ≡ y) xs
out_map f [] y h = absurd h
out_map f (x ∷ xs) y (inl e) = record { from = x; there = inl refl; gives = e }
out_map f (x ∷ xs) y (inr h) = later (λ x. f x ≡ y) x xs (out_map f xs y h)

pub in_filter : {X : Type 0} (f : X → Bool) (xs : List X) (x : X) → In x xs → f x ≡ true → In x (filter f xs)
in_filter f [] x h e = absurd h
in_filter f (y ∷ ys) x (inl g) e = let here : f y ≡ true = ap f g ∙ e in rw here (inl g)
in_filter f (y ∷ ys) x (inr h) e = grind (arith, in_filter f ys x h e)

pub out_filter : {X : Type 0} (f : X → Bool) (xs : List X) (x : X) → In x (filter f xs) → In x xs × (f x ≡ true)
out_filter f [] x h = absurd h
out_filter f (y ∷ ys) x h = grind (arith, out_filter f ys x)

pub all_of : {X : Type 0} (t : X → Bool) (xs : List X) → ((x : X) → In x xs → t x ≡ true) → list_all t xs ≡ true
all_of t [] h = refl
all_of t (x ∷ xs) h = rw (h x (inl refl)) (all_of t xs (λ y k. h y (inr k)))

pub one_of : {X : Type 0} (t : X → Bool) (xs : List X) (x : X) → In x xs → list_all t xs ≡ true → t x ≡ true
one_of t [] x h all = absurd h
one_of t (y ∷ ys) x (inl e) all = ap t (sym e) ∙ and_left (t y) (list_all t ys) all
one_of t (y ∷ ys) x (inr h) all = one_of t ys x h (and_right (t y) (list_all t ys) all)

pub all_kept : {X : Type 0} (t f : X → Bool) (xs : List X) → list_all t xs ≡ true → list_all t (filter f xs) ≡ true
all_kept t f xs h = all_of t (filter f xs) (λ x k. one_of t xs x (out_filter f xs x k).0 h)

pub any_in : {X : Type 0} (t : X → Bool) (xs : List X) (x : X) → In x xs → t x ≡ true → list_any t xs ≡ true
any_in t [] x h e = absurd h
any_in t (y ∷ ys) x (inl same) e = rw (ap t same ∙ e) refl
any_in t (y ∷ ys) x (inr h) e = rw (any_in t ys x h e) (or_true (t y))

pub any_out : {X : Type 0} (t : X → Bool) (xs : List X) → list_any t xs ≡ true → From (λ x. t x ≡ true) xs
any_out t [] e = absurd (cc)
any_out t (x ∷ xs) e = elim (cases_Bool (t x)) [
  | inl yea ↦ record { from = x; there = inl refl; gives = yea }
  | inr nay ↦ later (λ x. t x ≡ true) x xs (any_out t xs (rw nay at e))
]

pub all_in : {X : Type 0} (P : X → Type 0) (xs : List X) (x : X) → All P xs → In x xs → P x
all_in P [] x all h = absurd h
all_in P (y ∷ ys) x all (inl e) = subst P e (all 0 y (omega arith))
all_in P (y ∷ ys) x all (inr h) = all_in P ys x (λ k any lt. all (suc k) any (omega arith)) h

pub in_where : {X : Type 0} (b : Bool) (x y : X) → In x (if b then y ∷ [] else []) → (b ≡ true) × (y ≡ x)
in_where b x y h = grind arith

-- the elements of a list, by their places
shift : {X : Type 0} (f g : ℕ → X) → ((i : ℕ) → f (i + 1) ≡ g i) → (a n : ℕ)
    → map f (range_with_len (a + 1) n) ≡ map g (range_with_len a n)
shift f g same a zero = refl
shift f g same a (suc n) = rw (same a, shift f g same (a + 1) n) refl

pub by_places : {X : Type 0} (d : X) (xs : List X) → map (λ i. get_or xs i d) (range_with_len 0 (length xs)) ≡ xs
by_places d [] = refl
by_places d (x ∷ xs) = grind (arith, shift, by_places d xs)

-- faces by their numbers
pub face_in : (n : ℕ) (ns : List ℕ) → has_face n ns ≡ true → In n ns
face_in n ns e =
    let r = any_out (λ m. m == n) ns e in subst (λ m. In m ns) (same r.from n r.gives) r.there
  where
    same : (m n : ℕ) → (m == n) ≡ true → m ≡ n
    same m n h = grind (arith, nat_tests)

pub in_face : (n : ℕ) (ns : List ℕ) → In n ns → has_face n ns ≡ true
in_face n ns h = any_in (λ m. m == n) ns n h (grind (arith, nat_tests))

-- the least of a number and some more
pub min_start : (b : ℕ) (ks : List ℕ) → fold min b ks ≤ b
min_start b [] = omega arith
min_start b (k ∷ ks) = omega (arith, min_start (min b k) ks)

pub min_below : (b : ℕ) (ks : List ℕ) (k : ℕ) → In k ks → fold min b ks ≤ k
min_below b [] k h = absurd h
min_below b (j ∷ ks) k (inl e) = omega (arith, min_start (min b j) ks, e)
min_below b (j ∷ ks) k (inr h) = min_below (min b j) ks k h

pub min_reached : (b : ℕ) (ks : List ℕ) → (fold min b ks ≡ b) ⊎ In (fold min b ks) ks
min_reached b [] = inl refl
min_reached b (k ∷ ks) = grind (arith, min_reached (min b k) ks)
