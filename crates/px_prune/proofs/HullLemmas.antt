-- Boxes of cells that are joined to one.
use Rattle.px_num.proofs.Basics.{rules}
use Rattle.px_num.proofs.Basics.{ℕ, ◌≡◌, ◌<◌, ◌≤◌, ◌+◌, ◌-◌, ◌==◌, ◌||◌, ◌&&◌, nat_le, nat_lt, Bool, true, false, refl}
use Rattle.px_num.proofs.Basics.{sym, ◌∙◌, arith, inl, inr, Option, Some, None}
use Rattle.px_prune.proofs.Words.{CellBox, hull, in_rows, is_in_box, is_part, IsBoxOf, lies_in, or_cases, or_left}
use Rattle.px_prune.proofs.Words.{or_right}

-- the cells of a pixel, and of the first pixels of a row
abbrev pub at_pixel : (ℕ → ℕ → ℕ → Bool) → ℕ → ℕ → ℕ → ℕ → ℕ → Bool
at_pixel cells x y a b z = (a == x) && (b == y) && cells a b z

abbrev pub in_row : (ℕ → ℕ → ℕ → Bool) → ℕ → ℕ → ℕ → ℕ → ℕ → Bool
in_row cells width y a b z = nat_lt a width && (b == y) && cells a b z

in_hull_left : (x y z : ℕ) (o u : Option CellBox) → is_in_box o x y z ≡ true → is_in_box (hull o u) x y z ≡ true
in_hull_left x y z o u p = search rules

in_hull_right : (x y z : ℕ) (o u : Option CellBox) → is_in_box u x y z ≡ true → is_in_box (hull o u) x y z ≡ true
in_hull_right x y z o u p = search rules

part_hull : (b : CellBox) (o u : Option CellBox) → is_part o b ≡ true → is_part u b ≡ true → is_part (hull o u) b ≡ true
part_hull b o u p q = search rules

within_ends : (b : CellBox) (x y z : ℕ) → b.x0 ≤ x → x ≤ b.x1 → b.y0 ≤ y → y ≤ b.y1 → b.z0 ≤ z → z ≤ b.z1
    → lies_in b x y z ≡ true
within_ends b x y z left right top bottom near behind = grind arith

pub in_part : (a b : CellBox) (x y z : ℕ) → is_part (Some a) b ≡ true → lies_in a x y z ≡ true → lies_in b x y z ≡ true
in_part a b x y z e h =
    within_ends b x y z (grind arith) (grind arith) (grind arith) (grind arith) (grind arith) (grind arith)

empty_none : (cells : ℕ → ℕ → ℕ → Bool) → ((x y z : ℕ) → cells x y z ≡ true → false ≡ true) → (x y z : ℕ)
    → cells x y z ≡ false
empty_none cells h x y z = grind arith

less_than_itself : (b : CellBox) → is_part (Some b) (record b { x0 = b.x0 + 1 }) ≡ true → false ≡ true
less_than_itself b h = grind arith

-- a box that holds the cells, and is a part of each that does, is none exactly where there is no cell
box_is : (cells : ℕ → ℕ → ℕ → Bool) (box : Option CellBox)
    → ((x y z : ℕ) → cells x y z ≡ true → is_in_box box x y z ≡ true)
    → ((b : CellBox) → ((x y z : ℕ) → cells x y z ≡ true → lies_in b x y z ≡ true) → is_part box b ≡ true)
    → IsBoxOf cells box
box_is cells None holds least = record { holds = holds; least = least; none = (λ _. empty_none cells holds, λ _. refl) }
box_is cells (Some b) holds least =
    record {
      holds = holds;
      least = least;
      none = (
        λ e. cc e,
        λ none.
            some none (less_than_itself b (least (record b { x0 = b.x0 + 1 }) (λ x y z h. cc (none x y z, h)))),
      );
    } where
      some : ((x y z : ℕ) → cells x y z ≡ false) → false ≡ true → Some b ≡ None
      some none e = cc e

pub joined_box : (c d e : ℕ → ℕ → ℕ → Bool) (o u : Option CellBox) → ((x y z : ℕ) → e x y z ≡ c x y z || d x y z)
    → IsBoxOf c o → IsBoxOf d u → IsBoxOf e (hull o u)
joined_box c d e o u same p q = box_is e (hull o u)
    (λ x y z h. elim (or_cases (c x y z) (d x y z) (sym (same x y z) ∙ h)) [
      | inl l ↦ in_hull_left x y z o u (p.holds x y z l)
      | inr r ↦ in_hull_right x y z o u (q.holds x y z r)
    ])
    (λ b h. part_hull b o u
    (p.least b (λ x y z l. h x y z (same x y z ∙ or_left (c x y z) (d x y z) l)))
    (q.least b (λ x y z r. h x y z (same x y z ∙ or_right (c x y z) (d x y z) r))))

-- cells that lie in the box already leave it as it is
pub covered_box : (c d : ℕ → ℕ → ℕ → Bool) (o : Option CellBox) → IsBoxOf c o
    → ((x y z : ℕ) → d x y z ≡ true → is_in_box o x y z ≡ true) → IsBoxOf (λ x y z. c x y z || d x y z) o
covered_box c d o p inside = box_is (λ x y z. c x y z || d x y z) o
    (λ x y z h. elim (or_cases (c x y z) (d x y z) h) [
      | inl l ↦ p.holds x y z l
      | inr r ↦ inside x y z r
    ])
    (λ b h. p.least b (λ x y z l. h x y z (or_left (c x y z) (d x y z) l)))

pub same_box : (c d : ℕ → ℕ → ℕ → Bool) (o : Option CellBox) → ((x y z : ℕ) → c x y z ≡ d x y z) → IsBoxOf c o
    → IsBoxOf d o
same_box c d o same p = box_is d o (λ x y z h. p.holds x y z (same x y z ∙ h))
    (λ b h. p.least b (λ x y z k. h x y z (sym (same x y z) ∙ k)))

pub no_box : (c : ℕ → ℕ → ℕ → Bool) → ((x y z : ℕ) → c x y z ≡ false) → IsBoxOf c None
no_box c none = box_is c None (λ x y z h. cc (none x y z, h)) (λ b h. refl)

at_place : (a x b y : ℕ) (v : Bool) → (a == x) && (b == y) && v ≡ true → (a ≡ x) × (b ≡ y) × (v ≡ true)
at_place a x b y v h = (grind arith, grind arith, grind arith)

here : (x y : ℕ) (v : Bool) → v ≡ true → (x == x) && (y == y) && v ≡ true
here x y v h = grind arith

elsewhere : (a x b y : ℕ) (v : Bool) → (a ≡ x → b ≡ y → v ≡ false) → (a == x) && (b == y) && v ≡ false
elsewhere a x b y v h = grind arith

both_ends : (b : CellBox) (x y s t : ℕ) → lies_in b x y s ≡ true → lies_in b x y t ≡ true → nat_le b.x0 x
    && nat_le x b.x1 && nat_le b.y0 y && nat_le y b.y1 && nat_le b.z0 s && nat_le t b.z1 ≡ true
both_ends b x y s t p q = grind arith

between : (x y s t z : ℕ) → nat_le s z && nat_lt z t ≡ true
    → lies_in (record { x0 = x; x1 = x; y0 = y; y1 = y; z0 = s; z1 = t - 1 }) x y z ≡ true
between x y s t z h = grind arith

module _ (f : ℕ → ℕ → ℕ → Bool) where
  row_split : (x y a b : ℕ) (v : Bool) → nat_lt a (x + 1) && (b == y) && v ≡ (nat_lt a x && (b == y) && v)
      || ((a == x) && (b == y) && v)
  row_split x y a b v = grind arith

  rows_split : (x y a b : ℕ) (v : Bool) → nat_lt a x && nat_lt b (y + 1) && v ≡ (nat_lt a x && nat_lt b y && v)
      || (nat_lt a x && (b == y) && v)
  rows_split x y a b v = grind arith

  pub next_pixel : (x y : ℕ) (o u : Option CellBox) → IsBoxOf (in_row f x y) o → IsBoxOf (at_pixel f x y) u
      → IsBoxOf (in_row f (x + 1) y) (hull o u)
  next_pixel x y o u p q =
      joined_box (in_row f x y) (at_pixel f x y) (in_row f (x + 1) y) o u (λ a b z. row_split x y a b (f a b z)) p q

  pub next_row : (x y : ℕ) (o u : Option CellBox) → IsBoxOf (in_rows f x y) o → IsBoxOf (in_row f x y) u
      → IsBoxOf (in_rows f x (y + 1)) (hull o u)
  next_row x y o u p q =
      joined_box (in_rows f x y) (in_row f x y) (in_rows f x (y + 1)) o u (λ a b z. rows_split x y a b (f a b z)) p q

  pub no_row : (y : ℕ) → IsBoxOf (in_row f 0 y) None
  no_row y = no_box (in_row f 0 y) (λ a b z. grind arith)

  pub no_rows : (x : ℕ) → IsBoxOf (in_rows f x 0) None
  no_rows x = no_box (in_rows f x 0) (λ a b z. grind arith)

  -- the cells of a pixel, from the first one to the one before the last
  pub pixel_box : (x y s t : ℕ) → s < t → ((z : ℕ) → f x y z ≡ nat_le s z && nat_lt z t)
      → IsBoxOf (at_pixel f x y) (Some (record { x0 = x; x1 = x; y0 = y; y1 = y; z0 = s; z1 = t - 1 }))
  pixel_box x y s t lt is =
      box_is (at_pixel f x y) (Some (record { x0 = x; x1 = x; y0 = y; y1 = y; z0 = s; z1 = t - 1 }))
      (λ a b z h. let p = at_place a x b y (f a b z) h
      in rw (p.0, p.1) (between x y s t z (sym (is z) ∙ rw (p.0, p.1) at p.2)))
      (λ b h. both_ends b x y s (t - 1)
      (h x y s (here x y (f x y s) (is s ∙ grind arith)))
      (h x y (t - 1) (here x y (f x y (t - 1)) (is (t - 1) ∙ grind arith))))

  pub no_pixel : (x y : ℕ) → ((z : ℕ) → f x y z ≡ false) → IsBoxOf (at_pixel f x y) None
  no_pixel x y none = no_box (at_pixel f x y) (λ a b z. elsewhere a x b y (f a b z) (λ p q. rw (p, q) (none z)))
