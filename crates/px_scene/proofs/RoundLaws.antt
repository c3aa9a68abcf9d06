-- Written lines, one after another, are good and give the scene.
use Rattle.px_num.proofs.Basics.{common_steps, ◌≡◌, ℕ, ℤ, pos, ◌+◌, ◌-◌, min, ◌<◌, ◌≤◌, List, [], ◌∷◌, ◌++◌, length}
use Rattle.px_num.proofs.Basics.{Option, Some, None, Ok, true, false, codes, decimal, refl, ap, sym, subst, ◌∙◌, arith}
use Rattle.px_num.proofs.Basics.{map, append_assoc, append-nil, length-append, suc, All, signed_decimal, option_or}
use Rattle.px_num.proofs.Basics.{ints, nat_tests, list_all-append}
use Rattle.px_scene.proofs.CanonicalWords.{are_plain, AreDistinctNames, blank, Colour, colour_words, decimal_plain}
use Rattle.px_scene.proofs.CanonicalWords.{depth_words, DraftView, Face, fresh_solid, has_signs, HasLeavesBelow}
use Rattle.px_scene.proofs.CanonicalWords.{is_among}
use Rattle.px_scene.proofs.CanonicalWords.{is_name, IsColour, IsLawfulTree, IsPlane, IsWithin, Linear, name_is_plain}
use Rattle.px_scene.proofs.CanonicalWords.{named_by, names_lawful, names_of, past, printed, printed_good, printed_tree}
use Rattle.px_scene.proofs.CanonicalWords.{size_past, small_size, SolidView, Tree, Version, version_word, with_back}
use Rattle.px_scene.proofs.CanonicalWords.{with_front, with_side, Words, words_of_plane, written_line}
use Rattle.px_scene.specs.declared.line.Due.{Due}
use Rattle.px_scene.specs.declared.line.Paint.{Paint}
use Rattle.px_scene.specs.declared.line.Plane.{Plane}
use Rattle.px_show.specs.declared.fault.LimitKind.{LimitKind}
use Rattle.px_show.specs.declared.fault.LineFault.{LineFault}
use Rattle.px_scene.specs.Lines.{back, colour_past, depth, end, face_limit, face_past, front, is_due}
use Rattle.px_scene.specs.Lines.{keyword_of, linear_in, most, paint_in, picture, plane_form, plane_in, plane_past}
use Rattle.px_scene.specs.Lines.{side, solid, uncoloured}
use Rattle.px_text.proofs.DecimalLaws.{number_read, signed_read}
use Rattle.px_scene.proofs.LastLemmas.{in_last-push, with_last-append}
use Rattle.px_scene.proofs.ShownLaws.{show_fed, show_read}
use Rattle.px_scene.proofs.WalkLaws.{Walk, form_walk, line_walk, walk_both}
use Rattle.px_scene.proofs.WrittenLaws.{both_texts, colour_plain, one_line, plane_plain, text_of_lines}
use Rattle.px_scene.specs.declared.line.Due.TheVariants as d
use Rattle.px_show.specs.declared.fault.LimitKind.TheVariants as kind
use Rattle.px_show.specs.declared.scene_version.Version.TheVariants as v

-- a number within limits
past_in : (limit : LimitKind) (low high n : ℕ) → low ≤ n → n ≤ high → past limit (pos low) (pos high) (pos n) ≡ None
past_in limit low high n above below = grind (arith, ints, nat_tests)

size_in : (n : ℕ) (z : ℤ) → IsWithin n z → size_past kind.Coefficient n z ≡ None
size_in n z within = let low = within.0 in let high = within.1 in grind (arith, ints, nat_tests)

-- three limits, none of which is passed
none_of : (a b c : Option (LineFault LimitKind)) → a ≡ None → b ≡ None → c ≡ None → option_or (option_or a b) c ≡ None
none_of a b c one two three = rw (one, two) three

abbrev pub opened : Version → ℕ → ℕ → ℕ → ℕ → DraftView
opened version width height bits fraction = record {
  version = version;
  due = d.Solid;
  numbered = 0;
  width = width;
  height = height;
  depth_bits = bits;
  fraction_bits = fraction;
  solids = [];
  show = None;
}

-- only a version with two numbers on its `depth` line writes fraction bits
abbrev pub CanWrite : Version → ℕ → Type 0
CanWrite v.One fraction = fraction ≡ 0
CanWrite v.Two fraction = fraction ≡ 0
CanWrite v.Three fraction = Unit {0}

abbrev headed : Version → Due → ℕ → ℕ → DraftView
headed version due width height = record blank { version = version; due = due; width = width; height = height }

header_walk : (version : Version) → Walk blank ((codes "pxscene" ∷ version_word version ∷ []) ∷ [])
    (headed version d.Picture 1 1)
header_walk version = grind arith

picture_walk : (version : Version) (width height : ℕ) → 1 ≤ width → width ≤ 512 → 1 ≤ height → height ≤ 512
    → Walk (headed version d.Picture 1 1) ((codes "picture" ∷ decimal width ∷ decimal height ∷ []) ∷ [])
    (headed version d.Depth width height)
picture_walk version width height w1 w2 h1 h2 =
    form_walk (headed version d.Picture 1 1) (codes "picture") (decimal width ∷ decimal height ∷ [])
    (picture (pos width) (pos height))
    (rw (decimal_plain width (omega arith), decimal_plain height (omega arith)) refl) refl
    (rw (number_read width (omega arith), number_read height (omega arith)) refl)
    (rw (past_in kind.Picture 1 512 width w1 w2) (past_in kind.Picture 1 512 height h1 h2))

depth_walk : (version : Version) (width height bits fraction : ℕ) → CanWrite version fraction → 1 ≤ bits
    → bits + fraction ≤ 24 → fraction ≤ 8 → Walk (headed version d.Depth width height)
    ((codes "depth" ∷ depth_words version bits fraction) ∷ []) (opened version width height bits fraction)
depth_walk v.One width height bits fraction none b1 b2 f =
    rw none (form_walk (headed v.One d.Depth width height) (codes "depth") (decimal bits ∷ []) (depth (pos bits) None)
    (rw (decimal_plain bits (omega arith)) refl) refl (rw (number_read bits (omega arith)) refl)
    (rw (past_in kind.Depth 1 24 bits b1 (omega arith)) refl))
depth_walk v.Two width height bits fraction none b1 b2 f =
    rw none (form_walk (headed v.Two d.Depth width height) (codes "depth") (decimal bits ∷ []) (depth (pos bits) None)
    (rw (decimal_plain bits (omega arith)) refl) refl (rw (number_read bits (omega arith)) refl)
    (rw (past_in kind.Depth 1 24 bits b1 (omega arith)) refl))
depth_walk v.Three width height bits fraction some b1 b2 f =
    form_walk (headed v.Three d.Depth width height) (codes "depth") (decimal bits ∷ decimal fraction ∷ [])
    (depth (pos bits) (Some (pos fraction)))
    (rw (decimal_plain bits (omega arith), decimal_plain fraction (omega arith)) refl) refl
    (rw (number_read bits (omega arith), number_read fraction (omega arith)) refl)
    (rw (past_in kind.Depth 1 24 bits b1 (omega arith))
    (past_in kind.Fraction 0 (min 8 (24 - bits)) fraction (omega arith) (omega arith)))

-- the first three lines
abbrev pub begin_words : Version → (width height bits fraction : ℕ) → List Words
begin_words version width height bits fraction =
    (codes "pxscene" ∷ version_word version ∷ []) ∷ (codes "picture" ∷ decimal width ∷ decimal height ∷ [])
    ∷ (codes "depth" ∷ depth_words version bits fraction) ∷ []

pub begin_are : (version : Version) (width height bits fraction : ℕ) → written_line (codes "pxscene")
    (version_word version ∷ []) ++ written_line (codes "picture")
    (decimal width ∷ decimal height ∷ []) ++ written_line (codes "depth")
    (depth_words version bits fraction) ≡ text_of_lines (begin_words version width height bits fraction)
begin_are version width height bits fraction = grind (arith, nat_tests, common_steps, both_texts, codes, one_line)

pub begin_walk : (version : Version) (width height bits fraction : ℕ) → CanWrite version fraction → 1 ≤ width
    → width ≤ 512 → 1 ≤ height → height ≤ 512 → 1 ≤ bits → bits + fraction ≤ 24 → fraction ≤ 8
    → Walk blank (begin_words version width height bits fraction) (opened version width height bits fraction)
begin_walk version width height bits fraction can w1 w2 h1 h2 b1 b2 f =
    let header = codes "pxscene" ∷ version_word version ∷ []
    in let picture = codes "picture" ∷ decimal width ∷ decimal height ∷ []
    in let depth = codes "depth" ∷ depth_words version bits fraction
    in let last = opened version width height bits fraction
    in walk_both blank (headed version d.Picture 1 1) last (header ∷ []) (picture ∷ depth ∷ []) (header_walk version)
    (walk_both (headed version d.Picture 1 1) (headed version d.Depth width height) last (picture ∷ []) (depth ∷ [])
    (picture_walk version width height w1 w2 h1 h2)
    (depth_walk version width height bits fraction can b1 b2 f))

-- the numbers of a colour and of a plane, as they are read
abbrev paint_for : Colour → Paint
paint_for c = record { red = pos c.red; green = pos c.green; blue = pos c.blue }

paint_read : (c : Colour) → IsColour c
    → paint_in (decimal c.red) (decimal c.green) (decimal c.blue) ≡ Some (paint_for c)
paint_read c is = grind (arith, number_read)

linear_read : (p : Linear) → IsPlane p
    → linear_in (signed_decimal p.a) (signed_decimal p.b) (signed_decimal p.c) ≡ Some p
linear_read p is = grind (arith, nat_tests, common_steps, signed_read, small_size)

linear_in_limits : (p : Linear) → IsPlane p → plane_past p ≡ None
linear_in_limits p is = grind (arith, none_of, size_in)

paint_in_limits : (c : Colour) → IsColour c → colour_past (paint_for c) ≡ None
paint_in_limits c is = grind (arith, none_of, past_in)

-- the words of a front or a back, and the plane that they write, within its limits
pub record Writes (ws : Words) (p : Plane) : Type 0 where
  pub plain : are_plain ws ≡ true
  pub reads : plane_in ws ≡ Ok p
  pub within : face_past p ≡ None

pub plane_written : (p : Linear) → IsPlane p → Writes (words_of_plane p) (uncoloured p)
plane_written p is = grind (arith, plane_plain, linear_read, linear_in_limits)

abbrev pub face_words : Face → Words
face_words f = words_of_plane f.plane ++ colour_words f.colour

abbrev pub plane_for : Face → Plane
plane_for f = record { form = f.plane; paint = Some (paint_for f.colour) }

pub face_written : (f : Face) → IsPlane f.plane → IsColour f.colour → Writes (face_words f) (plane_for f)
face_written f plane colour =
    grind (arith, list_all-append, plane_plain, colour_plain, linear_read, paint_read, paint_in_limits)

-- what stands while solids are written, behind the draft of the first lines
abbrev pub written_so_far : DraftView → List SolidView → ℕ → DraftView
written_so_far start solids n = record start { due = d.Plane; numbered = n; solids = solids }

abbrev pub open_solid : DraftView → List SolidView → SolidView → ℕ → DraftView
open_solid start done s n = written_so_far start (done ++ s ∷ []) n

room_in : (limit : LimitKind) (p : Plane) (faces n : ℕ) → face_past p ≡ None → faces < 32 → n < 4095
    → face_limit limit faces n p ≡ None
room_in limit p faces n within few more = grind (arith, none_of, past_in)

pub front_walk : (start : DraftView) (done : List SolidView) (s : SolidView) (n : ℕ) (ws : Words) (p : Plane)
    → Writes ws p → length s.fronts < 32 → n < 4095 → Walk (open_solid start done s n) ((codes "front" ∷ ws) ∷ [])
    (open_solid start done (with_front (n + 1) p s) (n + 1))
front_walk start done s n ws p is few more =
    subst (λ (ss : List SolidView). Walk (open_solid start done s n) ((codes "front" ∷ ws) ∷ [])
    (written_so_far start ss (n + 1))) (with_last-append (with_front (n + 1) p) done s)
    (form_walk (open_solid start done s n) (codes "front") ws (front p) (rw is.plain refl) refl
    (ap (plane_form front) is.reads)
    (ap (λ m. face_limit kind.Fronts m n p) (in_last-push (λ q. length q.fronts) done s)
    ∙ room_in kind.Fronts p (length s.fronts) n is.within few more))

pub back_walk : (start : DraftView) (done : List SolidView) (s : SolidView) (n : ℕ) (ws : Words) (p : Plane)
    → Writes ws p → length s.backs < 32 → n < 4095 → Walk (open_solid start done s n) ((codes "back" ∷ ws) ∷ [])
    (open_solid start done (with_back (n + 1) p s) (n + 1))
back_walk start done s n ws p is few more =
    subst (λ (ss : List SolidView). Walk (open_solid start done s n) ((codes "back" ∷ ws) ∷ [])
    (written_so_far start ss (n + 1))) (with_last-append (with_back (n + 1) p) done s)
    (form_walk (open_solid start done s n) (codes "back") ws (back p) (rw is.plain refl) refl
    (ap (plane_form back) is.reads)
    (ap (λ m. face_limit kind.Backs m n p) (in_last-push (λ q. length q.backs) done s)
    ∙ room_in kind.Backs p (length s.backs) n is.within few more))

side_walk : (start : DraftView) (done : List SolidView) (s : SolidView) (n : ℕ) (p : Linear) → IsPlane p
    → length s.sides < 32 → Walk (open_solid start done s n) ((codes "side" ∷ words_of_plane p) ∷ [])
    (open_solid start done (with_side p s) n)
side_walk start done s n p is few =
    subst (λ (ss : List SolidView). Walk (open_solid start done s n) ((codes "side" ∷ words_of_plane p) ∷ [])
    (written_so_far start ss n)) (with_last-append (with_side p) done s)
    (form_walk (open_solid start done s n) (codes "side") (words_of_plane p) (side p) (rw (plane_plain p is) refl) refl
    (rw (linear_read p is) refl)
    (ap (λ m. option_or (plane_past p) (most kind.Sides 32 (m + 1))) (in_last-push (λ q. length q.sides) done s)
    ∙ rw (linear_in_limits p is) (past_in kind.Sides 0 32 (length s.sides + 1) (omega arith) (omega arith))))

-- sides behind others
pub sides_walk : (start : DraftView) (done : List SolidView) (s : SolidView) (n : ℕ) (ps before : List Linear)
    → All IsPlane ps → length before + length ps ≤ 32 → Walk (open_solid start done (record s { sides = before }) n)
    (map (λ p. codes "side" ∷ words_of_plane p) ps) (open_solid start done (record s { sides = before ++ ps }) n)
sides_walk start done s n [] before all few =
    ap (λ ps. open_solid start done (record s { sides = ps }) n) (sym (append-nil before))
sides_walk start done s n (p ∷ ps) before all few =
    let first = side_walk start done (record s { sides = before }) n p (all 0 p (omega arith)) (omega arith)
    in let later = sides_walk start done s n ps (before ++ p ∷ []) (λ k d lt. all (suc k) d (omega arith))
    (omega (arith, length-append before (p ∷ [])))
    in grind (arith, append_assoc, walk_both, codes)

-- before a solid is written
abbrev pub due_behind_solids : List SolidView → Due
due_behind_solids [] = d.Solid
due_behind_solids (s ∷ ss) = d.Plane

abbrev pub standing : DraftView → List SolidView → ℕ → DraftView
standing start done n = record start { due = due_behind_solids done; numbered = n; solids = done }

pub stands : (start : DraftView) (done : List SolidView) (s : SolidView) (n : ℕ)
    → written_so_far start (done ++ s ∷ []) n ≡ standing start (done ++ s ∷ []) n
stands start [] s n = refl
stands start (q ∷ done) s n = refl

due_solid : (done : List SolidView) → is_due (due_behind_solids done) (keyword_of (codes "solid")) ≡ true
due_solid [] = refl
due_solid (s ∷ ss) = refl

pub solid_walk : (start : DraftView) (done : List SolidView) (n : ℕ) (name : List ℕ) (c : Colour) → IsColour c
    → is_name name ≡ true → is_among (names_of done) name ≡ false → length done < 255 → n < 4095
    → Walk (standing start done n) ((codes "solid" ∷ name ∷ colour_words c) ∷ [])
    (open_solid start done (fresh_solid name (n + 1) c) (n + 1))
solid_walk start done n name c is lawful fresh few more =
    form_walk (standing start done n) (codes "solid") (name ∷ colour_words c) (solid name (paint_for c))
    (rw (name_is_plain name lawful, colour_plain c is) refl) (due_solid done) (rw (lawful, paint_read c is) refl)
    (rw fresh (none_of (colour_past (paint_for c)) (most kind.Solids 255 (length done + 1))
    (most kind.Faces 4095 (n + 1)) (paint_in_limits c is)
    (past_in kind.Solids 0 255 (length done + 1) (omega arith) (omega arith))
    (past_in kind.Faces 0 4095 (n + 1) (omega arith) (omega arith))))

abbrev pub shown_draft : DraftView → List SolidView → ℕ → Due → Option Tree → DraftView
shown_draft start done n due tree = record start { due = due; numbered = n; solids = done; show = tree }

due_show : (done : List SolidView) → is_due (due_behind_solids done) (keyword_of (codes "show")) ≡ true
due_show [] = refl
due_show (s ∷ ss) = refl

-- the line of the expression, and the end
pub show_walk : (start : DraftView) (done : List SolidView) (n : ℕ) (tree : Tree) → AreDistinctNames (names_of done)
    → HasLeavesBelow (length (names_of done)) tree → has_signs start.version (named_by (names_of done) tree) ≡ true
    → IsLawfulTree tree → Walk (standing start done n)
    ((codes "show" ∷ printed (named_by (names_of done) tree) ∷ []) ∷ []) (shown_draft start done n d.End (Some tree))
show_walk start done n tree names below signs lawful =
    grind (arith, names_lawful, codes, printed_tree, line_walk, show_fed, show_read, due_show, printed_good)

pub end_walk : (start : DraftView) (done : List SolidView) (n : ℕ) (tree : Option Tree)
    → Walk (shown_draft start done n d.End tree) ((codes "end" ∷ []) ∷ []) (shown_draft start done n d.Nothing tree)
end_walk start done n tree = form_walk (shown_draft start done n d.End tree) (codes "end") [] end refl refl refl refl
