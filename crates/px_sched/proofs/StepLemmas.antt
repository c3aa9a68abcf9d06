-- What comes after a step, of a literal or of a group, begins with the next one.
use Rattle.px_num.proofs.Basics.{◌≡◌, ◌+◌, ◌-◌, ◌<◌, ◌==◌, ◌++◌, ◌∙◌, ℕ, not, List, ◌∷◌, All}
use Rattle.px_num.proofs.Basics.{get_or, length, map, flat_map, ap, sym, subst, arith, common_steps, append_assoc}
use Rattle.px_num.proofs.Basics.{length-append, length-map, drop_more, get_or-map, get_or-append_right}
use Rattle.px_num.proofs.Basics.{get_or_append_left, All-filter, All-get_or}
use Rattle.px_sched.proofs.Words.{AreKnown, around_edges, At, Begin, BeginAt, BeginWith, behind_step}
use Rattle.px_sched.proofs.Words.{edge_count, edges_count, face_count, HasKnownLiterals, judged_from, level}
use Rattle.px_sched.proofs.Words.{Linear, Literal, literal_of, literal_steps, literals, literals_from, Macro}
use Rattle.px_sched.proofs.Words.{no_product, Open, others_of, Product, product_at, product_steps, products_from}
use Rattle.px_sched.proofs.Words.{SceneView, solid_of}
use Rattle.px_sched.specs.declared.group.Group.{Group}
use Rattle.px_macro.specs.declared.operation.Macro.TheVariants as m

module _ (scene : SceneView) (q : Literal) (rs : List Literal) where
  pub begins : (other : ℕ) → other < length rs → BeginWith scene q rs (judged_from scene rs other) (Begin other)
  begins other more = record { left = grind (arith, append_assoc); step = more; faces = tt }

  -- the steps of a literal begin with its first one
  pub opens : literal_steps scene q rs ≡ Open ∷ behind_step scene q rs Open
  opens = grind arith

-- the operation of an edge, behind a head
pub sign_of_edge : (head tail : List Macro) (es : List Linear) (n at place : ℕ) (e : Linear) → length es ≡ n
    → at ≡ length head + place → place < n
    → e ≡ get_or es place (level 0) → m.KeepSign e ≡ get_or (head ++ map m.KeepSign es ++ tail) at m.All
sign_of_edge head tail es n at place e size from to is =
    let behind : at - length head ≡ place = omega (arith, from) in
    grind (arith, get_or-map, get_or-append_right, get_or_append_left, length-append, length-map)

-- and one of a tail
pub behind_edges : (scene : SceneView) (solid face : ℕ) (head tail : List Macro) (at place : ℕ)
    → face < face_count (solid_of scene solid) → at ≡ length head + edge_count (solid_of scene solid) + place
    → get_or tail place m.All ≡ get_or (around_edges scene solid face head tail) at m.All
behind_edges scene solid face head tail at place there is = grind (arith, edges_count, get_or-append_right, length-append, length-map)

pub others_known : (scene : SceneView) (products : List Product) (g : Group) (rs : List Literal)
    → g.product < length products → All (HasKnownLiterals scene) products → rs ≡ others_of products g
    → AreKnown scene rs
others_known scene products g rs there drawn e =
    let known = (All-get_or (HasKnownLiterals scene) products g.product no_product there drawn).known in
    subst (AreKnown scene) (sym e)
    (All-filter (λ r. not (r.solid == (literal_of products g).solid)) (λ r. r.solid < length scene.solids)
    (literals (product_at products g.product)) known)

-- the steps from a literal of a product on begin with the first one of the literal
module _ (scene : SceneView) (products : List Product) where
  abbrev opening : (product literal : ℕ) → Group
  opening product literal = record { product = product; literal = literal; step = Open }

  pub literal_opens : (product literal : ℕ) → literal < length (literals (product_at products product))
      → product < length products
      → BeginAt scene products (literals_from scene products product literal) (At (opening product literal))
  literal_opens product literal more there = grind (arith, common_steps, opens)

  pub product_opens : (product : ℕ) → product < length products → All (HasKnownLiterals scene) products
      → BeginAt scene products (products_from scene products product) (At (opening product 0))
  product_opens product there drawn =
      let opened = literal_opens product 0 (All-get_or (HasKnownLiterals scene) products product no_product there
      drawn).some there in
      record {
        left = ap (flat_map (product_steps scene)) (drop_more products product no_product there) ∙ opened.left;
        stage = opened.stage;
      }
