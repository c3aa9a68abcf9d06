-- The steps on numbers: what each does to the keys of a pixel, apart from where the memory keeps them.
-- Only proofs and private functions stand on it.
use Rattle.std.specs.Prelude.{ℕ, ◌+◌, ◌-◌, ◌*◌, ◌/◌, ◌^◌, Bool, true, false, ◌&&◌, not, nat_le, nat_lt, List}
use Rattle.std.specs.Prelude.{fold, if◌then◌else◌}
use Rattle.std.specs.Bool.{beq}
use Rattle.px_num.specs.Bits.{modulo}
use Rattle.px_num.specs.Forms.{plus, value_at}
use Rattle.px_num.specs.declared.linear.Linear.{Linear}
use Rattle.px_model.specs.Scenes.{SceneView, SolidView}
use Rattle.px_model.specs.Cells.{depths_of, end_of}
use Rattle.px_face.specs.Faces.{face_number, face_plane}
use Rattle.px_face.specs.Edges.{covers}
use Rattle.px_sched.specs.declared.step.Step.{Step}
use Rattle.px_sched.specs.declared.step.Step.TheVariants.{Start, Open, Candidate, Drop, Clear, Front, Confirm}
use Rattle.px_sched.specs.declared.step.Step.TheVariants.{Begin, Turn, Close, Merge}
use Rattle.px_sched.specs.Passes.{solid_of}

-- the best key so far, the candidate's depth with its fraction, its face number, whether it is alive, and the parity
pub record Keys : Type 0 where
  pub best : ℕ
  pub deep : ℕ
  pub number : ℕ
  pub alive : Bool
  pub par : Bool

-- a pixel, and how many bits a face number has in its keys
pub record KeyedPixel : Type 0 where
  pub number_bits : ℕ
  pub x : ℕ
  pub y : ℕ

-- a depth with its fraction, over a face number
abbrev pub key : KeyedPixel → (deep number : ℕ) → ℕ
key l deep number = number + 2 ^ l.number_bits * deep

-- the depth with its fraction that a form gives at the pixel
abbrev pub residue : SceneView → KeyedPixel → Linear → ℕ
residue scene l form = modulo (value_at form l.x l.y) (scene.depth_bits + scene.fraction_bits)

-- without its fraction
abbrev pub without_fraction : SceneView → (deep : ℕ) → ℕ
without_fraction scene deep = deep / 2 ^ scene.fraction_bits * 2 ^ scene.fraction_bits

-- a face becomes the candidate
abbrev pub loaded : SceneView → KeyedPixel → SolidView → Keys → (face : ℕ) → Keys
loaded scene l s k face = record k {
  deep = without_fraction scene
      (residue scene l (plus (face_plane s (end_of (depths_of scene)) face) (2 ^ scene.fraction_bits - 1)));
  number = face_number s face;
  alive = true;
}

abbrev pub dropped : Keys → Keys
dropped k = record k { alive = false }

abbrev pub flipped : Keys → Keys
flipped k = record k { par = not k.par }

-- a face covers the pixel, and a form is not above a depth
abbrev pub is_passing : SceneView → KeyedPixel → SolidView → (face : ℕ) → Linear → (deep : ℕ) → Bool
is_passing scene l s face form deep =
    covers s (end_of (depths_of scene)) face l.x l.y && nat_le (residue scene l form) deep

-- and it does something to a live candidate
abbrev pub where_passing : SceneView → KeyedPixel → SolidView → (face : ℕ) → Linear → (Keys → Keys) → Keys → Keys
where_passing scene l s face form change k =
    if k.alive && is_passing scene l s face form k.deep then change k else k

-- what a step leaves of the keys
abbrev pub after_step : SceneView → KeyedPixel → Keys → Step → Keys
after_step scene l k Start = record k { best = end_of (depths_of scene) * 2 ^ l.number_bits }
after_step scene l k Open = dropped k
after_step scene l k (Candidate solid face) =
    let s = solid_of scene solid in
    if covers s (end_of (depths_of scene)) face l.x l.y then loaded scene l s k face else k
after_step scene l k (Drop solid face) =
    let s = solid_of scene solid in
    where_passing scene l s face (face_plane s (end_of (depths_of scene)) face) dropped k
after_step scene l k Clear = record k { par = false }
after_step scene l k (Front solid face) =
    let s = solid_of scene solid in
    where_passing scene l s face (plus (face_plane s (end_of (depths_of scene)) face) (2 ^ scene.fraction_bits))
    flipped k
after_step scene l k Confirm = if beq k.par false then dropped k else k
after_step scene l k (Begin other) = record k { par = false }
after_step scene l k (Turn other solid face) =
    let s = solid_of scene solid in
    where_passing scene l s face (face_plane s (end_of (depths_of scene)) face) flipped k
after_step scene l k (Close other plain) = if beq k.par (not plain) then dropped k else k
after_step scene l k Merge =
    let own = key l k.deep k.number in
    if k.alive && nat_lt own k.best then record k { best = own } else k

-- what steps leave, one after another
abbrev pub after_steps : SceneView → KeyedPixel → Keys → List Step → Keys
after_steps scene l k steps = fold (after_step scene l) k steps
