-- How many edges a face has, and how large its edges and its plane are. Clauses of public calls stand on it.
use Rattle.std.specs.Prelude.{◌≡◌, ℕ, ◌^◌, ◌<◌, All, length}
use Rattle.px_num.specs.Forms.{IsInTreeRange}
use Rattle.px_model.specs.Scenes.{IsLawfulSolid, IsPlane, SolidView}
use Rattle.px_face.specs.Edges.{edge_count, edges}
use Rattle.px_face.specs.Faces.{face_count, face_plane}

abbrev pub EdgesAreCounted : Type 0
EdgesAreCounted = (s : SolidView) (end face : ℕ) → face < face_count s →
    length (edges s end face) ≡ edge_count s

abbrev pub EdgesAreInRange : Type 0
EdgesAreInRange = (s : SolidView) → IsLawfulSolid s → (end face : ℕ) → end < 2 ^ 32 → face < face_count s →
    All IsInTreeRange (edges s end face)

abbrev pub PlanesAreInRange : Type 0
PlanesAreInRange = (s : SolidView) → IsLawfulSolid s → (end face : ℕ) → end < 2 ^ 32 → face < face_count s →
    IsPlane (face_plane s end face)
