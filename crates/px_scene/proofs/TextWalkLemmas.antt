-- The canonical text of a scene is read as it.
use Rattle.px_num.proofs.Basics.{arith, ◌≡◌, ℕ, ◌≤◌, List, [], ◌++◌, length, take, codes, refl, sym, subst, All}
use Rattle.px_num.proofs.Basics.{flat_map, take_all}
use Rattle.px_scene.proofs.CanonicalWords.{canonical_text, first_lines, IsLawfulScene, IsLawfulSolid, IsLawfulTree}
use Rattle.px_scene.proofs.CanonicalWords.{IsReadAs, IsWritable, SceneView, show_line, solid_lines, written_line}
use Rattle.px_scene.proofs.CanonicalLemmas.{text_is}
use Rattle.px_scene.proofs.LengthLemmas.{canonical_short}
use Rattle.px_scene.proofs.SceneWalkLemmas.{final_draft, scene_walk, scene_words}
use Rattle.px_scene.proofs.WalkLaws.{read_by_walk}

pub canonical_read : (scene : SceneView) → IsWritable scene → IsReadAs (canonical_text scene) scene
canonical_read scene is =
    read_by_walk (canonical_text scene) (scene_words scene) (final_draft scene) (text_is scene)
    (canonical_short scene is) (scene_walk scene is) refl

-- a text that is put together of the parts of a scene
pub parts_are_text : (scene : SceneView) (count : ℕ) (begun shown text : List ℕ) → length scene.solids ≤ count
    → begun ≡ first_lines scene ++ flat_map solid_lines (take count scene.solids) → shown ≡ begun ++ show_line scene
    → text ≡ shown ++ written_line (codes "end") [] → text ≡ canonical_text scene
parts_are_text scene count begun shown text every first next last = grind (arith, take_all)

-- the same of a lawful scene
pub parts_read : (scene : SceneView) (count : ℕ) (text : List ℕ) → length scene.solids ≤ count
    → text ≡ canonical_text scene → IsLawfulScene scene → All IsLawfulSolid (take count scene.solids)
    → IsLawfulTree scene.show → IsReadAs text scene
parts_read scene count text every is law solids show =
    let writable : IsWritable scene =
    record { lawful = law; solids = subst (All IsLawfulSolid) (take_all count scene.solids every) solids; show = show }
    in subst (λ (t : List ℕ). IsReadAs t scene) (sym is) (canonical_read scene writable)
