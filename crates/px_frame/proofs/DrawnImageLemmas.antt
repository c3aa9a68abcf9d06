-- Images one after another.
use Rattle.px_num.proofs.Basics.{◌≡◌, ℕ, ◌+◌, ◌<◌, List, [], ◌∷◌, ◌++◌, length, take, drop, get_or, refl, ap, sym, ◌∙◌}
use Rattle.px_num.proofs.Basics.{append-nil, flat_map-append, take_more, take-append-drop}
use Rattle.px_model.specs.Scenes.{SceneView}
use Rattle.px_frame.specs.Images.{images, picture_image}
use Rattle.px_frame.specs.declared.plane.Plane.{Plane}

-- the images before one of them, that one, and those behind it
pub images_at : (scene : SceneView) (planes : List Plane) (i : ℕ) (d : Plane) → i < length planes
    → images scene planes ≡ (images scene (take i planes) ++ picture_image scene (get_or planes i d))
    ++ images scene (drop (i + 1) planes)
images_at scene planes i d within =
    let image = picture_image scene in
    let plane = get_or planes i d in
    let first : images scene (take (i + 1) planes) ≡ images scene (take i planes) ++ images scene (plane ∷ []) =
    ap (λ ps. images scene ps) (take_more planes i d within) ∙ flat_map-append image (take i planes) (plane ∷ []) in
    let one : images scene (plane ∷ []) ≡ image plane = rw append-nil refl in
    sym (ap (λ ps. images scene ps) (take-append-drop (i + 1) planes))
    ∙ flat_map-append image (take (i + 1) planes) (drop (i + 1) planes)
    ∙ rw (first, one) refl
