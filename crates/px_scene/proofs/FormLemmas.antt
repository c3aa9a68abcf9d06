-- What holds of each form of a line holds of all lines.
use Rattle.px_num.proofs.Basics.{arith, ◌≡◌, ℕ, ℤ, List, true, Option, Result, Ok, Err, option_map}
use Rattle.px_scene.proofs.Words.{back, Cause, depth, end, Form, form_of, front, header, is_name, Keyword, Linear}
use Rattle.px_scene.proofs.Words.{Paint, picture, Plane, plane_form, show, side, solid, two_of, Words}
use Rattle.std.specs.Option.{ok_or}
use Rattle.px_show.specs.declared.scene_version.Version.{Version}
use Rattle.px_show.specs.declared.fault.Cause.TheVariants as c
use Rattle.px_show.specs.declared.scene_version.Version.TheVariants as v
use Rattle.px_scene.specs.declared.line.Keyword.TheVariants as k

-- what is to be shown of each form
pub record HoldsOfForms (P : Keyword → Result Form Cause → Type 0) : Type 0 where
  pub bad : (key : Keyword) (cause : Cause) → P key (Err cause)
  pub header : (version : Version) → P k.Pxscene (Ok (header version))
  pub picture : (width height : ℤ) → P k.Picture (Ok (picture width height))
  pub depth : (bits : ℤ) (fraction : Option ℤ) → P k.Depth (Ok (depth bits fraction))
  pub solid : (name : List ℕ) (paint : Paint) → is_name name ≡ true → P k.Solid (Ok (solid name paint))
  pub front : (plane : Plane) → P k.Front (Ok (front plane))
  pub back : (plane : Plane) → P k.Back (Ok (back plane))
  pub side : (form : Linear) → P k.Side (Ok (side form))
  pub show : (ws : Words) → P k.Show (Ok (show ws))
  pub end : P k.End (Ok end)

module _ (P : Keyword → Result Form Cause → Type 0) (h : HoldsOfForms P) where
  by_some : {A : Type 0} (key : Keyword) (make : A → Form) → ((a : A) → P key (Ok (make a)))
      → (o : Option A) (cause : Cause) → P key (ok_or (option_map make o) cause)
  by_some key make all x cause = grind arith

  by_two : (key : Keyword) (make : ℤ → ℤ → Form) → ((a b : ℤ) → P key (Ok (make a b))) → (x y : Option ℤ)
      → P key (ok_or (two_of make x y) c.NotNumber)
  by_two key make all x z = grind arith

  picture_holds : (ws : Words) → P k.Picture (form_of v.One k.Picture ws)
  picture_holds x = grind (arith, by_two)

  depth_holds : (version : Version) (ws : Words) → P k.Depth (form_of version k.Depth ws)
  depth_holds x y = grind (arith, by_two, by_some)

  solid_holds : (ws : Words) → P k.Solid (form_of v.One k.Solid ws)
  solid_holds x = grind (arith, by_some)

  side_holds : (ws : Words) → P k.Side (form_of v.One k.Side ws)
  side_holds x = grind (arith, by_some)

  front_holds : (r : Result Plane Cause) → P k.Front (plane_form front r)
  front_holds x = grind arith

  back_holds : (r : Result Plane Cause) → P k.Back (plane_form back r)
  back_holds x = grind arith

  end_holds : (ws : Words) → P k.End (form_of v.One k.End ws)
  end_holds x = grind arith

  pub by_form : (version : Version) (key : Keyword) (ws : Words) → P key (form_of version key ws)
  by_form version x ws =
      grind (arith, by_some, picture_holds, depth_holds, solid_holds, front_holds, back_holds, side_holds, end_holds)
