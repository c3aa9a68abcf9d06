-- Where the passes keep their numbers in the memory of a pixel. Clauses of public calls stand on it.
use Rattle.std.specs.Prelude.{◌≡◌, ℕ, ◌+◌, ◌*◌, ◌^◌, ◌≤◌, nat_le, count_by}
use Rattle.std.specs.List.{range_with_len}
use Rattle.px_macro.specs.declared.field.Field.{Field}
use Rattle.px_model.specs.Scenes.{SceneView, faces_of}

-- where the keys, the bit "alive" and the bit "par" stand
pub record LayoutView : Type 0 where
  pub depth_bits : ℕ
  pub fraction_bits : ℕ
  pub number_bits : ℕ
  pub key_b : Field
  pub key_t : Field
  pub alive : ℕ
  pub par : ℕ

-- a field from a bit on, of so many bits
abbrev pub field : (at len : ℕ) → Field
field at len = record { at = at; len = len }

-- two keys, one after the other, and two bits behind them
abbrev pub layout_with : (depth_bits fraction_bits number_bits : ℕ) → LayoutView
layout_with w f i = record {
  depth_bits = w;
  fraction_bits = f;
  number_bits = i;
  key_b = field 0 (w + f + i);
  key_t = field (w + f + i) (w + f + i);
  alive = 2 * (w + f + i);
  par = 2 * (w + f + i) + 1;
}

-- the memory bits that a layout takes
abbrev pub need_of : LayoutView → ℕ
need_of l = 2 * (l.depth_bits + l.fraction_bits + l.number_bits) + 2

-- the low bits of a key are a face number, the next ones a fraction, and the high bits a depth
abbrev pub number_part : LayoutView → Field → Field
number_part l key = field key.at l.number_bits

abbrev pub depth_part : LayoutView → Field → Field
depth_part l key = field (key.at + l.number_bits + l.fraction_bits) l.depth_bits

abbrev pub fraction_part : LayoutView → Field → Field
fraction_part l key = field (key.at + l.number_bits) l.fraction_bits

-- a depth with its fraction
abbrev pub deep_part : LayoutView → Field → Field
deep_part l key = field (key.at + l.number_bits) (l.depth_bits + l.fraction_bits)

-- how many bits a number below 2 ^ 12 has: how many of the powers of 2 are not above it
abbrev pub bit_length : ℕ → ℕ
bit_length n = count_by (λ t. nat_le (2 ^ t) n) (range_with_len 0 12)

-- a scene's layout, by its depth, its fraction and its greatest face number
abbrev pub layout_of : SceneView → LayoutView
layout_of scene = layout_with scene.depth_bits scene.fraction_bits (bit_length (faces_of scene.solids))

-- what every layout keeps
pub record IsLayout (l : LayoutView) : Type 0 where
  pub some_depth : 1 ≤ l.depth_bits
  pub depth : l.depth_bits + l.fraction_bits ≤ 24
  pub fraction : l.fraction_bits ≤ 8
  pub some_number : 1 ≤ l.number_bits
  pub number : l.number_bits ≤ 12
  pub fields : l ≡ layout_with l.depth_bits l.fraction_bits l.number_bits
