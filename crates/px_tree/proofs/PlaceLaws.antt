-- Where leaves and nodes stand.
use Rattle.px_num.proofs.Basics.{◌≡◌, ℕ, ◌+◌, ◌*◌, ◌^◌, ◌<◌, ◌≤◌, arith, pow-add, mul-add-lt, pow-le-pow_right}

pub power_next : (e : ℕ) → 2 ^ (e + 1) ≡ 2 * 2 ^ e
power_next e = omega (arith, pow-add 2 e 1)

pub index_below : (nx ny x y : ℕ) → x < 2 ^ nx → y < 2 ^ ny → x * 2 ^ ny + y < 2 ^ (nx + ny)
index_below nx ny x y column row = omega (arith, pow-add 2 nx ny, mul-add-lt x (2 ^ ny) y (2 ^ nx) column row)

pub place_below : (levels level index : ℕ) → level ≤ levels → index < 2 ^ level → 2 ^ level + index < 2 ^ (levels + 1)
place_below levels level index in_tree in_level =
    omega (arith, power_next levels, pow-le-pow_right {n = 2} (omega arith) in_tree)
