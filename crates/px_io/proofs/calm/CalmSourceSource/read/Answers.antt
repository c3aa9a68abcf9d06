use Rattle.px_num.proofs.Basics.{◌≡◌, ◌+◌, ◌-◌, ◌<◌, ◌≤◌, ◌++◌, ℕ, List, [], length, take, drop, min, arith}
use Rattle.px_num.proofs.Basics.{length-drop, length-take, sym, ap, take-append-drop, drop-drop, drop_all}
use Rattle.px_num.proofs.Basics.{take-append_seam}
use Rattle.px_io.proofs.calm.CalmSourceSource.read.Goals as goal

-- the bytes to come are those that were copied to the buffer's front, and then those after them
copied : (rest bytes front back : List ℕ) (at n m : ℕ) → drop at bytes ≡ rest → m ≡ n → front ≡ take m (drop at bytes)
    → n ≤ length bytes - at → rest ≡ take n (front ++ back) ++ drop (at + n) bytes
copied rest bytes front back at n m tells same is within =
    let is' : front ≡ take n (drop at bytes) = rw (← same) is
    in let whole : length front ≡ n = omega (arith, ap length is', length-take n (drop at bytes), length-drop at bytes)
    in let here : take n (front ++ back) ≡ front = rw (← whole) (take-append_seam front back)
    in rw (here, is', ← drop-drop n at bytes, ← tells) (sym (take-append-drop n (drop at bytes)))

none_left : (bytes : List ℕ) (at n room : ℕ) → 0 < room → n ≡ min room (length bytes - at) → n ≡ 0
    → drop (at + n) bytes ≡ []
none_left bytes at n room has_room is zero = drop_all (at + n) bytes (omega arith)

pub returns-clause-bytes : goal.returns-clause-bytes
returns-clause-bytes c = grind (arith, copied, none_left)
