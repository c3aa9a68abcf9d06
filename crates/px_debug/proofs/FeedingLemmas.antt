-- Bytes in pieces, and lines one after another.
use Rattle.px_num.proofs.Basics.{◌≡◌, ◌≢◌, ℕ, ◌+◌, ◌<◌, ◌≤◌, Bool, true, false, ◌==◌, List, [], ◌∷◌, ◌++◌, length, take}
use Rattle.px_num.proofs.Basics.{refl, sym, ap}
use Rattle.px_num.proofs.Basics.{Result, Ok, Err, IfOk, OnErr, OnOk}
use Rattle.px_num.proofs.Basics.{◌∙◌, append_assoc, append-nil, length-append, arith, inl, inr, if◌then◌else◌, fold}
use Rattle.px_num.proofs.Basics.{fold-append, cases_lt, take_all, drop, get_or, take_more, take-append-drop}
use Rattle.std.proofs.lemmas.List.{length-take, take-append-le as take_within}
use Rattle.px_num.proofs.TruthLaws.{lt_true}
use Rattle.px_io.specs.Reports.{SinkState, TakesAll, TakesFront}
use Rattle.px_io.proofs.ToldLaws.{takes_both, takes_none}
use Rattle.px_debug.specs.Answers.{answer}
use Rattle.px_debug.specs.Commands.{line_command}
use Rattle.px_debug.specs.declared.command.Command.{Command}
use Rattle.px_debug.specs.Moves.{SessionView, going, most_clocks, moved}
use Rattle.px_debug.specs.declared.session.Going.{Going}
use Rattle.px_asked.proofs.PartLemmas.{not_feed}
use Rattle.px_asked.specs.Lines.{all_lines, ended, last_of, left, whole_lines}
use Rattle.px_debug.specs.Buffers.{short}
use Rattle.px_debug.specs.Servings.{Answered, Broken}
use Rattle.px_debug.specs.SessionLaws.{StaysOver}
use Rattle.px_debug.specs.Sessions.{Sitting, Stand, after_line, answer_line, is_quit, line_clocks, no_sitting}
use Rattle.px_debug.specs.Sessions.{sitting}
use Rattle.px_debug.specs.Sessions.{stand, turned}
use Rattle.px_debug.specs.Turns.{Fed, Gave, Went}
use Rattle.px_debug.specs.declared.session.Going.TheVariants as g

-- the lines of bytes and of more
pub ended-append : (line xs ys : List ℕ) → ended line (xs ++ ys) ≡ ended line xs ++ ended (left line xs) ys
ended-append line [] ys = refl
ended-append line (b ∷ xs) ys =
    elim (b == 10) as (λ t. (if t then line ∷ ended [] (xs ++ ys) else ended (line ++ b ∷ []) (xs ++ ys))
    ≡ (if t then line ∷ ended [] xs else ended (line ++ b ∷ []) xs)
    ++ ended (if t then left [] xs else left (line ++ b ∷ []) xs) ys)
    [ true ↦ ap (λ ls. line ∷ ls) (ended-append [] xs ys) | false ↦ ended-append (line ++ b ∷ []) xs ys ]

pub left-append : (line xs ys : List ℕ) → left line (xs ++ ys) ≡ left (left line xs) ys
left-append line [] ys = refl
left-append line (b ∷ xs) ys =
    elim (b == 10) as (λ t. (if t then left [] (xs ++ ys) else left (line ++ b ∷ []) (xs ++ ys))
    ≡ left (if t then left [] xs else left (line ++ b ∷ []) xs) ys)
    [ true ↦ left-append [] xs ys | false ↦ left-append (line ++ b ∷ []) xs ys ]

-- lines behind a quit count for nothing
first : (t : Bool) (a b : Sitting) → t ≡ true → (if t then a else b) ≡ a
first t a b is = rw is refl

stays : (bits : ℕ) (at : Sitting) (ls : List (List ℕ)) → at.quit ≡ true → fold (turned bits) at ls ≡ at
stays bits at [] quits = refl
stays bits at (l ∷ ls) quits = ap (λ k. fold (turned bits) k ls) (first at.quit at _ quits) ∙ stays bits at ls quits

quit_stays : (bits : ℕ) (s : SessionView) (ls ms : List (List ℕ)) → (sitting bits s ls).quit ≡ true
    → sitting bits s (ls ++ ms) ≡ sitting bits s ls
quit_stays bits s ls ms quits = grind (arith, fold-append, stays)

pub quit_ends : (bits : ℕ) (s : SessionView) (xs ys : List ℕ) → (sitting bits s (whole_lines xs)).quit ≡ true
    → StaysOver bits s xs ys
quit_ends bits s xs ys quits = grind (arith, ended-append, quit_stays)

-- a session keeps its scene
either : (t : Bool) (a b : Sitting) → b.session.scene ≡ a.session.scene
    → (if t then a else b).session.scene ≡ a.session.scene
either true a b same = refl
either false a b same = same

pub scene_kept : (bits : ℕ) (at : Sitting) (ls : List (List ℕ))
    → (fold (turned bits) at ls).session.scene ≡ at.session.scene
unfolding after_line
scene_kept bits at [] = refl
scene_kept bits at (l ∷ ls) = scene_kept bits (turned bits at l) ls ∙ either at.quit at _ refl

-- the first bytes of a line say what the line says
command_short : (l : List ℕ) → line_command (short l) ≡ line_command l
command_short l = elim (cases_lt (length l) 257) [
  | inl less ↦ ap (λ line. line_command line) (take_all 256 l (omega arith))
  | inr more ↦ rw (
    lt_true 255 (length (take 256 l)) (omega (arith, length-take 256 l)),
    lt_true 255 (length l) (omega arith),
  ) refl
]

pub same_command : (first l : List ℕ) → first ≡ short l → line_command first ≡ line_command l
same_command first l kept = ap (λ line. line_command line) kept ∙ command_short l

-- a line given as a command, whose answer was written or not
pub given : {E : Type 0} (r : Result Going E) (bits : ℕ) (from : Stand) (s t : SessionView) (m n : ℕ)
    (a b : SinkState) (k : Command) (ls : List (List ℕ)) (l : List ℕ) → k ≡ line_command l
    → Went g.More bits from (stand s m a) ls
    → t ≡ record { scene = s.scene; now = moved s.scene s.now k; lines = s.lines + 1 }
    → n ≤ m + most_clocks s.scene s.now k → OnOk r (TakesAll a b (answer bits t.scene t.now t.lines k))
    → IfOk r (λ on. on ≡ going k) → OnErr r (TakesFront a b (answer bits t.scene t.now t.lines k))
    → Gave r bits from (stand t n b) (ls ++ l ∷ [])
unfolding after_line answer_line line_clocks is_quit
given (Ok on) bits from s t m n a b k ls l same went is few wrote goes cut =
    let more = fold-append (turned bits) (no_sitting from.session) ls (l ∷ []) in
    record {
      answered = rw (more, ← went.going, ← went.answered.session) (record {
        session = rw same at is;
        work = omega (arith, went.answered.work, rw same at few);
        wrote = takes_both from.out a b (sitting bits from.session ls).said _ went.answered.wrote
            (rw (is, same) at wrote);
      });
      going = rw (more, ← went.going, goes, same) refl;
    }
given (Err e) bits from s t m n a b k ls l same went is few wrote goes cut = record {
  front = ls;
  line = l;
  rest = [];
  split = refl;
  before = stand s m a;
  answered = went.answered;
  quiet = sym went.going;
  session = rw same at is;
  work = rw same at few;
  wrote = rw (is, same) at cut;
}

pub broke_more : (bits : ℕ) (s t : Stand) (ls ms : List (List ℕ)) → Broken bits s t ls → Broken bits s t (ls ++ ms)
broke_more bits s t ls ms broke = grind (arith, append_assoc)

pub broke_bytes : (bits : ℕ) (xs ys : List ℕ) (s t : Stand) → Broken bits s t (whole_lines xs)
    → Broken bits s t (whole_lines (xs ++ ys))
broke_bytes bits xs ys s t broke = grind (arith, ended-append, broke_more)

-- no byte
pub fed_none : (bits : ℕ) (s : Stand) (held : List ℕ) → held ≡ [] → Fed g.More bits [] s s held
fed_none bits s held is = grind (arith, takes_none)

-- the end of a line, and any other byte
line_end : (text : List ℕ) (b : ℕ) → b ≡ 10 → whole_lines (text ++ b ∷ []) ≡ whole_lines text ++ left [] text ∷ []
line_end text b is = rw is (ended-append [] text (10 ∷ []))

pub broke_line : (bits : ℕ) (text : List ℕ) (b : ℕ) (from now : Stand) → b ≡ 10
    → Broken bits from now (whole_lines text ++ left [] text ∷ []) → Broken bits from now (whole_lines (text ++ b ∷ []))
broke_line bits text b from now is broke = rw (line_end text b is) broke

pub fed_line : (on : Going) (bits : ℕ) (text : List ℕ) (b : ℕ) (from now : Stand) (held : List ℕ) → b ≡ 10
    → Went on bits from now (whole_lines text ++ left [] text ∷ []) → held ≡ []
    → Fed on bits (text ++ b ∷ []) from now held
fed_line on bits text b from now held is went none = grind (arith, left-append, line_end)

pub fed_key : (bits : ℕ) (text : List ℕ) (b : ℕ) (from now : Stand) (held kept : List ℕ) → b ≢ 10
    → Fed g.More bits text from now held → kept ≡ short (left [] text ++ b ∷ [])
    → Fed g.More bits (text ++ b ∷ []) from now kept
fed_key bits text b from now held kept other fed is = grind (arith, not_feed, left-append, ended-append, append-nil)

-- the bytes behind a quit count for nothing
pub fed_quit : (bits : ℕ) (xs ys : List ℕ) (s t : Stand) (held kept : List ℕ) → Fed g.Quit bits xs s t held
    → Fed g.Quit bits (xs ++ ys) s t kept
fed_quit bits xs ys s t held kept fed =
    let same = (quit_ends bits s.session xs ys (sym fed.went.going)).whole in
    record {
      went = record { answered = rw same fed.went.answered; going = rw same fed.went.going };
      held = λ more. absurd cc;
    }

-- one byte more of a line, which a buffer keeps or has no room for
pub kept_more : (held line : List ℕ) (b : ℕ) → held ≡ short line → length held < 256
    → held ++ b ∷ [] ≡ short (line ++ b ∷ [])
kept_more held line b is room =
    let few : length line < 256 = omega (arith, length-take 256 line, ap length is) in
    rw (is, take_all 256 line (omega arith))
    (sym (take_all 256 (line ++ b ∷ []) (omega (arith, length-append line (b ∷ [])))))

pub kept_full : (held line : List ℕ) (b : ℕ) → held ≡ short line → 256 ≤ length held → held ≡ short (line ++ b ∷ [])
kept_full held line b is full =
    is ∙ sym (take_within 256 line (b ∷ []) (omega (arith, length-take 256 line, ap length is)))

-- behind a quit a last piece is no line
pub fed_all : (bits : ℕ) (text : List ℕ) (s t : Stand) (held : List ℕ) → Fed g.Quit bits text s t held
    → Answered false s t (sitting bits s.session (all_lines text))
fed_all bits text s t held fed =
    rw (quit_stays bits s.session (whole_lines text) (last_of (left [] text)) (sym fed.went.going)) fed.went.answered

-- one byte more of some, behind others, and all of them
pub one_byte_more : (text bytes : List ℕ) (i : ℕ) → i < length bytes
    → (text ++ take i bytes) ++ get_or bytes i 0 ∷ [] ≡ text ++ take (i + 1) bytes
one_byte_more text bytes i less = grind (arith, append_assoc, take_more)

pub all_bytes : (text bytes : List ℕ) (i : ℕ) → (text ++ take i bytes) ++ drop i bytes ≡ text ++ bytes
all_bytes text bytes i = grind (arith, append_assoc, take-append-drop)
