-- When a run has stopped, the moves that a log has room for, and what the search for the next move finds.
use Rattle.std.specs.Prelude.{ℕ, ◌/◌, Bool, cond, List, ◌≡◌, IfSome, length}
use Rattle.std.specs.Prelude.{Err, Ok, Option, Result, is_none}
use Rattle.words.specs.Alphabet.{bytes}
use Rattle.systems.specs.declared.Found.{Found}
use Rattle.systems.specs.Rules.{found_next, moves_within, next, run_within}
use Rattle.moves.specs.Found.{Between}
use Rattle.moves.specs.Logs.{move_size}

-- neither rule applies
abbrev pub stopped : List (List ℕ) → Bool
stopped S = is_none (next bytes S)

-- how many moves a log buffer has room for: "an eighth of the log buffer's length, rounded down"
abbrev pub room_for : List ℕ → ℕ
room_for log = length log / move_size

-- how many moves a run of at most so many makes, and whether neither rule applies after them
abbrev pub ran : ℕ → List (List ℕ) → Result ℕ ℕ
ran most S = cond (stopped (run_within bytes most S)) (Ok (length (moves_within bytes most S))) (Err (length (moves_within bytes most S)))

-- what was found is the next move of a system's words, with its rule; no call's contract speaks of it
pub record FoundNext (S : List (List ℕ)) (r : Option Found) : Type 0 where
  pub found : r ≡ found_next bytes S
  pub below : IfSome r (λ f. Between (length S) f.next)
