-- What the answers of reduce and test mean, over the lent buffers alone: the second demand of docs/REQUIREMENTS.md.
use Rattle.std.specs.Prelude.{ℕ, ◌*◌, ◌≤◌, ◌<◌, ◌≡◌, ◌↔◌, true, false, List, length, take}
use Rattle.std.specs.Prelude.{None, Some}
use Rattle.words.specs.Alphabet.{bytes}
use Rattle.systems.specs.declared.Rule.TheVariants.{HalfEnd, Shortening}
use Rattle.systems.specs.Moves.{moved_word}
use Rattle.systems.specs.Products.{FreelyReduced, Equivalent, Independent, word}
use Rattle.systems.specs.Reduced.{Reduced}
use Rattle.systems.specs.Rules.{half_end, moves_within, next, run_within, shortening}
use Rattle.systems.specs.Bound.{letters_of, most_moves}
use Rattle.systems.specs.Rank.{none_blank, rank}
use Rattle.slots.specs.Systems.{slots, system_of, freely_reduced_words}
use Rattle.slots.specs.Refusals.{system_rules}
use Rattle.records.specs.Answers.{refusal_number}
use Rattle.records.specs.declared.answers.Verdict.TheVariants.{Done}
use Rattle.moves.specs.Logs.{logged_all, log_of, logged_at, move_size, moves_in}
use Rattle.moves.specs.declared.log.Logged.{Logged}
use Rattle.replay.specs.Replay.{replay_rules, replayed}
use Rattle.runs.specs.Runs.{room_for}
use Rattle.reduction.specs.declared.answers.Reduction.{Reduction}
use Rattle.reduction.specs.declared.answers.Tested.{Tested}
use Rattle.std.specs.Prelude.{Ok}

-- neither rule applies after so many moves on the freely reduced words of a system
abbrev pub EnoughMoves : List ℕ → ℕ → Type 0
EnoughMoves given n = next bytes (run_within bytes n (freely_reduced_words given)) ≡ None

-- the bound on the moves that the rules make on a system: "Let g be the letters of the given words after free reduction and m the number of
-- records"
abbrev pub most_moves_on : List ℕ → ℕ
most_moves_on given = most_moves (slots given) (letters_of (freely_reduced_words given))

-- "For the largest system", of 16 records with 63 letters each
abbrev pub most_moves_on_any : ℕ
most_moves_on_any = most_moves 16 (16 * 63)

-- the moves that the rules make on these words, at most n of them, as they are logged
abbrev pub logged_moves : List ℕ → ℕ → List Logged
logged_moves given n = logged_all (freely_reduced_words given) (moves_within bytes n (freely_reduced_words given))

-- what a log record tells of its move, made on the words S
pub record Tells (S : List (List ℕ)) (told : Logged) : Type 0 where
  -- "s for a shortening": the first that there is
  pub by_shortening : told.rule ≡ Shortening → shortening bytes S ≡ Some told.made
  -- "or h for a half-end move": the first of these, "only when nothing shortens"
  pub by_half_end : told.rule ≡ HalfEnd → (shortening bytes S ≡ None) × (half_end bytes S ≡ Some told.made)
  -- so with s the changed word gets shorter, and with h it keeps its length
  pub shorter : told.rule ≡ Shortening → length (moved_word bytes S told.made) < length (word bytes S told.made.changed)
  pub same_length : told.rule ≡ HalfEnd → length (moved_word bytes S told.made) ≡ length (word bytes S told.made.changed)
  -- "the changed word's new length"
  pub new_length : told.new_length ≡ length (moved_word bytes S told.made)

-- reduce: the given system, the reduced system W and the log L that were written, and the answer
pub record Reduces (given W L : List ℕ) (answer : Reduction) : Type 0 where
  -- W is a system again, which every call takes
  pub well_formed : system_rules W ≡ Ok tt
  -- "The result is a reduced system in Nielsen's sense (1921)", of freely reduced words
  pub freely_reduced : FreelyReduced bytes (system_of W)
  pub reduced : Reduced bytes (system_of W)
  -- "The moves are those of the rules below, in that order": the log holds those that the rules make, and after them neither rule applies
  pub moves : moves_in L ≡ moves_within bytes answer.moves (freely_reduced_words given)
  pub no_more_moves : EnoughMoves given answer.moves
  -- "Each log record tells the rule that made its move and the changed word's new length": on the words that the moves before it leave
  pub tells : (j : ℕ) → j < answer.moves → Tells (replayed false (freely_reduced_words given) (take j (moves_in L))) (logged_at L j)
  -- "it is the length of that list"
  pub count : answer.moves ≡ length (moves_in L)
  -- "equivalent to the given one"
  pub equivalent : Equivalent bytes (system_of given) (system_of W)
  -- "The rank is the number of its words that aren't empty"
  pub rank : answer.rank ≡ rank (system_of W)
  -- "the verdict says whether the given words are independent"
  pub independent : (answer.independent ≡ true) ↔ Independent bytes (system_of given)
  -- "exactly when no slot, given blank or not, is blank at the end"
  pub none_blank : answer.independent ≡ none_blank (system_of W)
  -- "Following the log forward from the given words gives the reduced ones": replay takes both and gives them
  pub forward : (room : ℕ) → slots given * 64 ≤ room → replay_rules given L false room ≡ Ok tt
  pub forward_gives : replayed false (freely_reduced_words given) (moves_in L) ≡ system_of W
  -- "and following it backward from those gives the given words, freely reduced"
  pub backward : (room : ℕ) → slots given * 64 ≤ room → replay_rules W L true room ≡ Ok tt
  pub backward_gives : replayed true (freely_reduced_words W) (moves_in L) ≡ freely_reduced_words given

-- refusal 13, where no earlier one applies, of all the moves that the rules make, as they are logged, the log that was lent and what it
-- holds afterwards
pub record LogShort (moves : List Logged) (log log' : List ℕ) (answer : Reduction) : Type 0 where
  -- "The moves number more than an eighth of the log buffer's length, rounded down."
  pub refused : (refusal_number answer.verdict ≡ 13) ↔ (room_for log < length moves)
  -- "Under 13 the log holds, as whole records, the first moves that fit"
  pub first_that_fit : refusal_number answer.verdict ≡ 13 → take (room_for log * move_size) log' ≡ log_of (take (room_for log) moves)

-- "How long a log can get": the bound on the moves of a given system, and that 13 does not occur with a log for so many
pub record Bounded (given log : List ℕ) (answer : Reduction) : Type 0 where
  -- "the moves are never more than 2 times m times (m - 1) times (g + 1), plus g", whatever room there is
  pub never_more : (room : ℕ) → length (moves_within bytes room (freely_reduced_words given)) ≤ most_moves_on given
  -- after so many neither rule applies
  pub enough : EnoughMoves given (most_moves_on given)
  -- "For the largest system that is 485,328 moves.", and no system has a larger bound
  pub largest : most_moves_on_any ≡ 485328
  pub none_larger : system_rules given ≡ Ok tt → most_moves_on given ≤ most_moves_on_any
  -- "With a log of that many records, 13 doesn't occur": as many as the given system's bound, or as the largest's
  pub never_13 : most_moves_on given * move_size ≤ length log → refusal_number answer.verdict ≡ 13 → ⊥
  pub never_13_on_any : most_moves_on_any * move_size ≤ length log → refusal_number answer.verdict ≡ 13 → ⊥

-- the moves that the rules make are never more than the bound, and with a log for so many 13 does not occur; wherever a well-formed system's
-- words and moves have room, reduce is done; where only the moves have none, it is refused with 13; and whenever it is done, W is what it
-- wrote into the words buffer, and L what it wrote into the log
pub record ReduceMeans (given words log : List ℕ) (answer : Reduction) (words' log' : List ℕ) : Type 0 where
  pub bounded : Bounded given log answer
  pub done : system_rules given ≡ Ok tt → slots given * 64 ≤ length words
      → (enough : ℕ) → EnoughMoves given enough → enough * move_size ≤ length log → answer.verdict ≡ Done
  pub log_short : system_rules given ≡ Ok tt → slots given * 64 ≤ length words
      → (enough : ℕ) → EnoughMoves given enough → LogShort (logged_moves given enough) log log' answer
  pub reduces : answer.verdict ≡ Done → Reduces given (take (slots given * 64) words') (take (answer.moves * move_size) log') answer

-- test: yes exactly when the freely reduced words are reduced
abbrev pub TestMeans : List ℕ → Tested → Type 0
TestMeans given answer = answer.verdict ≡ Done → (answer.reduced ≡ true) ↔ Reduced bytes (freely_reduced_words given)
