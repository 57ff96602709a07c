-- What the answer of member means, over the lent buffers alone: the third demand of docs/REQUIREMENTS.md; and that member gives what reduce
-- and ask in turn give.
use Rattle.std.specs.Prelude.{ℕ, ◌*◌, ◌≤◌, ◌≡◌, List, length, take}
use Rattle.slots.specs.Systems.{slots}
use Rattle.slots.specs.Refusals.{system_rules}
use Rattle.records.specs.declared.answers.Refusal.{Refusal}
use Rattle.records.specs.declared.answers.Verdict.{Verdict}
use Rattle.records.specs.declared.answers.Verdict.TheVariants.{Done, Refused}
use Rattle.moves.specs.Logs.{move_size}
use Rattle.records.specs.Refusals.{target_rules}
use Rattle.reduction.specs.Meaning.{Bounded, EnoughMoves, LogShort, Reduces, logged_moves, most_moves_on}
use Rattle.reduction.specs.Reduction.{reduce_answer, reduce_log, reduce_words}
use Rattle.reduction.specs.declared.answers.Reduction.{Reduction}
use Rattle.asking.specs.Asking.{ask_answer, ask_product}
use Rattle.asking.specs.Meaning.{Answered, ThirdDemand}
use Rattle.std.specs.Prelude.{Ok}

-- "in well-formed records with enough room lent for all results": 64 bytes of words buffer for each record, 64 bytes of product buffer,
-- "and in the log buffer room for one log record for each move that the rules make on S"; that no byte of these three lies in
-- another buffer is what lending them mutably means
pub record EnoughRoom (given target words log product : List ℕ) : Type 0 where
  pub system : system_rules given ≡ Ok tt
  pub target_fits : target_rules target ≡ Ok tt
  pub words_fit : slots given * 64 ≤ length words
  pub product_fits : 64 ≤ length product
  pub enough_moves : ℕ
  pub no_more_moves : EnoughMoves given enough_moves
  pub log_fits : enough_moves * move_size ≤ length log

-- the same with a log of as many log records as the moves can be at most: no premise on the moves that the rules make
pub record RoomForMostMoves (given target words log product : List ℕ) : Type 0 where
  pub system : system_rules given ≡ Ok tt
  pub target_fits : target_rules target ≡ Ok tt
  pub words_fit : slots given * 64 ≤ length words
  pub product_fits : 64 ≤ length product
  pub log_fits : most_moves_on given * move_size ≤ length log

-- what member's answer means: W, L and P are what it wrote
pub record MemberMeans (given target words log product : List ℕ) (answer : Reduction) (words' log' product' : List ℕ) : Type 0 where
  pub third_demand : ThirdDemand (EnoughRoom given target words log product) given target (take (slots given * 64) words') (take 64 product') answer.verdict
  -- "A log of as many log records as the moves can be at most is enough"
  pub with_most_moves :
      ThirdDemand (RoomForMostMoves given target words log product) given target (take (slots given * 64) words') (take 64 product') answer.verdict
  -- W, L and the numbers are those of reduce, with all that they mean
  pub reduces : Answered answer.verdict → Reduces given (take (slots given * 64) words') (take (answer.moves * move_size) log') answer
  -- the moves that the rules make are never more than the bound, and with a log for so many 13 does not occur
  pub bounded : Bounded given log answer
  -- where there is room for all but the moves, the call is refused with 13
  pub log_short : system_rules given ≡ Ok tt → target_rules target ≡ Ok tt → slots given * 64 ≤ length words → 64 ≤ length product
      → (enough : ℕ) → EnoughMoves given enough → LogShort (logged_moves given enough) log log' answer

-- "Where it isn't refused"
abbrev pub NotRefused : Verdict → Type 0
NotRefused verdict = (f : Refusal) → verdict ≡ Refused f → ⊥

-- "it gives what reduce and ask in turn give: words, log and numbers are those of reduce, verdict and product those of asking the words that
-- reduce wrote"
pub record InTurn (given target words log product : List ℕ) (answer : Reduction) (words' log' product' : List ℕ) : Type 0 where
  pub reduced : reduce_answer given words log
      ≡ record { verdict = Done; moves = answer.moves; rank = answer.rank; independent = answer.independent }
  pub same_words : words' ≡ reduce_words given words log
  pub same_log : log' ≡ reduce_log given words log
  pub asked : ask_answer (take (slots given * 64) words') target product ≡ record { verdict = answer.verdict }
  pub same_product : product' ≡ ask_product (take (slots given * 64) words') target product
