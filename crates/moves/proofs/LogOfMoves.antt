-- The moves of a run as they are logged: what is logged of a list of moves made on the words S, move by move, and that it can be logged.
use Prim.Native.Nat.{◌/◌, ◌<◌, suc, zero, ℕ}
use mathlib.Core.List.{List, [], ◌++◌, ◌∷◌}
use mathlib.Core.Path.{◌∙◌, ◌≡◌, ap, refl, sym}
use native.Mathlib.Omega.{arith}
use lib.Seq.{ext_get_or}
use lib.ListN.{get_or, length, take}
use Rattle.words.specs.Alphabet.{bytes}
use Rattle.words.proofs.Below.{below_at, below_length}
use Rattle.systems.specs.Moves.{made, made_all}
use Rattle.systems.specs.declared.Move.{Move}
use Rattle.systems.proofs.Neither.{ValidMoves, Within, made-within}
use Rattle.systems.proofs.Undoing.{made-length}
use Rattle.moves.specs.Logs.{logged_all, log_of, logged, logged_at, move_at, move_size, moves_in}
use Rattle.moves.specs.declared.log.Logged.{Logged}
use Rattle.moves.proofs.LogBack.{AllLoggable, log_of-count, log_of_at}

pub logged_all-length : (S : List (List ℕ)) (ms : List Move) → length (logged_all S ms) ≡ length ms
logged_all-length S [] = refl
logged_all-length S (m ∷ ms) = ap suc (logged_all-length (made bytes S m) ms)

-- one move more at the end, and the first of them
pub logged_all_last : (S : List (List ℕ)) (ms : List Move) (m : Move) → logged_all S (ms ++ (m ∷ [])) ≡ logged_all S ms ++ (logged (made_all bytes S ms) m ∷ [])
logged_all_last S [] m = refl
logged_all_last S (n ∷ ms) m = ap (◌∷◌ (logged S n)) (logged_all_last (made bytes S n) ms m)

pub logged_all_first : (k : ℕ) (S : List (List ℕ)) (ms : List Move) → logged_all S (take k ms) ≡ take k (logged_all S ms)
logged_all_first zero S ms = refl
logged_all_first (suc k) S [] = refl
logged_all_first (suc k) S (m ∷ ms) = ap (◌∷◌ (logged S m)) (logged_all_first k (made bytes S m) ms)

logged_all_at : (S : List (List ℕ)) (ms : List Move) (j : ℕ) (d : Logged) (e : Move) → j < length ms
    → get_or (logged_all S ms) j d ≡ logged (made_all bytes S (take j ms)) (get_or ms j e)
logged_all_at S [] j d e h = absurd (omega arith)
logged_all_at S (m ∷ ms) zero d e h = refl
logged_all_at S (m ∷ ms) (suc j) d e h = logged_all_at (made bytes S m) ms j d e (omega arith)

-- each record of their log: its move as it was made on the words before it
module _ (S : List (List ℕ)) (ms : List Move) (j : ℕ) (inside : j < length ms) (d : Move) where
  record_told : logged_at (log_of (logged_all S ms)) j ≡ logged (made_all bytes S (take j ms)) (get_or ms j d)
  record_told =
      let e : Logged = logged_at [] 0 in
      log_of_at (logged_all S ms) j (omega (arith, logged_all-length S ms, inside)) e ∙ logged_all_at S ms j e d inside

  pub record_move : move_at (log_of (logged_all S ms)) j ≡ get_or ms j d
  record_move = ap (λ (l : Logged). l.made) record_told

  pub record_logged : logged_at (log_of (logged_all S ms)) j ≡ logged (made_all bytes S (take j ms)) (move_at (log_of (logged_all S ms)) j)
  record_logged = record_told ∙ ap (logged (made_all bytes S (take j ms))) (sym record_move)

-- so a log that was written of moves holds these moves
pub log_of-moves : (S : List (List ℕ)) (ms : List Move) → moves_in (log_of (logged_all S ms)) ≡ ms
log_of-moves S ms =
    let log : List ℕ = log_of (logged_all S ms) in
    let count : length log / move_size ≡ length ms = log_of-count (logged_all S ms) ∙ logged_all-length S ms in
    let d : Move = move_at [] 0 in
    ext_get_or d (moves_in log) ms (below_length (move_at log) (length log / move_size) ∙ count)
    (λ j h.
    let inside : j < length log / move_size = omega (arith, h, below_length (move_at log) (length log / move_size)) in
    below_at (move_at log) (length log / move_size) j d inside ∙ record_move S ms j (omega (arith, inside, count)) d)

-- the moves of a run lie between slots of its system, and make no word longer
pub all_loggable : (S : List (List ℕ)) (ms : List Move) → ValidMoves bytes S ms → Within bytes 63 S → AllLoggable (length S) (logged_all S ms)
all_loggable S [] v short = tt
all_loggable S (m ∷ ms) v short = (
  ((v.0.allowed.changed_inside, v.0.allowed.other_inside, v.0.allowed.distinct), omega (arith, v.0.no_longer, short m.changed)),
  rw (made-length bytes S m) at (all_loggable (made bytes S m) ms v.1 (made-within bytes S m 63 v.0 short)),
)
