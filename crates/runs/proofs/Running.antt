-- The run of moves: the words and the log after each of them, and what the run comes to.
use Prim.Native.Nat.{◌*◌, ◌+◌, ◌≤◌, ℕ}
use mathlib.Core.List.{List, [], ◌++◌, ◌∷◌, append_assoc}
use mathlib.Core.Path.{◌∙◌, ◌≡◌, ap, ap₂, refl, sym}
use native.Mathlib.Omega.{arith}
use lib.ListN.{drop, length, take}
use lib.Seq.{drop_at, drop-drop, take_at}
use Rattle.std.specs.Prelude.{Err, None, Ok, Option, Some}
use Rattle.words.specs.Alphabet.{bytes}
use Rattle.words.specs.Buffers.{written}
use Rattle.systems.specs.Moves.{made, made_all}
use Rattle.systems.specs.declared.Move.{Move}
use Rattle.systems.specs.Rules.{found_next, half_end, moves_within, next, run_within, shortening, with_rule}
use Rattle.systems.proofs.Runs.{ended_moves, turn_length, turn_moves, turn_run}
use Rattle.moves.specs.Found.{Between, FoundBelow}
use Rattle.moves.specs.Logs.{logged_all, log_of, log_record, logged, move_size}
use Rattle.moves.specs.declared.log.Logged.{Logged}
use Rattle.moves.proofs.LogOfMoves.{logged_all_last, logged_all-length}
use Rattle.moves.proofs.LogBack.{log_of_last, log_of-length}
use Rattle.systems.specs.Products.{word}
use Rattle.systems.specs.declared.Found.{Found}
use Rattle.systems.specs.declared.Rule.{Rule}
use Rattle.systems.specs.declared.Rule.TheVariants.{HalfEnd, Shortening}
use Rattle.systems.proofs.Finding.{found_first, found_move, found_none, found_rule, found_then}
use Rattle.systems.proofs.Undoing.{made-changed}
use Rattle.std.specs.Prelude.{IfSome}
use Rattle.runs.specs.Runs.{FoundNext, ran}

-- the next move: a shortening, or else a half-end move
with_below : (n : ℕ) (rule : Rule) (o : Option Move) → FoundBelow n o → IfSome (with_rule rule o) (λ f. Between n f.next)
with_below n rule None below = tt
with_below n rule (Some m) below = below

module _ (S : List (List ℕ)) (tried : Option Move) (told : tried ≡ shortening bytes S) where
  pub shortening_found : {r : Option Found} {f : Found} → r ≡ with_rule Shortening tried → r ≡ Some f → FoundBelow (length S) tried → FoundNext S r
  shortening_found given e below =
      record {
        found = found_first bytes S (given ∙ ap (with_rule Shortening) told) e;
        below = rw given (with_below (length S) Shortening tried below);
      }

  pub half_end_found : {r found : Option Found} (half : Option Move) → r ≡ with_rule Shortening tried → r ≡ None → half ≡ half_end bytes S
      → FoundBelow (length S) half → found ≡ with_rule HalfEnd half → FoundNext S found
  half_end_found half given e d below rule =
      record {
        found = found_then bytes S (given ∙ ap (with_rule Shortening) told) e (rule ∙ ap (with_rule HalfEnd) d);
        below = rw rule (with_below (length S) HalfEnd half below);
      }

-- where a run of the words S₀ stands: the words after so many moves, and the log of them
pub record Standing (S₀ : List (List ℕ)) (log₀ : List ℕ) (S : List (List ℕ)) (log : List ℕ) (used : ℕ) : Type 0 where
  pub words : S ≡ run_within bytes used S₀
  pub count : length (moves_within bytes used S₀) ≡ used
  pub logged : log ≡ log_of (logged_all S₀ (moves_within bytes used S₀)) ++ drop (used * move_size) log₀

pub standing_begin : (S : List (List ℕ)) (log : List ℕ) → Standing S log S log 0
standing_begin S log = record { words = refl; count = refl; logged = refl }

module _ (S₀ : List (List ℕ)) (log₀ : List ℕ) (S : List (List ℕ)) (log : List ℕ) (used : ℕ) (standing : Standing S₀ log₀ S log used) where
  abbrev written_so_far : List ℕ
  written_so_far = log_of (logged_all S₀ (moves_within bytes used S₀))

  log_long : length written_so_far ≡ used * move_size
  log_long =
      log_of-length (logged_all S₀ (moves_within bytes used S₀))
      ∙ ap (λ (k : ℕ). k * move_size) (logged_all-length S₀ (moves_within bytes used S₀) ∙ standing.count)

  -- a move is made and logged
  module _ (f : Found) (more : found_next bytes S ≡ Some f) where
    next-is : next bytes S ≡ Some f.next
    next-is = found_move bytes S f more

    -- what is logged of it
    pub turn_logged : (T : List (List ℕ)) (n : ℕ) → Between (length S) f.next → T ≡ made bytes S f.next → n ≡ length (word bytes T f.next.changed)
        → ◌≡◌ {A = Logged} (record { made = f.next; rule = f.rule; new_length = n }) (logged S f.next)
    turn_logged T n between turned counted =
        ap₂ (λ (r : Rule) (k : ℕ). record { made = f.next; rule = r; new_length = k }) (found_rule bytes S f more)
        (counted ∙ ap (λ (U : List (List ℕ)). length (word bytes U f.next.changed)) turned ∙ ap length (made-changed bytes S f.next between.0))

    log-more : (log' : List ℕ) → log' ≡ take (used * move_size) log ++ (log_record (logged S f.next) ++ drop (used * move_size + move_size) log)
        → log' ≡ log_of (logged_all S₀ (moves_within bytes (used + 1) S₀)) ++ drop ((used + 1) * move_size) log₀
    log-more log' after =
        let last : List ℕ = log_record (logged S f.next) in
        let front : take (used * move_size) log ≡ written_so_far =
        ap (take (used * move_size)) standing.logged ∙ take_at written_so_far _ (used * move_size) log_long in
        let next_place : used * move_size + move_size ≡ (used + 1) * move_size = omega arith in
        let back : drop (used * move_size + move_size) log ≡ drop ((used + 1) * move_size) log₀ =
        sym (drop-drop move_size (used * move_size) log)
        ∙ ap (drop move_size) (ap (drop (used * move_size)) standing.logged ∙ drop_at written_so_far _ (used * move_size) log_long)
        ∙ drop-drop move_size (used * move_size) log₀ ∙ ap (λ (k : ℕ). drop k log₀) next_place in
        after ∙ ap₂ (λ (a b : List ℕ). a ++ (last ++ b)) front back
        ∙ sym (append_assoc written_so_far last (drop ((used + 1) * move_size) log₀))
        ∙ ap (λ (a : List ℕ). a ++ drop ((used + 1) * move_size) log₀)
        (sym (log_of_last (logged_all S₀ (moves_within bytes used S₀)) (logged S f.next))
        ∙ ap log_of
        (ap (λ (T : List (List ℕ)). logged_all S₀ (moves_within bytes used S₀) ++ (logged T f.next ∷ [])) standing.words
        ∙ sym (logged_all_last S₀ (moves_within bytes used S₀) f.next)
        ∙ ap (logged_all S₀) (turn_moves bytes S₀ S used standing.words f.next next-is (moves_within bytes used S₀) refl)))

    pub standing_turn : (T : List (List ℕ)) (log' : List ℕ) (l : Logged) → T ≡ made bytes S f.next → l ≡ logged S f.next
        → log' ≡ take (used * move_size) log ++ (log_record l ++ drop (used * move_size + move_size) log) → Standing S₀ log₀ T log' (used + 1)
    standing_turn T log' l turned told after =
        record {
          words = turned ∙ turn_run bytes S₀ S used standing.words f.next next-is;
          count = turn_length bytes S₀ S used standing.words f.next next-is;
          logged =
              log-more log'
              (after ∙ ap (λ (k : Logged). take (used * move_size) log ++ (log_record k ++ drop (used * move_size + move_size) log)) told);
        }

  -- where nothing is found, more room changes nothing
  pub same_ended : (room : ℕ) → found_next bytes S ≡ None → used ≤ room → moves_within bytes used S₀ ≡ moves_within bytes room S₀
  same_ended room nothing enough =
      sym (ended_moves bytes S₀ S used standing.words (found_none bytes S nothing) room enough (moves_within bytes used S₀) refl)

  -- what the run came to, where the moves made are those that the room allows
  module _ (room : ℕ) (same : moves_within bytes used S₀ ≡ moves_within bytes room S₀) where
    came_moves : used ≡ length (moves_within bytes room S₀)
    came_moves = sym standing.count ∙ ap length same

    pub came_words : S ≡ run_within bytes room S₀
    came_words = standing.words ∙ ap (made_all bytes S₀) same

    pub came_log : log ≡ written (log_of (logged_all S₀ (moves_within bytes room S₀))) log₀
    came_log =
        standing.logged ∙ ap (λ (k : ℕ). written_so_far ++ drop k log₀) (sym log_long)
        ∙ ap (λ (ms : List Move). written (log_of (logged_all S₀ ms)) log₀) same

    pub came_ended : found_next bytes S ≡ None → Ok used ≡ ran room S₀
    came_ended nothing = rw (← came_words, found_none bytes S nothing, ← came_moves) refl

  -- the log is full
  module _ (room : ℕ) (most : used ≤ room) (least : room ≤ used) where
    full : moves_within bytes used S₀ ≡ moves_within bytes room S₀
    full = ap (λ (n : ℕ). moves_within bytes n S₀) (omega (arith, most, least))

    pub full_ended : found_next bytes S ≡ None → Ok room ≡ ran room S₀
    full_ended nothing = ap Ok (omega (arith, most, least)) ∙ came_ended room full nothing

    pub full_cut : (f : Found) → found_next bytes S ≡ Some f → Err room ≡ ran room S₀
    full_cut f more = rw (← came_words room full, found_move bytes S f more, ← came_moves room full) (ap Err (omega (arith, most, least)))
