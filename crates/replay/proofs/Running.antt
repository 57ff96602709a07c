-- The moves of a log, made from the first to the last or undone from the last to the first: one turn after the other.
use Prim.Native.Nat.{◌+◌, ◌-◌, ◌/◌, ◌<◌, ◌≤◌, ℕ}
use mathlib.Core.Bool.{Bool, false, true}
use mathlib.Core.List.{List, [], ◌++◌, ◌∷◌}
use mathlib.Core.Path.{◌∙◌, ◌≡◌, ap, ap₂, refl, sym}
use native.Mathlib.Numerals.{add-one}
use native.Mathlib.Omega.{arith}
use lib.ListN.{drop, get_or, length, take}
use lib.Seq.{take_all, take-suc}
use Rattle.words.specs.Alphabet.{bytes}
use Rattle.words.proofs.Below.{below_at, below-drop, below_length}
use Rattle.systems.specs.Moves.{made, made_all, undone_all}
use Rattle.systems.specs.declared.Move.{Move}
use Rattle.std.proofs.lemmas.Option.{none-some}
use Rattle.systems.proofs.Undoing.{made_all-length, made_all-snoc, undone_all-length}
use Rattle.records.specs.Refusals.{each_below}
use Rattle.records.specs.declared.answers.Refusal.{Refusal}
use Rattle.records.proofs.Chains.{each_fail, each_pass}
use Rattle.std.specs.Prelude.{None, Option, Some, cond}
use Rattle.std.specs.Simd.{first_chunks}
use Rattle.moves.specs.Logs.{is_move, log_rules, logged_at, move_at, move_size, moves_in, read_move}
use Rattle.moves.specs.declared.log.Logged.{Logged}
use Rattle.moves.proofs.Logging.{passed_read}
use Rattle.replay.specs.Replay.{directed, move_rules, place_at, ran_before, replayed, run_rules, turn_rule}
use Rattle.std.specs.Prelude.{Err, Ok}
use Rattle.records.specs.Refusals.{Checked}

-- where the move of a turn stands
pub place_inside : (backward : Bool) (count d : ℕ) → d < count → place_at backward count d < count
place_inside true count d h = omega arith
place_inside false count d h = h

-- what a test lets through
kept : (b : Bool) (l k : Logged) → cond b (Some l) None ≡ Some k → (b ≡ true) × (l ≡ k)
kept true l k e = (refl, ap (λ (o : Option Logged). elim o [ None ↦ l | Some m ↦ m ]) e)
kept false l k e = absurd (none-some k e)

-- the systems of a run
module _ (log : List ℕ) (S : List (List ℕ)) where
  moves-count : length (moves_in log) ≡ length log / move_size
  moves-count = below_length (move_at log) (length log / move_size)

  pub turn_next : (backward : Bool) (d : ℕ) → d < length log / move_size
      → replayed backward S (ran_before backward (moves_in log) (d + 1))
      ≡ made bytes (replayed backward S (ran_before backward (moves_in log) d)) (directed backward (move_at log (place_at backward (length log / move_size) d)))
  turn_next true d h =
      let count : ℕ = length log / move_size in
      let here : length (moves_in log) - (d + 1) ≡ count - 1 - d = omega (arith, moves-count) in
      let after : count - 1 - d + 1 ≡ length (moves_in log) - d = omega (arith, moves-count) in
      ap (undone_all bytes S)
      (ap (λ (i : ℕ). drop i (moves_in log)) here ∙ below-drop (move_at log) count (count - 1 - d) (omega arith)
      ∙ ap (λ (i : ℕ). move_at log (count - 1 - d) ∷ drop i (moves_in log)) after)
  turn_next false d h =
      ap (made_all bytes S)
      (ap (λ (i : ℕ). take i (moves_in log)) (add-one d) ∙ take-suc (moves_in log) d (move_at log d) (rw moves-count h)
      ∙ ap (λ (m : Move). take d (moves_in log) ++ (m ∷ [])) (below_at (move_at log) (length log / move_size) d (move_at log d) h))
      ∙ made_all-snoc bytes S (take d (moves_in log)) (move_at log d)

  turn_last : (backward : Bool) → ran_before backward (moves_in log) (length log / move_size) ≡ moves_in log
  turn_last true =
      let none_left : length (moves_in log) - length log / move_size ≡ 0 = omega (arith, moves-count) in
      ap (λ (i : ℕ). drop i (moves_in log)) none_left
  turn_last false = take_all (length log / move_size) (moves_in log) (omega (arith, moves-count))

  pub turn_length : (backward : Bool) (ms : List Move) → length (replayed backward S ms) ≡ length S
  turn_length true ms = undone_all-length bytes S ms
  turn_length false ms = made_all-length bytes S ms

  module _ (backward : Bool) (d : ℕ) (T : List (List ℕ)) (here : T ≡ replayed backward S (ran_before backward (moves_in log) d))
      (count : ℕ) (counted : count ≡ length log / move_size) where
    -- the move of a turn stands in its place of a log that passed its tests
    module _ (n at : ℕ) (parts : List (List ℕ)) (e : List ℕ) (fine : log_rules (length S) log ≡ Ok tt) (slots : n ≡ length T)
        (cut : parts ≡ first_chunks move_size (length log / move_size) log) (placed : at < count) where
      turn_reads : read_move n (get_or parts at e) ≡ Some (logged_at log at)
      turn_reads =
          let same : n ≡ length S = slots ∙ ap length here ∙ turn_length backward (ran_before backward (moves_in log) d) in
          passed_read n log at parts e (rw same fine) cut (omega (arith, placed, counted))

      pub turn_valid : is_move n (get_or parts at e) 0 ≡ true
      turn_valid = (kept _ _ _ turn_reads).0

      pub turn_move : (l : Logged) → l ≡ logged_at (get_or parts at e) 0 → l ≡ logged_at log at
      turn_move l told = told ∙ (kept _ _ _ turn_reads).1

    -- it is run
    module _ (at : ℕ) (l : Logged) (place : at ≡ place_at backward count d) (read : l ≡ logged_at log at) (inside : d < count) where
      turn_place : at ≡ place_at backward (length log / move_size) d
      turn_place = place ∙ ap (λ (i : ℕ). place_at backward i d) counted

      turn_inside : d < length log / move_size
      turn_inside = omega (arith, inside, counted)

      turn_same : l ≡ logged_at log (place_at backward (length log / move_size) d)
      turn_same = read ∙ ap (logged_at log) turn_place

      turn_told : move_rules backward T l (at + 1) ≡ turn_rule backward S log d
      unfolding turn_rule
      turn_told =
          ap₂ (λ (U : List (List ℕ)) (k : Logged). move_rules backward U k (at + 1)) here turn_same
          ∙ ap
          (λ (i : ℕ). move_rules backward (replayed backward S (ran_before backward (moves_in log) d)) (logged_at log (place_at backward (length log / move_size) d)) (i + 1))
          turn_place

      module _ {x : Checked} (told : x ≡ move_rules backward T l (at + 1)) where
        module _ (passed : each_below (turn_rule backward S log) d ≡ Ok tt) where
          pub turn_fails : {f : Refusal} → x ≡ Err f → x ≡ run_rules backward S log
          turn_fails long = each_fail (turn_rule backward S log) d passed (length log / move_size) turn_inside (told ∙ turn_told) long

          pub turn_passes : x ≡ Ok tt → each_below (turn_rule backward S log) (d + 1) ≡ Ok tt
          turn_passes short = each_pass (turn_rule backward S log) d passed (told ∙ turn_told) short

        pub turn_makes : (T' : List (List ℕ)) → (x ≡ Ok tt → T' ≡ made bytes T (directed backward l.made)) → x ≡ Ok tt
            → T' ≡ replayed backward S (ran_before backward (moves_in log) (d + 1))
        turn_makes T' done short =
            done short ∙ ap₂ (λ (U : List (List ℕ)) (k : Logged). made bytes U (directed backward k.made)) here turn_same
            ∙ sym (turn_next backward d turn_inside)

    -- no move is left
    pub turn_end : count ≤ d → d ≤ count → T ≡ replayed backward S (moves_in log)
    turn_end over most =
        let all : d ≡ length log / move_size = omega (arith, counted) in
        here ∙ ap (replayed backward S) (ap (ran_before backward (moves_in log)) all ∙ turn_last backward)
