-- The call replay: its tests one after the other, what they tell once they are passed, and what the call answers.
-- The words that are run over are those of the system, freely reduced.
use Prim.Native.Nat.{◌*◌, ◌≤◌, ℕ}
use mathlib.Core.Bool.{Bool}
use mathlib.Core.List.{List}
use mathlib.Core.Path.{◌∙◌, ◌≡◌, ap, sym}
use lib.ListN.{length}
use Rattle.words.specs.Buffers.{written}
use Rattle.records.specs.Refusals.{◌and_then◌}
use Rattle.records.specs.declared.answers.Refusal.{Refusal}
use Rattle.records.proofs.Chains.{fine_first, fine_next, then_failed, then_fine}
use Rattle.slots.specs.Refusals.{system_rules, word_room}
use Rattle.slots.specs.Systems.{bytes_of, freely_reduced_words, slots}
use Rattle.slots.proofs.RoundTrip.{words-length}
use Rattle.slots.proofs.Systems.{room_enough, system-size}
use Rattle.moves.specs.Logs.{log_rules, moves_in}
use Rattle.replay.proofs.Running.{turn_length}
use Rattle.replay.specs.Replay.{replay_rules, replay_tests, replayed, run_rules}
use Rattle.std.specs.Prelude.{Err, Ok}
use Rattle.records.specs.Refusals.{Checked}

-- what the tests tell once they are passed
module _ (s log : List ℕ) (room : ℕ) {x : Checked} (e : x ≡ replay_tests s log room) (h : x ≡ Ok tt) where
  all_passed : system_rules s and_then log_rules (slots s) log and_then word_room (slots s * 64) room ≡ Ok tt
  unfolding replay_tests
  all_passed = sym e ∙ h

  rest_passed : log_rules (slots s) log and_then word_room (slots s * 64) room ≡ Ok tt
  rest_passed = fine_next (system_rules s) _ all_passed

  pub passed_size : length s ≤ 1024
  passed_size = system-size s (fine_first (system_rules s) _ all_passed)

  pub passed_log : (S : List (List ℕ)) → S ≡ freely_reduced_words s → log_rules (length S) log ≡ Ok tt
  passed_log S same = rw (same, words-length s) (fine_first (log_rules (slots s) log) _ rest_passed)

  pub passed_room : (way : Bool) (S T : List (List ℕ)) {y : Checked} → S ≡ freely_reduced_words s → (y ≡ Ok tt → T ≡ replayed way S (moves_in log))
      → y ≡ Ok tt → length T * 64 ≤ room
  passed_room way S T same left fine =
      let count : length T ≡ slots s = ap length (left fine) ∙ turn_length log S way (moves_in log) ∙ ap length same ∙ words-length s in
      rw count (room_enough (slots s * 64) room (fine_next (log_rules (slots s) log) _ rest_passed))

-- refusals 1 to 10, and then 12 and 22
module _ (s log : List ℕ) (way : Bool) (room : ℕ) where
  pub rules_tests : {x : Checked} {f : Refusal} → x ≡ replay_tests s log room → x ≡ Err f → x ≡ replay_rules s log way room
  unfolding replay_rules
  rules_tests e h = then_failed _ _ e h

  pub rules_run : {q x : Checked} (S : List (List ℕ)) → q ≡ replay_tests s log room → q ≡ Ok tt → S ≡ freely_reduced_words s
      → x ≡ run_rules way S log → x ≡ replay_rules s log way room
  unfolding replay_rules
  rules_run S e h same told = then_fine _ _ e h (told ∙ ap (λ (T : List (List ℕ)). run_rules way T log) same)

-- the bytes of the words after the run
pub run-written : (s log : List ℕ) (way : Bool) (S T : List (List ℕ)) (out buffer : List ℕ) {x : Checked} → S ≡ freely_reduced_words s
    → (x ≡ Ok tt → T ≡ replayed way S (moves_in log)) → x ≡ Ok tt → out ≡ written (bytes_of T) buffer
    → out ≡ written (bytes_of (replayed way (freely_reduced_words s) (moves_in log))) buffer
run-written s log way S T out buffer same left fine told =
    told
    ∙ ap (λ (U : List (List ℕ)). written (bytes_of U) buffer) (left fine ∙ ap (λ (U : List (List ℕ)). replayed way U (moves_in log)) same)
