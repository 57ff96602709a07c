-- The former log records, which had 4 bytes and no explanation, and the former refusals of replay on a run. They stand here for the laws of
-- this crate alone: a log without its explanations is the former one, reduce and member are otherwise as they were where neither is refused,
-- and replay's run where no length differs.
use Prim.Native.Nat.{◌+◌, ◌/◌, ◌<◌, suc, zero, ℕ}
use mathlib.Core.Bool.{Bool, false, true}
use mathlib.Core.List.{List, [], ◌++◌, ◌∷◌}
use mathlib.Core.Logic.{inl, inr, ◌⊎◌}
use mathlib.Core.Path.{◌∙◌, ◌≡◌, ap, refl}
use native.Mathlib.Omega.{arith}
use native.Mathlib.Decide.{ℕ_discrete}
use lib.Dec.{eqb}
use lib.ListN.{drop, length, take}
use borrow.Author.Tests.{eq-eqb, ne_eqb}
use Rattle.std.specs.Prelude.{Err, Ok}
use Rattle.words.specs.Alphabet.{bytes}
use Rattle.systems.specs.Moves.{form_digit, made}
use Rattle.systems.specs.Rules.{moves_within, run_within}
use Rattle.systems.specs.declared.Move.{Move}
use Rattle.systems.proofs.Neither.{moves_ended}
use Rattle.records.specs.Refusals.{Checked, ◌and_then◌, each_below, must, refusal}
use Rattle.records.specs.declared.refusals.Reason.TheVariants.{LengthDiffers, LogBufferShort, WordTooLong}
use Rattle.records.specs.declared.answers.Verdict.{Verdict}
use Rattle.records.proofs.Chains.{fine_first, fine_next, must_fine}
use Rattle.moves.specs.Logs.{logged_all, log_of, move_at, move_size, moves_in}
use Rattle.runs.specs.Runs.{room_for}
use Rattle.reduction.specs.Reduction.{log_after, reduction_of, run_tests, words_after}
use Rattle.reduction.proofs.Meaning.{stopped_none}
use Rattle.replay.specs.Replay.{directed, fits, place_at, ran_before, replayed, turn_rule}
use Rattle.replay.proofs.Accepting.{TellsLength}

-- "One move in a log is 4 bytes: slot changed, form digit, other slot, line feed."
abbrev pub former_log_of : List Move → List ℕ
former_log_of [] = []
former_log_of (m ∷ ms) = ((97 + m.changed) ∷ form_digit m.form ∷ (97 + m.other) ∷ 10 ∷ []) ++ former_log_of ms

-- "The moves number more than a quarter of the log buffer's length, rounded down."
abbrev pub former_room_for : List ℕ → ℕ
former_room_for log = length log / 4

-- the first n records of a log without the space, the letter and the two digits
abbrev pub without_explanations : ℕ → List ℕ → List ℕ
without_explanations zero log = []
without_explanations (suc n) log = take 3 log ++ (take 1 (drop 7 log) ++ without_explanations n (drop move_size log))

-- in the log of a list of moves they are the former records of these moves
pub log_as_it_was : (S : List (List ℕ)) (ms : List Move) (rest : List ℕ)
    → without_explanations (length ms) (log_of (logged_all S ms) ++ rest) ≡ former_log_of ms
log_as_it_was S [] rest = refl
log_as_it_was S (m ∷ ms) rest =
    ap (λ (later : List ℕ). (97 + m.changed) ∷ form_digit m.form ∷ (97 + m.other) ∷ 10 ∷ later) (log_as_it_was (made bytes S m) ms rest)

-- reduce and member, which run over the words S after their tests: where they are not refused, the answer, the words and the moves are those
-- that the former room gave, and the log without its explanations is the former one
pub record RunAsItWas (tests : Checked) (S : List (List ℕ)) (words log : List ℕ) (v : Verdict) : Type 0 where
  pub answer : reduction_of (run_tests tests S (room_for log)) v S (room_for log)
      ≡ reduction_of (run_tests tests S (former_room_for log)) v S (former_room_for log)
  pub same_words : words_after tests S (room_for log) words ≡ words_after tests S (former_room_for log) words
  pub same_log : without_explanations (length (moves_within bytes (room_for log) S)) (log_after tests S (room_for log) log)
      ≡ former_log_of (moves_within bytes (former_room_for log) S)

pub run_as_it_was : (tests : Checked) (S : List (List ℕ)) (words log : List ℕ) (v : Verdict) → run_tests tests S (room_for log) ≡ Ok tt
    → RunAsItWas tests S words log v
run_as_it_was tests S words log v passed =
    let ended = stopped_none (run_within bytes (room_for log) S) (must_fine _ LogBufferShort 0 (fine_next tests _ passed)) in
    let same : moves_within bytes (former_room_for log) S ≡ moves_within bytes (room_for log) S =
    moves_ended bytes (room_for log) (former_room_for log) S ended (omega arith) in
    record {
      answer = rw (same, passed, same) refl;
      same_words = rw same refl;
      same_log = rw (same, fine_first tests _ passed) (log_as_it_was S (moves_within bytes (room_for log) S) _);
    }

-- the refusal of a turn of replay as it was: 12 alone, over the same moves
abbrev pub former_turn_rule : Bool → List (List ℕ) → List ℕ → ℕ → Checked
former_turn_rule backward S log d =
    let place : ℕ = place_at backward (length log / move_size) d in
    must (fits (replayed backward S (ran_before backward (moves_in log) d)) (directed backward (move_at log place))) WordTooLong (place + 1)

-- 22 at turn d, where the length in the log record is not that of the word
abbrev pub DiffersAt : Bool → List (List ℕ) → List ℕ → Checked → ℕ → Type 0
DiffersAt backward S log found d =
    (TellsLength backward S log d → ⊥) × (found ≡ refusal LengthDiffers (place_at backward (length log / move_size) d + 1))

turn_as_it_was : (backward : Bool) (S : List (List ℕ)) (log : List ℕ) (d : ℕ)
    → (turn_rule backward S log d ≡ former_turn_rule backward S log d) ⊎ DiffersAt backward S log (turn_rule backward S log d) d
unfolding turn_rule
turn_as_it_was backward S log d = by_tests _ _ _ _
  where
    by_tests : (fit : Bool) (k n number : ℕ)
        → (must fit WordTooLong number and_then must (eqb k n) LengthDiffers number ≡ must fit WordTooLong number)
        ⊎ ((k ≡ n → ⊥) × (must fit WordTooLong number and_then must (eqb k n) LengthDiffers number ≡ refusal LengthDiffers number))
    by_tests true k n number = elim (ℕ_discrete k n) [
      | yes e ↦ inl (ap (λ (b : Bool). must b LengthDiffers number) (eq-eqb k n e))
      | no e ↦ inr (e, ap (λ (b : Bool). must b LengthDiffers number) (ne_eqb k n e))
    ]
    by_tests false k n number = inl refl

-- so on the first n turns of a run, and with n the number of records on all of it: it finds what it found, unless a length differs at some
-- turn, and then it finds 22 there
pub replay_as_it_was : (backward : Bool) (S : List (List ℕ)) (log : List ℕ) (n : ℕ)
    → (each_below (turn_rule backward S log) n ≡ each_below (former_turn_rule backward S log) n)
    ⊎ ((d : ℕ) × (d < n) × DiffersAt backward S log (each_below (turn_rule backward S log) n) d)
replay_as_it_was backward S log zero = inl refl
replay_as_it_was backward S log (suc n) = elim (replay_as_it_was backward S log n) [
  | inr r ↦ inr (r.0, omega (arith, r.1), (r.2.0, ap (λ (c : Checked). c and_then turn_rule backward S log n) r.2.1))
  | inl e ↦ after (each_below (former_turn_rule backward S log) n) (ap (λ (c : Checked). c and_then turn_rule backward S log n) e)
]
  where
    after : (c : Checked) {x : Checked} → x ≡ c and_then turn_rule backward S log n
        → (x ≡ c and_then former_turn_rule backward S log n) ⊎ ((d : ℕ) × (d < suc n) × DiffersAt backward S log x d)
    after (Err f) e = inl e
    after (Ok u) e = elim (turn_as_it_was backward S log n) [
      | inl same ↦ inl (e ∙ same)
      | inr differs ↦ inr (n, omega arith, (differs.0, e ∙ differs.1))
    ]
