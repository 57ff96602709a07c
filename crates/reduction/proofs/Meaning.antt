-- What the answers of reduce and test mean: their exact definitions, taken with the laws of runs, say what is demanded of them.
-- A run that comes to its end leaves short words of letters, which are read back from the bytes written, and replay takes its log both ways.
use Rattle.std.specs.Prelude.{is_none}
use Prim.Native.Nat.{◌*◌, ◌-◌, ◌<◌, ◌≤◌, ℕ}
use mathlib.Core.Bool.{Bool, false, true, true≢false}
use mathlib.Core.List.{List, [], map}
use mathlib.Core.Logic.{◌↔◌}
use Rattle.std.specs.Prelude.{None, Option, Some}
use mathlib.Core.Path.{◌∙◌, ◌≡◌, ap, refl, sym}
use native.Mathlib.Decide.{dec_lt}
use native.Mathlib.Omega.{arith}
use lib.ListN.{drop, length, take}
use lib.Seq.{length-take-le}
use Rattle.words.specs.Alphabet.{bytes}
use Rattle.words.specs.Buffers.{written}
use Rattle.words.specs.Words.{freely_reduce}
use Rattle.words.proofs.Alphabet.{byte_laws, flip_byte_no_own_inverse}
use Rattle.words.proofs.Buffers.{written-take}
use Rattle.systems.specs.Moves.{made_all, undone_all}
use Rattle.systems.specs.declared.Move.{Move}
use Rattle.systems.specs.Products.{Equivalent, FreelyReduced, Independent}
use Rattle.systems.specs.Rank.{none_blank, rank}
use Rattle.systems.specs.Reduced.{Reduced}
use Rattle.systems.specs.Rules.{moves_within, next, run_within}
use Rattle.systems.proofs.Finding.{by_half_end, by_shortening, rule_keeps_length, moves_next, rule_shortens}
use Rattle.systems.proofs.Undoing.{made_all-freely_reduced}
use Rattle.systems.proofs.Equivalence.{freely_reduced-same}
use Rattle.systems.proofs.Neither.{moves_again, moves-first, moves_fit, moves-over, next-none, run_ended, run-freely_reduced, run_length, run_valid}
use Rattle.systems.proofs.Runs.{backward, backward_to, backward_way_within, equivalent, forward_way_within, forward-within, independence, reduced}
use Rattle.records.specs.Answers.{on_fine, refusal_number}
use Rattle.records.specs.Refusals.{must}
use Rattle.records.specs.declared.answers.Verdict.{Verdict}
use Rattle.records.specs.declared.answers.Verdict.TheVariants.{Done}
use Rattle.records.proofs.ByNumber.{NumberedTo, then_numbered}
use Rattle.records.proofs.Chains.{answered, fine_first, fine_next, must_fine}
use Rattle.slots.specs.Refusals.{system_room, system_rules, word_room}
use Rattle.slots.specs.Systems.{AllShort, LetterWords, bytes_of, freely_reduced_words, slots, system_of}
use Rattle.slots.proofs.RoundTrip.{bytes_of-length, bytes_of-slots, reduced_letters, reduced-short, system_back, system_passes, words-length}
use Rattle.slots.proofs.Systems.{loaded_freely_reduced, room_fits, room_numbered, system_numbered, system-few}
use Rattle.moves.specs.Logs.{logged_all, log_of, log_rules, logged, logged_at, move_at, move_size}
use Rattle.moves.proofs.LogOfMoves.{logged_all_first, all_loggable, record_logged, logged_all-length, log_of-moves, record_move}
use Rattle.moves.proofs.LogBack.{log_of-length, log_of_passes}
use Rattle.replay.specs.Replay.{replay_rules, run_rules}
use Rattle.replay.proofs.Accepting.{replay_accepts, run_accepts, tells_backward, tells_forward}
use Rattle.runs.specs.Runs.{room_for, stopped}
use Rattle.reduction.specs.Meaning.{Bounded, EnoughMoves, LogShort, ReduceMeans, Reduces, Tells, TestMeans, logged_moves, most_moves_on, most_moves_on_any}
use Rattle.reduction.specs.Reduction.{log_after, reduce_answer, reduce_log, reduce_tests, reduce_words, reduction_of, run_tests, test_answer, tested_of, words_after}
use Rattle.reduction.specs.declared.answers.Reduction.{Reduction}
use Rattle.reduction.specs.declared.answers.Tested.{Tested}
use Rattle.reduction.proofs.RoundTrip.{letters_made_all}
use Rattle.reduction.proofs.Bound.{largest_bound, moves_never_more, most_moves_enough, none_larger}
use Rattle.records.specs.declared.refusals.Reason.TheVariants.{LogBufferShort}
use Rattle.std.specs.Prelude.{Err, Ok}
use Rattle.records.specs.Refusals.{Checked}

-- neither rule applies exactly where the search for a move finds none
none_yes : (o : Option Move) → is_none o ≡ true → o ≡ None
none_yes None e = refl
none_yes (Some m) e = let z : ◌≡◌ {A = ℕ} 0 1 = cc in absurd (omega arith)

pub stopped_none : (S : List (List ℕ)) → stopped S ≡ true → next bytes S ≡ None
stopped_none S e = none_yes (next bytes S) e

pub none-stopped : (S : List (List ℕ)) → next bytes S ≡ None → stopped S ≡ true
none-stopped S e = ap is_none e

-- test: a call that is done has passed its tests
tested_fine : (c : Checked) (S : List (List ℕ)) → (tested_of c S).verdict ≡ Done → c ≡ Ok tt
tested_fine (Ok _) S e = refl
tested_fine (Err f) S e = let z : ◌≡◌ {A = ℕ} 0 1 = cc in absurd (omega arith)

-- "neither rule applies" exactly to the freely reduced words that are reduced
pub tested_means : (s : List ℕ) → (stopped (freely_reduced_words s) ≡ true) ↔ Reduced bytes (freely_reduced_words s)
tested_means s =
    let law = next-none bytes byte_laws flip_byte_no_own_inverse (freely_reduced_words s) (loaded_freely_reduced s) in
    (λ e. law.0 (stopped_none (freely_reduced_words s) e), λ r. none-stopped (freely_reduced_words s) (law.1 r))

-- the answer of test, and so every answer equal to it, says yes exactly where the freely reduced words are reduced
pub test_means : (s : List ℕ) (a : Tested) → a ≡ test_answer s → TestMeans s a
test_means s a e done =
    let passed : system_rules s ≡ (Ok tt) = tested_fine (system_rules s) (freely_reduced_words s) (rw e at done) in
    let told : a.reduced ≡ stopped (freely_reduced_words s) = ap (λ (t : Tested). t.reduced) (e ∙ ap (λ (c : Checked). tested_of c (freely_reduced_words s)) passed) in
    (λ h. (tested_means s).0 (sym told ∙ h), λ r. told ∙ (tested_means s).1 r)

-- the moves of a run over the words of a system, with room for so many, and the words that they leave
abbrev pub run_moves : List ℕ → ℕ → List Move
run_moves s n = moves_within bytes n (freely_reduced_words s)

abbrev pub run_words : List ℕ → ℕ → List (List ℕ)
run_words s n = run_within bytes n (freely_reduced_words s)

-- and what is logged of them
abbrev pub run_log : List ℕ → ℕ → List ℕ
run_log s n = log_of (logged_moves s n)

-- what a run leaves: short words, freely reduced
module _ (s : List ℕ) (n : ℕ) where
  pub left_short : AllShort (run_words s n)
  left_short = forward-within bytes byte_laws n (freely_reduced_words s) (loaded_freely_reduced s) 63 (reduced-short s)

  pub left_freely_reduced : FreelyReduced bytes (run_words s n)
  left_freely_reduced = run-freely_reduced bytes byte_laws n (freely_reduced_words s) (loaded_freely_reduced s)

  -- a run keeps the number of slots
  pub left_length : length (run_words s n) ≡ slots s
  left_length = run_length bytes n (freely_reduced_words s) ∙ words-length s

  pub left_slots : slots (bytes_of (run_words s n)) ≡ slots s
  left_slots = bytes_of-slots (run_words s n) left_short ∙ left_length

  pub left_bytes : length (bytes_of (run_words s n)) ≡ slots s * 64
  left_bytes = bytes_of-length (run_words s n) left_short ∙ ap (λ (k : ℕ). k * 64) left_length

  -- its moves lie between slots of the system, so their log passes the tests of a log
  log_passes : log_rules (slots s) (run_log s n) ≡ Ok tt
  log_passes =
      let valid = run_valid bytes byte_laws n (freely_reduced_words s) (loaded_freely_reduced s) in
      log_of_passes (slots s) (logged_moves s n) (rw (words-length s) at (all_loggable (freely_reduced_words s) (run_moves s n) valid (reduced-short s)))

  -- undone, they lead back through the words of the way there
  back_way : (i : ℕ) → undone_all bytes (run_words s n) (drop i (run_moves s n)) ≡ made_all bytes (freely_reduced_words s) (take i (run_moves s n))
  back_way i = backward_to bytes byte_laws n (freely_reduced_words s) (loaded_freely_reduced s) i

  -- no word on the way is too long, forward or backward, and each has the length in the log
  forward-runs : run_rules false (freely_reduced_words s) (run_log s n) ≡ Ok tt
  forward-runs = run_accepts false (freely_reduced_words s) (run_log s n) (rw (words-length s) log_passes)
      (λ d.
      rw (log_of-moves (freely_reduced_words s) (run_moves s n))
      (forward_way_within bytes byte_laws n (freely_reduced_words s) (loaded_freely_reduced s) 63 (reduced-short s) d))
      (tells_forward (freely_reduced_words s) (run_moves s n))

  backward-runs : run_rules true (run_words s n) (run_log s n) ≡ Ok tt
  backward-runs = run_accepts true (run_words s n) (run_log s n) (rw left_length log_passes)
      (λ d.
      rw (log_of-moves (freely_reduced_words s) (run_moves s n))
      (backward_way_within bytes byte_laws n (freely_reduced_words s) (loaded_freely_reduced s) 63 (reduced-short s) (length (run_moves s n) - d)))
      (tells_backward (freely_reduced_words s) (run_moves s n) (rw (words-length s) log_passes) back_way)

  -- each log record tells of its move
  record_tells : (j : ℕ) → j < length (run_moves s n) → Tells (made_all bytes (freely_reduced_words s) (take j (run_moves s n))) (logged_at (run_log s n) j)
  record_tells j h =
      let m : Move = move_at (run_log s n) j in
      let before : List (List ℕ) = made_all bytes (freely_reduced_words s) (take j (run_moves s n)) in
      let freely = made_all-freely_reduced bytes byte_laws (freely_reduced_words s) (take j (run_moves s n)) (loaded_freely_reduced s) in
      let told : logged_at (run_log s n) j ≡ logged before m = record_logged (freely_reduced_words s) (run_moves s n) j h (move_at [] 0) in
      let more : next bytes before ≡ Some m =
      moves_next bytes n (freely_reduced_words s) j (move_at [] 0) h
      ∙ ap Some (sym (record_move (freely_reduced_words s) (run_moves s n) j h (move_at [] 0))) in
      rw told (record {
        by_shortening = by_shortening bytes byte_laws before freely m more;
        by_half_end = by_half_end bytes byte_laws before freely m more;
        shorter = rule_shortens bytes byte_laws before freely m more;
        same_length = rule_keeps_length bytes byte_laws before freely m more;
        new_length = refl;
      })

  -- and backward it comes to the given words, freely reduced
  backward_gives_lem : undone_all bytes (run_words s n) (run_moves s n) ≡ freely_reduced_words s
  backward_gives_lem = backward bytes byte_laws n (freely_reduced_words s) (loaded_freely_reduced s)

  -- the words left generate the same words as the given ones
  pub left_equivalent : Equivalent bytes (system_of s) (run_words s n)
  unfolding freely_reduced_words
  left_equivalent = equivalent bytes byte_laws n (system_of s)

  -- where the run has come to its end, they are reduced, and the given words are independent exactly when no slot is blank
  module _ (ended : next bytes (run_words s n) ≡ None) where
    pub left_reduced : Reduced bytes (run_words s n)
    unfolding freely_reduced_words
    left_reduced = reduced bytes byte_laws flip_byte_no_own_inverse n (system_of s) ended

    pub left_independent : (none_blank (run_words s n) ≡ true) ↔ Independent bytes (system_of s)
    unfolding freely_reduced_words
    left_independent = independence bytes byte_laws flip_byte_no_own_inverse n (system_of s) ended

-- a run over a system that passes its tests
module _ (s : List ℕ) (n : ℕ) (system : system_rules s ≡ Ok tt) where
  -- it leaves words of letters
  pub left_letters : LetterWords (run_words s n)
  left_letters = letters_made_all (freely_reduced_words s) (run_moves s n) (reduced_letters s system)

  -- the words that it leaves come back from their bytes, and are freely reduced already
  pub left_back : system_of (bytes_of (run_words s n)) ≡ run_words s n
  left_back = system_back (run_words s n) left_letters (left_short s n)

  pub left_words : freely_reduced_words (bytes_of (run_words s n)) ≡ run_words s n
  unfolding freely_reduced_words
  left_words = ap (map (freely_reduce bytes)) left_back ∙ freely_reduced-same bytes byte_laws (run_words s n) (left_freely_reduced s n)

  -- and those bytes pass the tests of a system
  pub left_passes : system_rules (bytes_of (run_words s n)) ≡ Ok tt
  left_passes = system_passes (run_words s n) left_letters (left_short s n) (rw (left_length s n) (system-few s system))

  -- replay takes the log forward from the given system and backward from the system left
  replay_forward : (room : ℕ) → slots s * 64 ≤ room → replay_rules s (run_log s n) false room ≡ Ok tt
  replay_forward room h =
      replay_accepts s (run_log s n) false room system (log_passes s n) h (forward-runs s n)

  replay_backward : (room : ℕ) → slots s * 64 ≤ room → replay_rules (bytes_of (run_words s n)) (run_log s n) true room ≡ Ok tt
  replay_backward room h =
      replay_accepts (bytes_of (run_words s n)) (run_log s n) true room left_passes (rw (left_slots s n) (log_passes s n))
      (rw (left_slots s n) h) (rw left_words (backward-runs s n))

  -- the bytes written of a run that has come to its end are what reduce must give
  run-reduces : (v : Verdict) → next bytes (run_words s n) ≡ None
      → Reduces s (bytes_of (run_words s n)) (run_log s n) (reduction_of (Ok tt) v (freely_reduced_words s) n)
  run-reduces v ended =
      record {
        well_formed = left_passes;
        freely_reduced = rw left_back (left_freely_reduced s n);
        reduced = rw left_back (left_reduced s n ended);
        moves = log_of-moves (freely_reduced_words s) (run_moves s n) ∙ sym (moves_again bytes n (freely_reduced_words s));
        no_more_moves = ap (λ (ms : List Move). next bytes (made_all bytes (freely_reduced_words s) ms)) (moves_again bytes n (freely_reduced_words s)) ∙ ended;
        count = ap length (sym (log_of-moves (freely_reduced_words s) (run_moves s n)));
        equivalent = rw left_back (left_equivalent s n);
        rank = ap rank (sym left_back);
        independent = left_independent s n ended;
        none_blank = ap none_blank (sym left_back);
        forward = replay_forward;
        forward_gives = rw (log_of-moves (freely_reduced_words s) (run_moves s n)) (sym left_back);
        backward = replay_backward;
        tells = λ j h. rw (log_of-moves (freely_reduced_words s) (run_moves s n)) (record_tells s n j h);
        backward_gives = rw (log_of-moves (freely_reduced_words s) (run_moves s n), left_words) (backward_gives_lem s n);
      }

-- a call that ran over the words of a system, as reduce and member do: what it logged
log_holds : (s log log' : List ℕ) (tests : Checked) → tests ≡ Ok tt → log' ≡ log_after tests (freely_reduced_words s) (room_for log) log
    → take (length (run_moves s (room_for log)) * move_size) log' ≡ run_log s (room_for log)
log_holds s log log' tests passed logged =
    let new : log' ≡ written (run_log s (room_for log)) log = logged ∙ ap (λ (c : Checked). on_fine c (written (run_log s (room_for log)) log) log) passed in
    let size : length (run_log s (room_for log)) ≡ length (run_moves s (room_for log)) * move_size =
    log_of-length (logged_moves s (room_for log))
    ∙ ap (λ (k : ℕ). k * move_size) (logged_all-length (freely_reduced_words s) (run_moves s (room_for log))) in
    ap (take (length (run_moves s (room_for log)) * move_size)) new ∙ written-take (run_log s (room_for log)) log _ size

-- and where it passed its tests and 13
module _ (s log : List ℕ) (tests : Checked) (passed : run_tests tests (freely_reduced_words s) (room_for log) ≡ Ok tt) where
  pub ran_tests : tests ≡ Ok tt
  ran_tests = fine_first tests _ passed

  pub ran_ended : next bytes (run_words s (room_for log)) ≡ None
  ran_ended = stopped_none (run_words s (room_for log)) (must_fine _ LogBufferShort 0 (fine_next tests _ passed))

  -- what it wrote
  pub ran_words : (words words' : List ℕ) → words' ≡ words_after tests (freely_reduced_words s) (room_for log) words
      → take (slots s * 64) words' ≡ bytes_of (run_words s (room_for log))
  ran_words words words' wrote =
      let new : words' ≡ written (bytes_of (run_words s (room_for log))) words =
      wrote ∙ ap (λ (c : Checked). on_fine c (written (bytes_of (run_words s (room_for log))) words) words) passed in
      ap (take (slots s * 64)) new ∙ written-take (bytes_of (run_words s (room_for log))) words (slots s * 64) (left_bytes s (room_for log))

  -- is what reduce must give, whatever the verdict
  pub ran_reduces : system_rules s ≡ Ok tt → (v : Verdict) (a : Reduction) (words words' log' : List ℕ)
      → a ≡ reduction_of (run_tests tests (freely_reduced_words s) (room_for log)) v (freely_reduced_words s) (room_for log)
      → words' ≡ words_after tests (freely_reduced_words s) (room_for log) words → log' ≡ log_after tests (freely_reduced_words s) (room_for log) log
      → Reduces s (take (slots s * 64) words') (take (a.moves * move_size) log') a
  ran_reduces system v a words words' log' answered wrote logged =
      let told : a ≡ reduction_of (Ok tt) v (freely_reduced_words s) (room_for log) =
      answered ∙ ap (λ (c : Checked). reduction_of c v (freely_reduced_words s) (room_for log)) passed in
      rw (told, ran_words words words' wrote, log_holds s log log' tests ran_tests logged) (run-reduces s (room_for log) system v ran_ended)

-- it passes where its tests do and the moves have room
pub enough_passes : (s log : List ℕ) (tests : Checked) (enough : ℕ) → tests ≡ Ok tt → EnoughMoves s enough → enough * move_size ≤ length log
    → run_tests tests (freely_reduced_words s) (room_for log) ≡ Ok tt
enough_passes s log tests enough fine ended room =
    let few : enough ≤ room_for log = omega arith in
    let stop : stopped (run_words s (room_for log)) ≡ true =
    none-stopped (run_words s (room_for log)) (ap (next bytes) (run_ended bytes enough (room_for log) (freely_reduced_words s) ended few) ∙ ended) in
    rw (fine, stop)

-- a verdict on a run, or 13 where it did not come to its end
verdict_stopped : (b : Bool) (v : Verdict) (S : List (List ℕ)) (n : ℕ) → refusal_number v ≡ 0
    → (refusal_number (reduction_of (must b LogBufferShort 0) v S n).verdict ≡ 13) ↔ (b ≡ false)
verdict_stopped true v S n unrefused = (λ e. absurd (omega (arith, e, unrefused)), λ e. absurd (true≢false e))
verdict_stopped false v S n unrefused = (λ e. refl, λ e. refl)

-- a call that passed its tests gets 13 exactly where the moves are more than the log has room for, and the log holds the first of them
module _ (s log : List ℕ) (tests : Checked) (passed : tests ≡ Ok tt) (enough : ℕ) (ended : EnoughMoves s enough) where
  stopped_fit : (stopped (run_words s (room_for log)) ≡ false) ↔ (room_for log < length (run_moves s enough))
  stopped_fit = go (stopped (run_words s (room_for log))) refl
    where
      go : (b : Bool) → stopped (run_words s (room_for log)) ≡ b → (b ≡ false) ↔ (room_for log < length (run_moves s enough))
      go true e =
          let few = moves-over bytes enough (room_for log) (freely_reduced_words s) ended (stopped_none (run_words s (room_for log)) e) in
          (λ f. absurd (true≢false f), λ h. absurd (omega (arith, few, h)))
      go false e = (
        λ f. elim (dec_lt (room_for log) (length (run_moves s enough))) [
          | yes h ↦ h
          | no h ↦
              let fit = moves_fit bytes enough (room_for log) (freely_reduced_words s) ended (omega arith) in
              absurd (true≢false (sym (none-stopped (run_words s (room_for log)) fit) ∙ e))
        ],
        λ h. refl,
      )

  pub short_means : (v : Verdict) → refusal_number v ≡ 0 → (a : Reduction) (log' : List ℕ)
      → a ≡ reduction_of (run_tests tests (freely_reduced_words s) (room_for log)) v (freely_reduced_words s) (room_for log)
      → log' ≡ log_after tests (freely_reduced_words s) (room_for log) log → LogShort (logged_moves s enough) log log' a
  short_means v unrefused a log' answered logged =
      let told : a ≡ reduction_of (must (stopped (run_words s (room_for log))) LogBufferShort 0) v (freely_reduced_words s) (room_for log) =
      answered ∙ ap (λ (c : Checked). reduction_of (run_tests c (freely_reduced_words s) (room_for log)) v (freely_reduced_words s) (room_for log)) passed in
      let stops = verdict_stopped (stopped (run_words s (room_for log))) v (freely_reduced_words s) (room_for log) unrefused in
      let over : refusal_number a.verdict ≡ 13 → room_for log < length (run_moves s enough) =
      λ e. stopped_fit.0 (stops.0 (rw told at e)) in
      let first : run_moves s (room_for log) ≡ take (room_for log) (run_moves s enough) =
      moves-first bytes enough (room_for log) (freely_reduced_words s) ended in
      let same : length (logged_moves s enough) ≡ length (run_moves s enough) = logged_all-length (freely_reduced_words s) (run_moves s enough) in
      record {
        refused = (λ e. rw same (over e), λ h. rw told (stops.1 (stopped_fit.1 (rw same at h))));
        first_that_fit =
            λ e.
            let count : length (run_moves s (room_for log)) ≡ room_for log = ap length first ∙ length-take-le (room_for log) (run_moves s enough) (omega (arith, over e)) in
            ap (λ (k : ℕ). take (k * move_size) log') (sym count) ∙ log_holds s log log' tests passed logged
            ∙ ap log_of (ap (logged_all (freely_reduced_words s)) first ∙ logged_all_first (room_for log) (freely_reduced_words s) (run_moves s enough));
      }

-- a run whose tests have numbers below 13, and whose log has room for the most moves, does not get 13
never_short : (s log : List ℕ) (tests : Checked) → NumberedTo 12 tests → (v : Verdict) → refusal_number v ≡ 0 → (most : ℕ)
    → (tests ≡ Ok tt → most_moves_on s ≤ most) → most * move_size ≤ length log
    → refusal_number (reduction_of (run_tests tests (freely_reduced_words s) (room_for log)) v (freely_reduced_words s) (room_for log)).verdict ≡ 13
    → ⊥
never_short s log (Ok _) few v unrefused most within room e =
    let fits : most_moves_on s * move_size ≤ length log = omega (arith, within refl) in
    let passed = enough_passes s log (Ok tt) (most_moves_on s) refl (most_moves_enough s) fits in
    omega (arith, unrefused, rw passed at e)
never_short s log (Err f) few v unrefused most within room e = omega (arith, few, e)

-- so the moves are bounded, whatever the verdict
pub bounded_moves : (s log : List ℕ) (tests : Checked) (v : Verdict) → refusal_number v ≡ 0 → NumberedTo 12 tests
    → (tests ≡ Ok tt → system_rules s ≡ Ok tt) → (a : Reduction)
    → a ≡ reduction_of (run_tests tests (freely_reduced_words s) (room_for log)) v (freely_reduced_words s) (room_for log) → Bounded s log a
bounded_moves s log tests v unrefused few system a answered =
    record {
      never_more = moves_never_more s;
      enough = most_moves_enough s;
      largest = largest_bound;
      none_larger = none_larger s;
      never_13 = λ room e. never_short s log tests few v unrefused (most_moves_on s) (λ passed. omega arith) room (rw answered at e);
      never_13_on_any =
          λ room e.
          never_short s log tests few v unrefused most_moves_on_any (λ passed. none_larger s (system passed)) room (rw answered at e);
    }

-- reduce: a call that is done has passed its tests
reduction_fine : (c : Checked) (S : List (List ℕ)) (n : ℕ) → (reduction_of c Done S n).verdict ≡ Done → c ≡ Ok tt
reduction_fine (Ok _) S n e = refl
reduction_fine (Err f) S n e = let z : ◌≡◌ {A = ℕ} 0 1 = cc in absurd (omega arith)

-- the answer of reduce and what it wrote into the two buffers mean what is demanded of them
pub reduce_means : (s words log : List ℕ) (a : Reduction) (words' log' : List ℕ) → a ≡ reduce_answer s words log
    → words' ≡ reduce_words s words log → log' ≡ reduce_log s words log → ReduceMeans s words log a words' log'
unfolding system_room
reduce_means s words log a words' log' answered wrote logged =
    record {
      bounded =
          bounded_moves s log (system_room s (length words)) Done refl
          (then_numbered 12 (system_rules s) (word_room (slots s * 64) (length words)) (omega (arith, system_numbered s))
          (omega (arith, room_numbered (slots s * 64) (length words))))
          (fine_first (system_rules s) (word_room (slots s * 64) (length words))) a answered;
      done =
          λ system fits enough ended room.
          ap (λ (r : Reduction). r.verdict) (answered
          ∙ ap (λ (c : Checked). reduction_of c Done (freely_reduced_words s) (room_for log))
          (enough_passes s log (system_room s (length words)) enough (rw (system, room_fits (slots s * 64) (length words) fits)) ended room));
      log_short =
          λ system fits enough ended.
          short_means s log (system_room s (length words)) (rw (system, room_fits (slots s * 64) (length words) fits)) enough ended Done refl a log' answered logged;
      reduces =
          λ done.
          let passed = reduction_fine (reduce_tests s words log) (freely_reduced_words s) (room_for log) (rw answered at done) in
          let tests = ran_tests s log (system_room s (length words)) passed in
          ran_reduces s log (system_room s (length words)) passed (fine_first (system_rules s) _ tests) Done a words words' log' answered wrote logged;
    }
