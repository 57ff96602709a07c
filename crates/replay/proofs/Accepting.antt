-- Which runs are not refused: the log passes its tests, each word on the way has at most 63 letters, and each log record has the length of
-- its word. And that no run looks at the letters s and h.
use Prim.Native.Nat.{◌*◌, ◌+◌, ◌-◌, ◌/◌, ◌<◌, ◌≤◌, ℕ}
use mathlib.Core.Bool.{Bool, false, true}
use mathlib.Core.List.{List, []}
use mathlib.Core.Path.{◌∙◌, ◌≡◌, ap, ap₂, refl, sym}
use native.Mathlib.Omega.{arith}
use lib.ListN.{drop, length, take}
use borrow.Author.Tests.{eq-eqb, le-leb}
use Rattle.words.specs.Alphabet.{bytes}
use Rattle.systems.specs.Moves.{made, made_all, moved_word, undone_all}
use Rattle.systems.specs.declared.Move.{Move}
use Rattle.systems.specs.declared.Rule.TheVariants.{Shortening}
use Rattle.systems.proofs.Undoing.{made-changed, made_all-length}
use Rattle.records.proofs.Chains.{each_passes}
use Rattle.slots.specs.Refusals.{system_rules}
use Rattle.slots.specs.Systems.{AllShort, bytes_of, freely_reduced_words, slots}
use Rattle.slots.proofs.Systems.{room_fits}
use Rattle.moves.specs.Logs.{logged_all, length_at, log_of, log_rules, move_at, move_size, moves_in}
use Rattle.moves.specs.declared.log.Logged.{Logged}
use Rattle.moves.proofs.LogOfMoves.{record_logged, logged_all-length, log_of-moves}
use Rattle.moves.proofs.LogBack.{log_of-length}
use Rattle.systems.specs.Products.{word}
use Rattle.moves.proofs.Logging.{passed_move, move_inside}
use Rattle.replay.specs.Replay.{directed, fits, move_rules, place_at, ran_before, replay_answer, replay_buffer, replay_rules, replay_tests, replayed, run_rules, turn_rule, word_after}
use Rattle.replay.proofs.Running.{place_inside, turn_length, turn_next}
use Rattle.words.specs.Below.{below}
use Rattle.words.specs.Buffers.{written}
use Rattle.records.specs.Answers.{answer_of, on_fine}
use Rattle.records.specs.Refusals.{Checked, each_below}
use Rattle.std.specs.Prelude.{Ok}

-- a move fits when the words after it do
short-fits : (S : List (List ℕ)) (m : Move) → m.changed < length S → AllShort (made bytes S m) → fits S m ≡ true
short-fits S m inside short = le-leb (length (moved_word bytes S m)) 63 (rw (made-changed bytes S m inside) at (short m.changed))

-- the move of a turn changes the slot that the log names
directed-changed : (backward : Bool) (m : Move) → (directed backward m).changed ≡ m.changed
directed-changed true m = refl
directed-changed false m = refl

-- the log record of a turn has the length of the word after its move
abbrev pub TellsLength : Bool → List (List ℕ) → List ℕ → ℕ → Type 0
TellsLength backward S log d =
    let place : ℕ = place_at backward (length log / move_size) d in
    length_at log place ≡ length (word_after backward (replayed backward S (ran_before backward (moves_in log) d)) (directed backward (move_at log place)))

-- a log that passes its tests, short words after each of its moves, and the lengths of these words in it
pub run_accepts : (backward : Bool) (S : List (List ℕ)) (log : List ℕ) → log_rules (length S) log ≡ Ok tt
    → ((d : ℕ) → AllShort (replayed backward S (ran_before backward (moves_in log) d)))
    → ((d : ℕ) → d < length log / move_size → TellsLength backward S log d) → run_rules backward S log ≡ Ok tt
unfolding turn_rule
run_accepts backward S log logged short told = each_passes (turn_rule backward S log) (length log / move_size) (λ d h.
    let place : ℕ = place_at backward (length log / move_size) d in
    let before : List (List ℕ) = replayed backward S (ran_before backward (moves_in log) d) in
    let m : Move = directed backward (move_at log place) in
    let named : (move_at log place).changed < length S =
    move_inside (length S) log place (passed_move (length S) log logged place (place_inside backward (length log / move_size) d h)) in
    let inside : m.changed < length before =
    rw (turn_length log S backward (ran_before backward (moves_in log) d), directed-changed backward (move_at log place)) named in
    let fit : fits before m ≡ true = short-fits before m inside (rw (turn_next log S backward d h) at (short (d + 1))) in
    let same = eq-eqb _ _ (told d h) in
    rw (fit, same) refl)

-- the log of moves made on the words S has these lengths: forward from S, and backward from the words that the moves leave, where undoing
-- them leads through the words of the way there
module _ (S : List (List ℕ)) (ms : List Move) where
  abbrev their_log : List ℕ
  their_log = log_of (logged_all S ms)

  moves-count : length their_log / move_size ≡ length ms
  moves-count = omega (arith, log_of-length (logged_all S ms), logged_all-length S ms)

  record_length : (j : ℕ) → j < length their_log / move_size
      → length_at their_log j ≡ length (moved_word bytes (made_all bytes S (take j ms)) (move_at their_log j))
  record_length j h = ap (λ (l : Logged). l.new_length) (record_logged S ms j (omega (arith, h, moves-count)) (move_at [] 0))

  pub tells_forward : (d : ℕ) → d < length their_log / move_size → TellsLength false S their_log d
  tells_forward d h =
      record_length d h ∙ ap (λ (ns : List Move). length (moved_word bytes (made_all bytes S (take d ns)) (move_at their_log d))) (sym (log_of-moves S ms))

  pub tells_backward : log_rules (length S) their_log ≡ Ok tt
      → ((i : ℕ) → undone_all bytes (made_all bytes S ms) (drop i ms) ≡ made_all bytes S (take i ms))
      → (d : ℕ) → d < length their_log / move_size → TellsLength true (made_all bytes S ms) their_log d
  tells_backward passed way d h =
      let p : ℕ = length their_log / move_size - 1 - d in
      let m : Move = move_at their_log p in
      let before : List (List ℕ) = made_all bytes S (take p ms) in
      let inside : p < length their_log / move_size = omega arith in
      let named : m.changed < length before =
      rw (made_all-length bytes S (take p ms)) (move_inside (length S) their_log p (passed_move (length S) their_log passed p inside)) in
      let next : made_all bytes S (take (p + 1) ms) ≡ made bytes before m = rw (log_of-moves S ms) at (turn_next their_log S false p inside) in
      let place : length ms - d ≡ p + 1 = omega (arith, moves-count) in
      let undone : undone_all bytes (made_all bytes S ms) (drop (length (moves_in their_log) - d) (moves_in their_log)) ≡ made bytes before m =
      ap (λ (ns : List Move). undone_all bytes (made_all bytes S ms) (drop (length ns - d) ns)) (log_of-moves S ms)
      ∙ ap (λ (i : ℕ). undone_all bytes (made_all bytes S ms) (drop i ms)) place ∙ way (p + 1) ∙ next in
      record_length p inside ∙ sym (ap length (ap (λ (T : List (List ℕ)). word bytes T m.changed) undone ∙ made-changed bytes before m named))

-- the whole call: a system and a log that pass, a buffer that is long enough, and a run that is not refused
pub replay_accepts : (s log : List ℕ) (way : Bool) (room : ℕ) → system_rules s ≡ Ok tt → log_rules (slots s) log ≡ Ok tt
    → slots s * 64 ≤ room → run_rules way (freely_reduced_words s) log ≡ Ok tt → replay_rules s log way room ≡ Ok tt
unfolding replay_rules replay_tests
replay_accepts s log way room system logged long ran = rw (system, logged, room_fits (slots s * 64) room long, ran)

-- two logs of the same moves and lengths, whatever their letters
module _ (log log' : List ℕ) (size : length log ≡ length log') (moves : (j : ℕ) → move_at log j ≡ move_at log' j)
    (lengths : (j : ℕ) → length_at log j ≡ length_at log' j) where
  moves_alike : moves_in log ≡ moves_in log'
  moves_alike = λ i. below (λ j. moves j i) (size i / move_size)

  turn_alike : (way : Bool) (S : List (List ℕ)) (d : ℕ) → turn_rule way S log d ≡ turn_rule way S log' d
  unfolding turn_rule
  turn_alike way S d = λ i.
      let place : ℕ = place_at way (size i / move_size) d in
      let told : Logged = record { made = moves place i; rule = Shortening; new_length = lengths place i } in
      move_rules way (replayed way S (ran_before way (moves_alike i) d)) told (place + 1)

  run_alike : (way : Bool) (S : List (List ℕ)) → run_rules way S log ≡ run_rules way S log'
  run_alike way S = λ i. each_below (λ d. turn_alike way S d i) (size i / move_size)

  rules_alike : (s : List ℕ) (way : Bool) (room : ℕ) → log_rules (slots s) log ≡ Ok tt → log_rules (slots s) log' ≡ Ok tt
      → replay_rules s log way room ≡ replay_rules s log' way room
  unfolding replay_rules replay_tests
  rules_alike s way room passed passed' = rw (passed, passed', run_alike way (freely_reduced_words s)) refl

  -- are replayed alike where both pass the tests of a log: the letter of a rule is not compared
  pub either_letter : (s : List ℕ) (way : Bool) (buffer : List ℕ) → log_rules (slots s) log ≡ Ok tt → log_rules (slots s) log' ≡ Ok tt
      → (replay_answer s log way buffer ≡ replay_answer s log' way buffer) × (replay_buffer s log way buffer ≡ replay_buffer s log' way buffer)
  either_letter s way buffer passed passed' =
      let rules = rules_alike s way (length buffer) passed passed' in (
        ap answer_of rules,
        ap₂ (λ (c : Checked) (ms : List Move). on_fine c (written (bytes_of (replayed way (freely_reduced_words s) ms)) buffer) buffer) rules moves_alike,
      )
