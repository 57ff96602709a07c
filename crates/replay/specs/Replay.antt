-- Replay: "a system and anybody's log in, the system after it out. The words are freely reduced first, and so is each result; a blank slot
-- counts as the empty word. Backward undoes the last move first."
use Rattle.std.specs.Prelude.{ℕ, ◌+◌, ◌-◌, ◌*◌, ◌/◌, Bool, cond, List, length, take, drop, eqb, leb}
use Rattle.words.specs.Alphabet.{bytes}
use Rattle.systems.specs.Moves.{undo, moved_word, made_all, undone_all}
use Rattle.systems.specs.declared.Move.{Move}
use Rattle.slots.specs.Systems.{slots, bytes_of, freely_reduced_words}
use Rattle.words.specs.Buffers.{written}
use Rattle.records.specs.Answers.{answer_of, on_fine}
use Rattle.records.specs.declared.answers.Answer.{Answer}
use Rattle.records.specs.Refusals.{must, ◌and_then◌, each_below}
use Rattle.slots.specs.Refusals.{system_rules, word_room}
use Rattle.moves.specs.Logs.{move_size, logged_at, moves_in, log_rules}
use Rattle.moves.specs.declared.log.Logged.{Logged}
use Rattle.systems.specs.Products.{word}
use Rattle.records.specs.declared.refusals.Reason.TheVariants.{LengthDiffers, WordTooLong}
use Rattle.records.specs.Refusals.{Checked}

-- the moves run one way or the other: the system after them
abbrev pub replayed : Bool → List (List ℕ) → List Move → List (List ℕ)
replayed backward S ms = cond backward (undone_all bytes S ms) (made_all bytes S ms)

-- the moves run before turn d, the turns counted from 0: forward the first of the log, backward its last
abbrev pub ran_before : Bool → List Move → ℕ → List Move
ran_before backward ms d = cond backward (drop (length ms - d) ms) (take d ms)

-- where in a log of so many moves the move of turn d stands, counted from 0
abbrev pub place_at : Bool → ℕ → ℕ → ℕ
place_at backward count d = cond backward (count - 1 - d) d

-- the move that is made then
abbrev pub directed : Bool → Move → Move
directed backward m = cond backward (undo m) m

-- the word that a move makes fits a record
abbrev pub fits : List (List ℕ) → Move → Bool
fits S m = leb (length (moved_word bytes S m)) 63

-- the word after the move that a log record tells of: "forward with the new word's, backward with that of the slot's word before the
-- undoing"
abbrev pub word_after : Bool → List (List ℕ) → Move → List ℕ
word_after backward S m = cond backward (word bytes S m.changed) (moved_word bytes S m)

-- 12. "A move in replay .. freely reduces to more than 63 letters", its place being "the move's number in the log, the log's first being 1
-- whichever way it is run". Then 22, with the same number. "In replay the length in a log record is not that of the changed word after its
-- move".
abbrev pub move_rules : Bool → List (List ℕ) → Logged → ℕ → Checked
move_rules backward S l number =
    let m : Move = directed backward l.made in
    must (fits S m) WordTooLong number and_then must (eqb l.new_length (length (word_after backward S m))) LengthDiffers number

-- so in turn d
unfoldable pub turn_rule : Bool → List (List ℕ) → List ℕ → ℕ → Checked
turn_rule backward S log d =
    let place : ℕ = place_at backward (length log / move_size) d in
    move_rules backward (replayed backward S (ran_before backward (moves_in log) d)) (logged_at log place) (place + 1)

-- on all turns
abbrev pub run_rules : Bool → List (List ℕ) → List ℕ → Checked
run_rules backward S log = each_below (turn_rule backward S log) (length log / move_size)

-- refusals 1 to 5, 7, 8 and 10
unfoldable pub replay_tests : List ℕ → List ℕ → ℕ → Checked
replay_tests s log room = system_rules s and_then log_rules (slots s) log and_then word_room (slots s * 64) room

-- and then 12 and 22
unfoldable pub replay_rules : List ℕ → List ℕ → Bool → ℕ → Checked
replay_rules s log backward room = replay_tests s log room and_then run_rules backward (freely_reduced_words s) log

abbrev pub replay_answer : List ℕ → List ℕ → Bool → List ℕ → Answer
replay_answer s log backward buffer = answer_of (replay_rules s log backward (length buffer))

abbrev pub replay_buffer : List ℕ → List ℕ → Bool → List ℕ → List ℕ
replay_buffer s log backward buffer =
    on_fine (replay_rules s log backward (length buffer)) (written (bytes_of (replayed backward (freely_reduced_words s) (moves_in log))) buffer) buffer
