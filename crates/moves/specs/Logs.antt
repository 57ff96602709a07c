-- Log records: "One move in a log is 8 bytes: slot changed, form digit, other slot, space, s for a shortening or h for a half-end move, the
-- changed word's new length as two digits, line feed."
use Rattle.std.specs.Prelude.{◌%◌, ◌*◌, ◌+◌, ◌-◌, ◌/◌, ℕ, Bool, ◌&&◌, ◌||◌, cond, not, List, [], ◌++◌, ◌∷◌, eqb, leb, ltb, get_or, length, None, Option, Some}
use Rattle.std.specs.Char.{is_ascii_digit}
use Rattle.words.specs.Alphabet.{bytes}
use Rattle.words.specs.Below.{below}
use Rattle.systems.specs.declared.Move.{Move}
use Rattle.systems.specs.declared.Rule.{Rule}
use Rattle.systems.specs.declared.Rule.TheVariants.{HalfEnd, Shortening}
use Rattle.systems.specs.Moves.{form_digit, made, moved_word}
use Rattle.systems.specs.Rules.{form_at, rule_letter, rule_of}
use Rattle.records.specs.Refusals.{Checked, ◌and_then◌, each_below, must}
use Rattle.records.specs.declared.refusals.Reason.TheVariants.{LogRecordMalformed, LogUneven}
use Rattle.moves.specs.declared.log.Logged.{Logged}

-- how many bytes a log record has
abbrev pub move_size : ℕ
move_size = 8

-- a move made on the words S as it is logged: with the rule of the next move on S, and "the changed word's new length"
abbrev pub logged : List (List ℕ) → Move → Logged
logged S m = record { made = m; rule = rule_of bytes S; new_length = length (moved_word bytes S m) }

-- so the moves of a run over S, one after the other
abbrev pub logged_all : List (List ℕ) → List Move → List Logged
logged_all S [] = []
logged_all S (m ∷ ms) = logged S m ∷ logged_all (made bytes S m) ms

-- the log record of a move; slots are named a to p
abbrev pub log_record : Logged → List ℕ
log_record l =
    (97 + l.made.changed) ∷ form_digit l.made.form ∷ (97 + l.made.other) ∷ 32 ∷ rule_letter l.rule
    ∷ (48 + l.new_length / 10) ∷ (48 + l.new_length % 10) ∷ 10 ∷ []

-- the log of a list of moves
abbrev pub log_of : List Logged → List ℕ
log_of [] = []
log_of (l ∷ ls) = log_record l ++ log_of ls

-- the move in a log record, the records counted from 0
abbrev pub move_at : List ℕ → ℕ → Move
move_at log j =
    record {
      changed = get_or log (j * move_size) 0 - 97;
      form = form_at (get_or log (j * move_size + 1) 0 - 49);
      other = get_or log (j * move_size + 2) 0 - 97;
    }

-- the rule that a letter names, which is s or h
abbrev pub named_rule : ℕ → Rule
named_rule letter = cond (eqb letter (rule_letter Shortening)) Shortening HalfEnd

-- the number that two digits stand for
abbrev pub number_in : ℕ → ℕ → ℕ
number_in tens ones = (tens - 48) * 10 + (ones - 48)

-- the length in a log record
abbrev pub length_at : List ℕ → ℕ → ℕ
length_at log j = number_in (get_or log (j * move_size + 5) 0) (get_or log (j * move_size + 6) 0)

-- all that is in a log record
abbrev pub logged_at : List ℕ → ℕ → Logged
logged_at log j = record { made = move_at log j; rule = named_rule (get_or log (j * move_size + 4) 0); new_length = length_at log j }

-- the moves in a log
abbrev pub moves_in : List ℕ → List Move
moves_in log = below (move_at log) (length log / move_size)

-- a byte names one of the first n slots
abbrev pub names_slot : ℕ → ℕ → Bool
names_slot n b = leb 97 b && ltb (b - 97) n

-- a byte is the letter of a rule
abbrev pub is_rule : ℕ → Bool
is_rule b = eqb b (rule_letter Shortening) || eqb b (rule_letter HalfEnd)

-- "slot letter, digit 1 to 4, slot letter, space, s or h, two digits, line feed, with two different slots that the system has"
abbrev pub is_move : ℕ → List ℕ → ℕ → Bool
is_move n log j =
    names_slot n (get_or log (j * move_size) 0)
    && (leb 49 (get_or log (j * move_size + 1) 0) && leb (get_or log (j * move_size + 1) 0) 52)
    && names_slot n (get_or log (j * move_size + 2) 0)
    && eqb (get_or log (j * move_size + 3) 0) 32
    && is_rule (get_or log (j * move_size + 4) 0)
    && (is_ascii_digit (get_or log (j * move_size + 5) 0) && is_ascii_digit (get_or log (j * move_size + 6) 0))
    && eqb (get_or log (j * move_size + 7) 0) 10
    && not (eqb (get_or log (j * move_size) 0) (get_or log (j * move_size + 2) 0))

-- what a log record says, if it is a move over n slots
abbrev pub read_move : ℕ → List ℕ → Option Logged
read_move n bytes = cond (is_move n bytes 0) (Some (logged_at bytes 0)) None

-- 8, on a log record of a log over n slots
unfoldable pub move_rule : ℕ → List ℕ → ℕ → Checked
move_rule n log j = must (is_move n log j) LogRecordMalformed (j * move_size)

-- 7. "The log to replay has a length that is not a multiple of 8." Then 8.
unfoldable pub log_rules : ℕ → List ℕ → Checked
log_rules n log = must (eqb (length log % move_size) 0) LogUneven 0 and_then each_below (move_rule n log) (length log / move_size)
