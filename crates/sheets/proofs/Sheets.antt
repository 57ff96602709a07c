-- Every worked sheet with a label holds, by computation.
use mathlib.Core.Path.{refl}
use Rattle.words.specs.Alphabet.{flip_byte}
use Rattle.words.specs.Words.{inverse}
use Rattle.systems.specs.Rules.{half_end, next, rule_of, shortening}
use Rattle.records.specs.Refusals.{letters_rule, record_rules, target_rules}
use Rattle.slots.specs.Refusals.{system_rules, word_room, system_room}
use Rattle.slots.specs.Systems.{freely_reduced_words}
use Rattle.systems.specs.Factoring.{leading}
use Rattle.moves.specs.Logs.{log_rules, move_rule}
use Rattle.replay.specs.Replay.{replay_rules, replay_tests, turn_rule}
use Rattle.asking.specs.Asking.{question_rules, ready_rules}
use Rattle.membership.specs.Membership.{member_tests}
use Rattle.syntax.specs.Parse.{tree_of}
use Rattle.syntax.specs.Rules.{fits, text_rules}
use Rattle.syntax.specs.Scan.{shape_rule}
use Rattle.syntax.specs.WordTexts.{text_of}
use Rattle.text.specs.Read.{read_rules, read_tests, text_word}
use Rattle.text.specs.Write.{write_rules}
use Rattle.numbers.specs.Calls.{as_letters, as_numbers, tidied_numbers}
use Rattle.numbers.specs.Numbers.{flip_number, letter_number, number_letter}
use Rattle.numbers.specs.Refusals.{letters_room, numbers_room, numbers_rules, numbers_system_rules}
use Rattle.graphs.specs.Folding.{first_fold, first_to, folded_within, traces_back, walk}
use Rattle.tracing.specs.Tracing.{trace_tests}
use Rattle.lines.specs.Lines.{first_line, refusal_line}
use Rattle.output.specs.Output.{answer_output, input_rules, program_log, program_product, program_output, program_words}
use Rattle.lines.specs.Text.{decimal}
use Rattle.sheets.specs.Sheets.{EachSays, sheets}

-- what one sheet says, and what the rest say
infixr 20 ◌and◌
◌and◌ : {A B : Type 0} → A → B → A × B
a and b = (a, b)

pub sheets_hold : EachSays sheets
unfolding flip_byte inverse tree_of text_rules shape_rule fits text_word read_tests read_rules write_rules text_of shortening half_end next rule_of move_rule log_rules turn_rule replay_tests replay_rules leading record_rules letters_rule system_rules word_room freely_reduced_words system_room target_rules question_rules ready_rules member_tests flip_number letter_number number_letter numbers_rules letters_room numbers_system_rules numbers_room as_numbers as_letters tidied_numbers first_to walk traces_back first_fold folded_within trace_tests decimal refusal_line first_line input_rules program_words program_log program_product answer_output program_output
sheets_hold =
    (refl, refl)
    and (refl, refl)
    and ((refl, refl, refl), (refl, refl, refl, refl))
    and ((refl, refl, refl), (refl, refl, refl, refl))
    and ((refl, refl, refl), (refl, refl, refl, refl))
    and ((refl, refl, refl), (refl, refl, refl, refl))
    and ((refl, refl, refl), (refl, refl, refl, refl))
    and ((refl, refl, refl), (refl, refl, refl, refl))
    and ((refl, refl, refl), (refl, refl, refl, refl))
    and ((refl, refl, refl), (refl, refl, refl, refl))
    and ((refl, refl, refl), (refl, refl, refl, refl))
    and (refl, refl, refl)
    and (refl, refl, refl)
    and (refl, refl, refl)
    and (refl, refl, refl)
    and (refl, refl)
    and (refl, refl)
    and (refl, refl)
    and (refl, refl)
    and (refl, refl)
    and (refl, refl)
    and (refl, refl)
    and (refl, refl)
    and (refl, refl)
    and (refl, refl)
    and (refl, refl)
    and (refl, refl)
    and (refl, refl)
    and (refl, refl)
    and (refl, refl)
    and (λ s buffer e. rw e (refl, refl))
    and (λ s buffer e. rw e (refl, refl))
    and (λ s buffer e. rw e (refl, refl))
    and (λ input e. rw e refl)
    and (λ input e. rw e refl)
    and (refl, refl)
    and (refl, refl)
    and (refl, refl)
    and (refl, refl)
    and (refl, refl)
    and (refl, refl)
    and (refl, refl)
    and (refl, refl)
    and (refl, refl)
    and (refl, refl)
    and (refl, refl)
    and (refl, refl)
    and (refl, refl)
    and (refl, refl)
    and (refl, refl)
    and (refl, refl)
    and (refl, refl)
    and (λ text buffer e. rw e (refl, refl))
    and (refl, refl)
    and (refl, refl)
    and (refl, refl)
    and (refl, refl)
    and (refl, refl, refl, refl)
    and (refl, refl)
    and (refl, refl)
    and (refl, refl)
    and (refl, refl)
    and (refl, refl)
    and (refl, refl)
    and (refl, refl)
    and (refl, refl)
    and (refl, refl)
    and (refl, refl)
    and (λ numbers buffer e. rw e (refl, refl))
    and (λ numbers buffer e. rw e (refl, refl))
    and refl
    and refl
    and refl
    and refl
    and refl
    and refl
    and refl
    and refl
    and refl
    and refl
    and refl
    and refl
    and refl
    and refl
    and refl
    and refl
    and tt
