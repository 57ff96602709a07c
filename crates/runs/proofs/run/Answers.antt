-- `runs::run` meets its contract. The invariant: where the run stands.
use borrow.Author.Rules.{rules}
use Rattle.std.proofs.Common.{length, ap, sym, ◌∙◌, ℕ, List}
use Rattle.words.specs.Alphabet.{bytes}
use Rattle.systems.specs.Moves.{made}
use Rattle.systems.specs.Products.{word}
use Rattle.systems.specs.Rules.{next}
use Rattle.systems.proofs.Finding.{found_move}
use Rattle.runs.specs.Runs.{room_for}
use Rattle.runs.proofs.Running.{full_cut, full_ended, came_ended, came_log, came_words, same_ended, standing_begin, standing_turn, turn_logged}
use Rattle.runs.proofs.run.Goals as goal

pub loop-used-init : goal.loop-used-init
loop-used-init c = (search rules, search (standing_begin, rules))

pub loop-used-preserved : goal.loop-used-preserved
loop-used-preserved c =
    let more = sym c.in-Some.ensures.found.found in
    let turned = c.advance.ensures ∙ ap (λ (T : List (List ℕ)). made bytes T c.in-Some.found.next) c.find_move.ensures.same in
    let below = c.in-Some.ensures.found.below in
    let words = c.words.ensures ∙ c.system.ensures.system in
    let counted = ap length (c.word.ensures.word ∙ ap (λ (T : List (List ℕ)). word bytes T c.in-Some.found.next.changed) words) in
    let told = turn_logged _ _ _ _ _ c.loop-used.invariant.1 c.in-Some.found more _ _ below turned counted in
    (search rules, standing_turn _ _ _ _ _ c.loop-used.invariant.1 c.in-Some.found more _ _ _ turned told c.write_move.ensures)

pub advance-requires : goal.advance-requires
advance-requires c = ap (next bytes) c.find_move.ensures.same ∙ found_move bytes _ c.in-Some.found (sym c.in-Some.ensures.found.found)

-- nothing more is found
pub returns-in_default : goal.returns-in_default
returns-in_default c =
    let standing = c.loop-used.invariant.1 in
    let room = room_for c.args.log.now in
    let nothing = sym c.in_default.ensures.found.found in
    let same = same_ended _ _ _ _ _ standing room nothing c.loop-used.auto.used-end in
    record {
      moves = came_ended _ _ _ _ _ standing room same nothing;
      words = c.find_move.ensures.same ∙ came_words _ _ _ _ _ standing room same;
      log = came_log _ _ _ _ _ standing room same;
    }

-- the log is full: what is found then says whether the run has come to its end
pub returns-in-None-clause-moves : goal.returns-in-None-clause-moves
returns-in-None-clause-moves c =
    full_ended _ _ _ _ _ c.loop-used.invariant.1 _ c.loop-used.auto.used-end c.loop-used-test.false (sym c.in-None.ensures.found.found)

pub returns-in-Some-find_move-clause-moves : goal.returns-in-Some-find_move-clause-moves
returns-in-Some-find_move-clause-moves c =
    full_cut _ _ _ _ _ c.loop-used.invariant.1 _ c.loop-used.auto.used-end c.loop-used-test.false _ (sym c.in-Some-find_move.ensures.found.found)
