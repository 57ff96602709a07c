-- `subgroups::reading::read_input` meets its contract.
use borrow.Author.Rules.{rules}
use Rattle.subgroups.proofs.Parts.{all_taken, part_taken, still_input}
use Rattle.subgroups.proofs.reading.read_input.Goals as goal

pub returns-then-got-eq0-clause-all_of_it : goal.returns-then-got-eq0-clause-all_of_it
returns-then-got-eq0-clause-all_of_it g c =
    let part = c.in_ok-got.ensures.part in
    all_taken (part_taken _ c.loop.invariant.taken part.0 c.in_ok-got.ensures.means) (part.1 (search rules) (search rules))

pub returns-then-got-eq0-clause-some_input : goal.returns-then-got-eq0-clause-some_input
returns-then-got-eq0-clause-some_input g c =
    still_input (part_taken _ c.loop.invariant.taken c.in_ok-got.ensures.part.0 c.in_ok-got.ensures.means)

pub returns-clause-some_input : goal.returns-clause-some_input
returns-clause-some_input g c = still_input c.loop.invariant.taken

pub loop-preserved : goal.loop-preserved
loop-preserved g c = record {
  same_buffer = search rules;
  room = search rules;
  taken = part_taken _ c.loop.invariant.taken c.in_ok-got.ensures.part.0 c.in_ok-got.ensures.means;
}
