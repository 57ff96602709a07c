-- `replay::run` meets its contract. The invariant: no turn so far is refused, and the words held now are those after them.
use borrow.Author.Rules.{rules}
use Rattle.replay.proofs.Running.{turn_end, turn_fails, turn_makes, turn_move, turn_passes, turn_valid}
use Rattle.replay.proofs.run.Goals as goal

pub read_move-logged-requires : goal.read_move-logged-requires
read_move-logged-requires c = record {
  valid = turn_valid c.args.log.now c.args.system.now _ c.loop-done.done _ c.loop-done.invariant.1 _ c.as_chunks.ensures.front_len
      _ c.place_at-at.result _ _ c.requires.valid c.len.ensures.slots c.as_chunks.ensures.front c.place_at-at.ensures.inside;
}

pub returns-in_default-clause-rules : goal.returns-in_default-clause-rules
returns-in_default-clause-rules c =
    let read = turn_move c.args.log.now c.args.system.now _ c.loop-done.done _ c.loop-done.invariant.1 _ c.as_chunks.ensures.front_len _ c.place_at-at.result
    _ _ c.requires.valid c.len.ensures.slots c.as_chunks.ensures.front c.place_at-at.ensures.inside _ c.read_move-logged.ensures.read in
    search (turn_fails, rules)

pub loop-done-preserved : goal.loop-done-preserved
loop-done-preserved c =
    let read = turn_move c.args.log.now c.args.system.now _ c.loop-done.done _ c.loop-done.invariant.1 _ c.as_chunks.ensures.front_len _ c.place_at-at.result
    _ _ c.requires.valid c.len.ensures.slots c.as_chunks.ensures.front c.place_at-at.ensures.inside _ c.read_move-logged.ensures.read in
    (search (turn_passes, rules), search (turn_makes, rules))

pub returns-clause-words : goal.returns-clause-words
returns-clause-words c = (λ e. search (turn_end, rules))
