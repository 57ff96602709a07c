-- `folding::trace` meets its contract.
use Rattle.std.proofs.Common.{rules, ℕ, replicate}
use Rattle.std.proofs.lemmas.List.{length-replicate}
use Rattle.folding.proofs.Starting.{start_folding, zeros_empty}
use Rattle.folding.proofs.Tracing.{traced_in}
use Rattle.folding.proofs.trace.Goals as goal

pub fold-requires : goal.fold-requires
fold-requires g c =
    start_folding c.args.edges.now c.number_points.new.points (replicate g.row.ROOM 0) (rw (c.number_points.auto.points) c.requires.edges)
    (rw (c.number_points.auto.points) c.requires.points.1) c.number_points.ensures
    (rw (c.number_points.auto.points, length-replicate {A = ℕ} g.row.ROOM 0) c.requires.room.0) (zeros_empty g.row.ROOM)

pub returns : goal.returns
returns c = search (traced_in, rules)
