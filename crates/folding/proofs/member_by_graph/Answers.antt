-- `folding::member_by_graph` meets its contract.
use Rattle.std.proofs.Common.{length-take-le, rules}
use Rattle.folding.proofs.Starting.{laid_among, told_by_graph}
use Rattle.folding.proofs.member_by_graph.Goals as goal

pub trace-requires-clause-edges : goal.trace-requires-clause-edges
trace-requires-clause-edges c =
    laid_among c.args.system.now c.requires.system c.lay-laid.ensures.edges (search (length-take-le, rules))

pub trace-requires-else-laid-le-FEW_POINTS-clause-edges : goal.trace-requires-else-laid-le-FEW_POINTS-clause-edges
trace-requires-else-laid-le-FEW_POINTS-clause-edges c =
    laid_among c.args.system.now c.requires.system c.lay-laid.ensures.edges (search (length-take-le, rules))

pub returns-then-laid-le-FEW_POINTS : goal.returns-then-laid-le-FEW_POINTS
returns-then-laid-le-FEW_POINTS c = search (told_by_graph, rules)

pub returns-else-laid-le-FEW_POINTS : goal.returns-else-laid-le-FEW_POINTS
returns-else-laid-le-FEW_POINTS c = search (told_by_graph, rules)
