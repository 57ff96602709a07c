-- `subgroups::main` meets its contract.
use Prim.Native.Nat.{◌≤◌}
use borrow.Author.Rules.{rules}
use Rattle.subgroups.proofs.Cases.{never_unprinted, whole_inside}
use Rattle.subgroups.proofs.main.Goals as goal

pub unreachable-requires : goal.unreachable-requires
unreachable-requires c = never_unprinted _ _ _ _ c.print.ensures.means c.read_input.ensures.some_input (search rules) (search rules) c.in_default.is

pub slice_bounds-out-end : goal.slice_bounds-out-end
slice_bounds-out-end c =
    let inside : c.in-Ok.n ≤ 66704 = whole_inside _ _ _ _ c.print.ensures.means c.read_input.ensures.some_input (search rules) (search rules) _ c.in-Ok.is in
    search rules

pub slice_bounds-write_output-end : goal.slice_bounds-write_output-end
slice_bounds-write_output-end c =
    let inside : c.in-Ok.n ≤ 66704 = whole_inside _ _ _ _ c.print.ensures.means c.read_input.ensures.some_input (search rules) (search rules) _ c.in-Ok.is in
    search rules
