use Rattle.std.proofs.Common.{◌≡◌, drop}
use Rattle.records.specs.Refusals.{each_byte}
use Rattle.records.specs.declared.refusals.Reason.TheVariants.{SlotMissing}
use Rattle.multiply.specs.SlotLetters.{has_slot, slot_rule}
use Rattle.multiply.proofs.letters.check_slots.Given as goal

abbrev pub invariant-loop-i : goal.invariant-loop-i
invariant-loop-i l = slot_rule l.n l.product ≡ each_byte (has_slot l.n) SlotMissing (drop l.i l.letter-items) l.i
