-- Why a system is refused: refusals 1 to 5 over its records, of which 2 is tested first, and 10 for the room of an output.
use Rattle.std.specs.Prelude.{◌%◌, ◌*◌, ℕ, List, eqb, leb, length}
use Rattle.records.specs.Refusals.{◌and_then◌, each_below, must, record_rules}
use Rattle.slots.specs.Systems.{record_at, slots}
use Rattle.records.specs.declared.refusals.Reason.TheVariants.{SystemTooLong, SystemUneven, WordsBufferShort}
use Rattle.records.specs.Refusals.{Checked}

-- rules 3 to 5 on the record in a slot
abbrev pub slot_rules : List ℕ → ℕ → Checked
slot_rules s k = record_rules (record_at s k) (k * 64)

-- 2. "The system has more than 1,024 bytes, those of 16 records." Then 1. "The system's length is not a multiple of 64." Then "Rules 3 to 5
-- are tried record by record".
unfoldable pub system_rules : List ℕ → Checked
system_rules s = must (leb (length s) 1024) SystemTooLong 0 and_then must (eqb (length s % 64) 0) SystemUneven 0 and_then each_below (slot_rules s) (slots s)

-- 10. "The words buffer is shorter than the output (64 times the records; 64 for multiply)."
unfoldable pub word_room : ℕ → ℕ → Checked
word_room output room = must (leb output room) WordsBufferShort 0

-- the tests of a system and of room for its words: refusals 1 to 5, then 10
unfoldable pub system_room : List ℕ → ℕ → Checked
system_room s room = system_rules s and_then word_room (slots s * 64) room
