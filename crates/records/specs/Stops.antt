-- What is tested after the letters of a record. No call's contract speaks of it.
use Rattle.std.specs.Prelude.{ℕ, List}
use Rattle.records.specs.Records.{not_letter}
use Rattle.records.specs.Refusals.{◌and_then◌, byte_rule, each_byte}
use Rattle.records.specs.declared.refusals.Reason.TheVariants.{LetterAfterStop}
use Rattle.records.specs.Refusals.{Checked}

-- 4, and then 5 where a letter is left
unfoldable pub stops_rule : List ℕ → ℕ → Checked
stops_rule r at = byte_rule r at and_then each_byte not_letter LetterAfterStop r at
