-- Why a call is refused: the refusals of docs/REQUIREMENTS.md on a record; "the first refusal found ends the call at once".
use Rattle.std.specs.Prelude.{◌+◌, suc, zero, ℕ, Bool, cond, false, true, List, [], ◌∷◌, eqb, get_or, length, take}
use Rattle.records.specs.Records.{is_letter_or_stop, is_stop, not_letter}
use Rattle.records.specs.declared.refusals.Reason.TheVariants.{LetterAfterStop, NeitherLetterNorStop, NoLineFeed, TargetOrProductMalformed}
use Rattle.std.specs.Prelude.{Err, Ok, Result}
use Rattle.records.specs.declared.answers.Refusal.{Refusal}
use Rattle.records.specs.declared.refusals.Reason.{Reason}

-- what a test finds: nothing, or the refusal that ends the call
abbrev pub Checked : Type 0
Checked = Result Unit Refusal

-- a refusal with its reason and its place
abbrev pub refusal : Reason → ℕ → Checked
refusal why at = Err (record { reason = why; place = at })

-- what must hold, or else the refusal with this reason and place
abbrev pub must : Bool → Reason → ℕ → Checked
must true why at = Ok tt
must false why at = refusal why at

-- the first test that fails
infixr 20 ◌and_then◌
abbrev pub ◌and_then◌ : Checked → Checked → Checked
Ok _ and_then rest = rest
Err f and_then rest = Err f

-- the first of check 0, check 1, .. below n that fails
abbrev pub each_below : (ℕ → Checked) → ℕ → Checked
each_below check zero = Ok tt
each_below check (suc n) = each_below check n and_then check n

-- 3. "A record's byte 63 is not a line feed."
abbrev pub end_rule : List ℕ → ℕ → Checked
end_rule r at = must (eqb (get_or r 63 0) 10) NoLineFeed (at + 63)

-- each byte of a list must pass a test, or else the refusal with this reason at the first that does not
abbrev pub each_byte : (ℕ → Bool) → Reason → List ℕ → ℕ → Checked
each_byte test why [] at = Ok tt
each_byte test why (b ∷ r) at = must (test b) why at and_then each_byte test why r (at + 1)

-- 4. "One of a record's bytes 0 to 62 is neither a letter nor a full stop."
abbrev pub byte_rule : List ℕ → ℕ → Checked
byte_rule r at = each_byte is_letter_or_stop NeitherLetterNorStop r at

-- 5. "A letter stands after a full stop in a record."
abbrev pub order_rule : List ℕ → ℕ → Checked
order_rule [] at = Ok tt
order_rule (b ∷ r) at = cond (is_stop b) (each_byte not_letter LetterAfterStop r (at + 1)) (order_rule r (at + 1))

-- 4, then 5, on the bytes before the line feed
unfoldable pub letters_rule : List ℕ → ℕ → Checked
letters_rule r at = byte_rule r at and_then order_rule r at

-- rules 3 to 5 on a record whose first byte stands at a place of its buffer, "in this order within a record"
unfoldable pub record_rules : List ℕ → ℕ → Checked
record_rules r at = end_rule r at and_then letters_rule (take 63 r) at

-- a refusal of a record, as refusal 6
abbrev pub as_six : Checked → Checked
as_six (Ok _) = Ok tt
as_six (Err f) = refusal TargetOrProductMalformed f.place

-- 6. "The target or product is not 64 bytes long or breaks rule 3, 4 or 5."
unfoldable pub target_rules : List ℕ → Checked
target_rules r = must (eqb (length r) 64) TargetOrProductMalformed 0 and_then as_six (record_rules r 0)
