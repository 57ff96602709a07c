-- The call tidy: the room for what it writes.
use Rattle.std.proofs.Common.{ℕ, ◌*◌, ◌≤◌, ◌≡◌, List, length, ap, ◌∙◌, arith}
use Rattle.records.specs.Refusals.{Checked}
use Rattle.slots.specs.Refusals.{system_room}
use Rattle.slots.specs.Systems.{freely_reduced_words}
use Rattle.slots.proofs.RoundTrip.{words-length}
use Rattle.slots.proofs.Systems.{both_fits}
use Rattle.std.specs.Prelude.{Ok}

-- the words taken in from the records of a system
module _ (s : List ℕ) (S : List (List ℕ)) (e : S ≡ freely_reduced_words s) where
  pub tidied_fits : (room : ℕ) {x : Checked} → x ≡ system_room s room → x ≡ Ok tt → length S * 64 ≤ room
  tidied_fits room told h = omega (arith, ap length e ∙ words-length s, both_fits s room told h)
