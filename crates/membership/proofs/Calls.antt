-- The call member: what its tests tell once they are passed.
use Prim.Native.Nat.{◌*◌, ◌/◌, ◌≤◌, ℕ}
use mathlib.Core.List.{List}
use mathlib.Core.Path.{◌∙◌, ◌≡◌, sym}
use lib.Dec.{leb}
use lib.ListN.{length}
use borrow.Author.Tests.{leb-true}
use Rattle.records.specs.Refusals.{◌and_then◌, must, target_rules}
use Rattle.records.proofs.Chains.{fine_first, fine_next, must_fine}
use Rattle.records.proofs.Targets.{target-sized}
use Rattle.slots.specs.Refusals.{system_rules, word_room}
use Rattle.slots.specs.Systems.{slots}
use Rattle.slots.proofs.Systems.{room_enough, system-size}
use Rattle.membership.specs.Membership.{member_tests}
use Rattle.records.specs.declared.refusals.Reason.TheVariants.{ProductBufferShort}
use Rattle.std.specs.Prelude.{Ok}
use Rattle.records.specs.Refusals.{Checked}

-- what refusals 1 to 5, 6, 10 and 11 tell once they are passed
module _ (s t : List ℕ) (room product : ℕ) where
  pub passed_on : {x : Checked} → x ≡ member_tests s t room product → x ≡ Ok tt → member_tests s t room product ≡ Ok tt
  passed_on e h = sym e ∙ h

  module _ (passed : member_tests s t room product ≡ Ok tt) where
    past_system : target_rules t and_then word_room (slots s * 64) room and_then must (leb 64 product) ProductBufferShort 0 ≡ Ok tt
    unfolding member_tests
    past_system = fine_next (system_rules s) _ passed

    past_target : word_room (slots s * 64) room and_then must (leb 64 product) ProductBufferShort 0 ≡ Ok tt
    past_target = fine_next (target_rules t) _ past_system

    pub passed_system : system_rules s ≡ Ok tt
    unfolding member_tests
    passed_system = fine_first (system_rules s) _ passed

    pub passed_size : length s ≤ 1024
    passed_size = system-size s passed_system

    pub passed_rules : target_rules t ≡ Ok tt
    passed_rules = fine_first (target_rules t) _ past_system

    pub passed_target : length t ≡ 64
    passed_target = target-sized t passed_rules

    pub passed_fits : length s / 64 * 64 ≤ room
    passed_fits = room_enough (length s / 64 * 64) room (fine_first (word_room (slots s * 64) room) _ past_target)

    pub passed_product : 64 ≤ product
    passed_product = leb-true 64 product (must_fine _ ProductBufferShort 0 (fine_next (word_room (slots s * 64) room) _ past_target))
