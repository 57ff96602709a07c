-- A move that is found, by a search or in a log.
use Rattle.std.specs.Prelude.{◌<◌, ℕ, Option, IfSome, ◌≡◌}
use Rattle.systems.specs.declared.Move.{Move}

-- a move lies between two different slots of the first n
abbrev pub Between : ℕ → Move → Type 0
Between n m = (m.changed < n) × (m.other < n) × (m.changed ≡ m.other → ⊥)

-- one that was found does
abbrev pub FoundBelow : ℕ → Option Move → Type 0
FoundBelow n r = IfSome r (λ m. Between n m)
