-- The letters that stand for factors in a product.
use Rattle.std.specs.Prelude.{◌+◌, ◌-◌, ℕ, cond, ltb}
use Rattle.systems.specs.declared.Factor.{Factor}

-- "slot letter for the slot's word, capital for its inverse"
abbrev pub factor_of : ℕ → Factor
factor_of b = record { slot = cond (ltb b 97) (b - 65) (b - 97); inverted = ltb b 97 }

-- the letter of a factor
abbrev pub factor_byte : Factor → ℕ
factor_byte f = cond f.inverted (65 + f.slot) (97 + f.slot)
