-- Products over slots as records: "A product over slots uses the same record".
use Rattle.std.specs.Prelude.{ℕ, List, map}
use Rattle.systems.specs.Factors.{factor_of}
use Rattle.systems.specs.declared.Factor.{Factor}
use Rattle.records.specs.Records.{word_of}

-- the product in a record
abbrev pub product_of : List ℕ → List Factor
product_of r = map factor_of (word_of r)
