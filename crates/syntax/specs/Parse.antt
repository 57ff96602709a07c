-- The tree of a text, from the left. Its laws say that it is the one tree that the text spells.
use Rattle.std.specs.Prelude.{suc, zero, ℕ, cond, false, true, List, [], ◌∷◌, drop, length, eqb}
use Rattle.records.specs.Records.{is_letter}
use Rattle.syntax.specs.Trees.{Digits, Power, Product, bracket, group, is_digit, letter, nothing, one, plain, raised, two}

-- digits, and the bytes after them
abbrev pub digits_of : List ℕ → Digits
digits_of [] = one 0
digits_of (d ∷ []) = one d
digits_of (d ∷ e ∷ r) = cond (is_digit e) (two d e) (one d)

abbrev pub after_digits : List ℕ → List ℕ
after_digits [] = []
after_digits (d ∷ []) = []
after_digits (d ∷ e ∷ r) = cond (is_digit e) r (e ∷ r)

-- a power, and the bytes after it
abbrev pub power_of : List ℕ → Power
power_of [] = plain
power_of (b ∷ []) = plain
power_of (b ∷ c ∷ r) = cond (eqb b 94) (cond (eqb c 45) (raised true (digits_of r)) (raised false (digits_of (c ∷ r)))) plain

abbrev pub after_power : List ℕ → List ℕ
after_power [] = []
after_power (b ∷ []) = b ∷ []
after_power (b ∷ c ∷ r) = cond (eqb b 94) (cond (eqb c 45) (after_digits r) (after_digits (c ∷ r))) (b ∷ c ∷ r)

-- a product, and the bytes after it
pub record Parsed : Type 0 where
  pub tree : Product
  pub rest : List ℕ

abbrev pub parsed : Product → List ℕ → Parsed
parsed t r = record { tree = t; rest = r }

-- n is more than the bytes that are left: each step reads one
abbrev pub parse : ℕ → List ℕ → Parsed
parse zero r = parsed nothing r
parse (suc n) [] = parsed nothing []
parse (suc n) (b ∷ r) =
    elim (is_letter b) [
      | true ↦
          let t = parse n (after_power r) in
          parsed (letter b (power_of r) t.tree) t.rest
      | false ↦ elim (eqb b 40) [
        | true ↦
            let u = parse n r in
            let q = drop 1 u.rest in
            let t = parse n (after_power q) in
            parsed (group u.tree (power_of q) t.tree) t.rest
        | false ↦ elim (eqb b 91) [
          | true ↦
              let u = parse n r in
              let v = parse n (drop 1 u.rest) in
              let q = drop 1 v.rest in
              let t = parse n (after_power q) in
              parsed (bracket u.tree v.tree (power_of q) t.tree) t.rest
          | false ↦ parsed nothing (b ∷ r)
        ]
      ]
    ]

-- the tree of a well-formed text
unfoldable pub tree_of : List ℕ → Product
tree_of text = (parse (suc (length text)) text).tree
