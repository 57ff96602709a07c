-- Nielsen-reduced systems of freely reduced words (Nielsen, section 1, in the words of docs/REQUIREMENTS.md).
use Rattle.std.specs.Prelude.{◌*◌, ◌+◌, ◌<◌, ◌≤◌, ℕ, List, ◌≡◌, length}
use Rattle.words.specs.Alphabet.{Alphabet}
use Rattle.words.specs.Words.{cancellation}
use Rattle.systems.specs.Products.{NotBlank, factors, value}
use Rattle.systems.specs.declared.Factor.{Factor}

module _ {A : Type 0} (G : Alphabet A) where
  -- how much two factors cancel
  abbrev pub cancellation_of : List (List A) → Factor → Factor → ℕ
  cancellation_of S x y = cancellation G (value G S x) (value G S y)

  -- how long a factor is
  abbrev pub size : List (List A) → Factor → ℕ
  size S x = length (value G S x)

  -- "for two elements of its words and inverses that stand in different slots, no product of them cancels more than half of either". An
  -- element is a factor whose slot is not blank: "Blank slots are passed over."
  abbrev pub AtMostHalf : List (List A) → Type 0
  AtMostHalf S =
      (x y : Factor) → NotBlank G S x.slot → NotBlank G S y.slot → (x.slot ≡ y.slot → ⊥)
      → (2 * cancellation_of S x y ≤ size S x) × (2 * cancellation_of S x y ≤ size S y)

  -- "and in no product of three is the middle one wholly cancelled, a neighbour that is the middle one's own inverse not counted"
  abbrev pub MiddleKept : List (List A) → Type 0
  MiddleKept S =
      (x y z : Factor) → NotBlank G S x.slot → NotBlank G S y.slot → NotBlank G S z.slot
      → (x ≡ factors.flip y → ⊥) → (z ≡ factors.flip y → ⊥) → cancellation_of S x y + cancellation_of S y z < size S y

  -- a reduced system
  pub record Reduced (S : List (List A)) : Type 0 where
    pub half : AtMostHalf S
    pub middle : MiddleKept S
