-- Systems of words and products over their slots. A system is a tuple of words, one for each slot, and may hold a word twice; here it is a
-- list. A product is a finite list of factors.
use Rattle.std.specs.Prelude.{ℕ, ◌<◌, ◌≡◌, ◌↔◌, not, ◌&&◌, List, [], ◌∷◌, ◌++◌, length, get_or, eqb}
use Rattle.std.specs.Bool.{beq}
use Rattle.words.specs.Alphabet.{Alphabet}
use Rattle.words.specs.Words.{freely_reduce, Irreducible, signed}
use Rattle.systems.specs.declared.Factor.{Factor}

-- a factor beside its own inverse cancels, so a product is itself a word over these letters
abbrev pub factors : Alphabet Factor
factors =
    record {
      flip = λ f. record { slot = f.slot; inverted = not f.inverted };
      same = λ f g. eqb f.slot g.slot && beq f.inverted g.inverted;
    }

module _ {A : Type 0} (G : Alphabet A) where
  -- the word in a slot
  abbrev pub word : List (List A) → ℕ → List A
  word S k = get_or S k []

  -- every word is freely reduced
  abbrev pub FreelyReduced : List (List A) → Type 0
  FreelyReduced S = (k : ℕ) → Irreducible G (word S k)

  -- the word that a factor stands for
  abbrev pub value : List (List A) → Factor → List A
  value S f = signed G f.inverted (word S f.slot)

  -- "put each letter's word and each capital's inverse word in its place, keep the order"
  abbrev pub spelled : List (List A) → List Factor → List A
  spelled S [] = []
  spelled S (f ∷ p) = value S f ++ spelled S p

  -- "and freely reduce the whole row, however long"
  abbrev pub multiplied : List (List A) → List Factor → List A
  multiplied S p = freely_reduce G (spelled S p)

  -- "any finite row, long or empty, of letters of slots that the system has and of their capitals; neighbours may cancel"
  abbrev pub Over : List (List A) → List Factor → Type 0
  Over S [] = Unit
  Over S (f ∷ p) = (f.slot < length S) × Over S p

  -- a slot that is not blank
  abbrev pub NotBlank : List (List A) → ℕ → Type 0
  NotBlank S k = word S k ≡ [] → ⊥

  -- "it names no blank slot"
  abbrev pub OverWords : List (List A) → List Factor → Type 0
  OverWords S [] = Unit
  OverWords S (f ∷ p) = NotBlank S f.slot × OverWords S p

  -- "It is freely reduced over the words that aren't empty when it names no blank slot and no letter stands beside its own capital."
  abbrev pub FreelyReducedOver : List (List A) → List Factor → Type 0
  FreelyReducedOver S p = OverWords S p × Irreducible factors p

  -- w lies in the subgroup: "some product of words of S and their inverses, of whatever finite length, the empty product included,
  -- freely reduces to what w freely reduces to"
  abbrev pub Generated : List (List A) → List A → Type 0
  Generated S w = (p : List Factor) × Over S p × (multiplied S p ≡ freely_reduce G w)

  -- the same words are generated
  abbrev pub Equivalent : List (List A) → List (List A) → Type 0
  Equivalent S T = (w : List A) → Generated S w ↔ Generated T w

  -- the words of a system are independent: "every product of the given words and inverses that comes to the empty word cancels already as
  -- a product over slots"
  abbrev pub Independent : List (List A) → Type 0
  Independent S = (p : List Factor) → Over S p → multiplied S p ≡ [] → freely_reduce factors p ≡ []
