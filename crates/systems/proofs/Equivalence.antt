-- Moves keep the subgroup (Nielsen, section 1). A list of moves on a system does what the same list does on the slots' own letters,
-- each letter then taken for its word; so a product over the words after the moves becomes one over the words before, and back.
use Prim.Native.Nat.{ℕ, ◌<◌}
use mathlib.Core.Path.{◌≡◌, refl, sym, ap, ◌∙◌}
use mathlib.Core.Bool.{Bool, true, false}
use mathlib.Core.List.{List, [], ◌∷◌, ◌++◌, map, append-nil}
use lib.ListN.{length, get_or, length-map, get_or-map}
use lib.Seq.{ext_get_or, map-set}
use Rattle.words.specs.Alphabet.{Alphabet}
use Rattle.words.specs.Below.{below}
use Rattle.words.specs.Words.{freely_reduce, inverse}
use Rattle.words.proofs.Alphabet.{AlphabetLaws}
use Rattle.words.proofs.Below.{below_at, below_length}
use Rattle.words.proofs.FreeReduction.{freely_reduce_irreducible, freely_reduce-same, freely_reduce_twice, freely_reduce_both, freely_reduce_right}
use Rattle.words.proofs.Inverse.{freely_reduce-inverse}
use Rattle.systems.specs.Products.{factors, word, value, spelled, multiplied, Generated, Equivalent, FreelyReduced}
use Rattle.systems.specs.declared.Factor.{Factor}
use Rattle.systems.specs.Moves.{formed, made, made_all}
use Rattle.systems.specs.declared.Form.{Form}
use Rattle.systems.specs.declared.Move.{Move}
use Rattle.systems.specs.declared.Form.TheVariants.{After, Before, InverseAfter, InverseBefore}
use Rattle.systems.proofs.ProductLaws.{multiplied-append, multiplied-inverse, multiplied-freely_reduce, over_words_over, unblanked}
use Rattle.systems.proofs.Undoing.{Apart, AllApart, back, made_all-length, made_all-undone, undone_all_back}

-- a homomorphism: a map of words that goes with products, inverses and free reduction
record Homomorphism {A B : Type 0} (H : Alphabet B) (G : Alphabet A) (φ : List B → List A) : Type 0 where
  empty : φ [] ≡ []
  product : (u v : List B) → φ (u ++ v) ≡ freely_reduce G (φ u ++ φ v)
  inverted : (u : List B) → φ (inverse H u) ≡ inverse G (φ u)
  reduced : (u : List B) → φ (freely_reduce H u) ≡ φ u

module _ {A B : Type 0} (H : Alphabet B) (G : Alphabet A) (L : AlphabetLaws G) (φ : List B → List A) (M : Homomorphism H G φ) where
  open M use {empty, product, inverted, reduced}

  map-word : (E : List (List B)) (k : ℕ) → word G (map φ E) k ≡ φ (word H E k)
  map-word E k = ap (get_or (map φ E) k) (sym empty) ∙ get_or-map φ E k []

  map-value : (E : List (List B)) (f : Factor) → value G (map φ E) f ≡ φ (value H E f)
  map-value E f = go f.inverted
    where
      go : (b : Bool) → value G (map φ E) (record { slot = f.slot; inverted = b }) ≡ φ (value H E (record { slot = f.slot; inverted = b }))
      go true = ap (inverse G) (map-word E f.slot) ∙ sym (inverted (word H E f.slot))
      go false = map-word E f.slot

  -- a product over the words' images
  map-multiplied : (E : List (List B)) (p : List Factor) → multiplied G (map φ E) p ≡ φ (spelled H E p)
  map-multiplied E [] = sym empty
  map-multiplied E (f ∷ p) = rw (product, ← map-value E f, ← map-multiplied E p) (freely_reduce_right G L (value G (map φ E) f) (spelled G (map φ E) p))

  map-formed : (form : Form) (u v : List B) → φ (formed H form u v) ≡ freely_reduce G (formed G form (φ u) (φ v))
  map-formed Before u v = product u v
  map-formed InverseBefore u v = rw (product, inverted)
  map-formed After u v = product v u
  map-formed InverseAfter u v = rw (product, inverted)

  map-made : (E : List (List B)) (m : Move) → map φ (made H E m) ≡ made G (map φ E) m
  map-made E m = rw (map-set, reduced, map-formed, map-word E m.other, map-word E m.changed)

  -- a list of moves on the words' images
  map-made_all : (E : List (List B)) (ms : List Move) → map φ (made_all H E ms) ≡ made_all G (map φ E) ms
  map-made_all E [] = refl
  map-made_all E (m ∷ ms) = rw (map-made_all (made H E m) ms, map-made E m)

-- a slot's letter, as a product of one factor
abbrev pub slot_letter : ℕ → List Factor
slot_letter k = record { slot = k; inverted = false } ∷ []

-- the first n slots, each with its own letter
abbrev pub slot_letters : ℕ → List (List Factor)
slot_letters n = below slot_letter n

pub slot_letters_length : (n : ℕ) → length (slot_letters n) ≡ n
slot_letters_length n = below_length slot_letter n

pub slot_letters_word : (n k : ℕ) → k < n → word factors (slot_letters n) k ≡ slot_letter k
slot_letters_word n k h = below_at slot_letter n k [] h

-- a product over the words after a list of moves, as one over the words before it: each letter becomes what the moves have made of it
abbrev pub before : ℕ → List Move → List Factor → List Factor
before n ms p = spelled factors (made_all factors (slot_letters n) ms) p

-- and the other way round, by the moves that take the list back
abbrev pub after : ℕ → List Move → List Factor → List Factor
after n ms p = before n (back ms) p

module _ {A : Type 0} (G : Alphabet A) (L : AlphabetLaws G) where
  freely_reduce_homomorphism : Homomorphism G G (freely_reduce G)
  freely_reduce_homomorphism =
      record { empty = refl; product = freely_reduce_both G L; inverted = freely_reduce-inverse G L; reduced = freely_reduce_twice G L }

  multiplied_homomorphism : (S : List (List A)) → Homomorphism factors G (multiplied G S)
  multiplied_homomorphism S =
      record {
        empty = refl;
        product = multiplied-append G L S;
        inverted = multiplied-inverse G L S;
        reduced = multiplied-freely_reduce G L S;
      }

  pub reduced-word : (S : List (List A)) (k : ℕ) → word G (map (freely_reduce G) S) k ≡ freely_reduce G (word G S k)
  reduced-word S k = get_or-map (freely_reduce G) S k []

  pub words-freely_reduced : (S : List (List A)) → FreelyReduced G (map (freely_reduce G) S)
  words-freely_reduced S k = rw (reduced-word S k) (freely_reduce_irreducible G L (word G S k))

  -- the words of a freely reduced system are as free reduction leaves them
  pub freely_reduced-same : (S : List (List A)) → FreelyReduced G S → map (freely_reduce G) S ≡ S
  freely_reduced-same S h = ext_get_or [] (map (freely_reduce G) S) S (length-map S (freely_reduce G))
      (λ k q. reduced-word S k ∙ freely_reduce-same G L (word G S k) (h k))

  -- a product of the given words and of the freely reduced ones comes to the same word
  pub reduced-multiplied : (S : List (List A)) (p : List Factor) → multiplied G (map (freely_reduce G) S) p ≡ multiplied G S p
  reduced-multiplied S p = map-multiplied G G L (freely_reduce G) freely_reduce_homomorphism S p

  -- each slot's letter, taken for its word
  slot_letters_multiplied : (S : List (List A)) → map (multiplied G S) (slot_letters (length S)) ≡ map (freely_reduce G) S
  slot_letters_multiplied S = ext_get_or [] (map (multiplied G S) (slot_letters (length S))) (map (freely_reduce G) S)
      (length-map (slot_letters (length S)) (multiplied G S) ∙ slot_letters_length (length S) ∙ sym (length-map S (freely_reduce G)))
      (λ k q.
      let h : k < length S = rw (length-map, slot_letters_length) at q in
      get_or-map (multiplied G S) (slot_letters (length S)) k [] ∙ rw (slot_letters_word (length S) k h, append-nil) (sym (reduced-word S k)))

  -- a product over the words after a list of moves comes to the same word as the one before
  pub multiplied-before : (S : List (List A)) (ms : List Move) (p : List Factor)
      → multiplied G (made_all G S ms) p ≡ multiplied G S (before (length S) ms p)
  multiplied-before S ms p = sym (reduced-multiplied (made_all G S ms) p)
      ∙ ap (λ (T : List (List A)). multiplied G T p)
      (map-made_all G G L (freely_reduce G) freely_reduce_homomorphism S ms
      ∙ ap (λ (T : List (List A)). made_all G T ms) (sym (slot_letters_multiplied S))
      ∙ sym (map-made_all factors G L (multiplied G S) (multiplied_homomorphism S) (slot_letters (length S)) ms))
      ∙ map-multiplied factors G L (multiplied G S) (multiplied_homomorphism S) (made_all factors (slot_letters (length S)) ms) p

  -- and a product over the words before them the same as the one after
  pub multiplied-after : (S : List (List A)) (ms : List Move) (p : List Factor) → FreelyReduced G S → AllApart ms
      → multiplied G S p ≡ multiplied G (made_all G S ms) (after (length S) ms p)
  multiplied-after S ms p h a = rw (← undone_all_back G (made_all G S ms) ms, made_all-undone G L S ms h a, made_all-length)
      at (multiplied-before (made_all G S ms) (back ms) p)

  -- a slot that the system has not counts as blank: whatever any product comes to is generated
  pub generated : (S : List (List A)) (w : List A) (p : List Factor) → multiplied G S p ≡ freely_reduce G w → Generated G S w
  generated S w p e = let (q, o, m) = unblanked G L S p in (q, over_words_over G L S q o, m ∙ e)

  pub equivalent_trans : (S T U : List (List A)) → Equivalent G S T → Equivalent G T U → Equivalent G S U
  equivalent_trans S T U e f w = (λ g. (f w).0 ((e w).0 g), λ g. (e w).1 ((f w).1 g))

  -- the given words and the freely reduced ones generate the same words
  pub reduced-equivalent : (S : List (List A)) → Equivalent G S (map (freely_reduce G) S)
  reduced-equivalent S w = (
    λ g. generated (map (freely_reduce G) S) w g.0 (reduced-multiplied S g.0 ∙ g.2),
    λ g. generated S w g.0 (sym (reduced-multiplied S g.0) ∙ g.2),
  )

  -- so do the words before and after a list of moves
  pub made_all-equivalent : (S : List (List A)) (ms : List Move) → FreelyReduced G S → AllApart ms → Equivalent G S (made_all G S ms)
  made_all-equivalent S ms h a w = (
    λ g. generated (made_all G S ms) w (after (length S) ms g.0) (sym (multiplied-after S ms g.0 h a) ∙ g.2),
    λ g. generated S w (before (length S) ms g.0) (sym (multiplied-before S ms g.0) ∙ g.2),
  )

  pub made-equivalent : (S : List (List A)) (m : Move) → FreelyReduced G S → Apart m → Equivalent G S (made G S m)
  made-equivalent S m h a = made_all-equivalent S (m ∷ []) h (a, tt)

  -- "equivalent to the given one": the given words and those that a list of moves leaves; "First freely reduce each given word."
  pub run-equivalent : (S : List (List A)) (ms : List Move) → AllApart ms → Equivalent G S (made_all G (map (freely_reduce G) S) ms)
  run-equivalent S ms a = equivalent_trans S (map (freely_reduce G) S) (made_all G (map (freely_reduce G) S) ms) (reduced-equivalent S)
      (made_all-equivalent (map (freely_reduce G) S) ms (words-freely_reduced S) a)
