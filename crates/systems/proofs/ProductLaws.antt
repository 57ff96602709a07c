-- Products over the slots of a system: how they multiply out when they are put together, turned round or freely reduced as words
-- over factors, and which slots they then name. Every product has a freely reduced one over the words that aren't empty.
use Prim.Native.Nat.{ℕ, ◌<◌}
use mathlib.Core.Path.{◌≡◌, refl, sym, ap, ◌∙◌}
use mathlib.Core.List.{List, [], ◌∷◌, ◌++◌, append_assoc, append-nil}
use native.Mathlib.Omega.{arith}
use native.Mathlib.Decide.{dec_lt}
use lib.ListN.{length, get_or-eq_default}
use Rattle.words.specs.Alphabet.{Alphabet}
use Rattle.words.specs.Words.{push, freely_reduce, Irreducible, inverse}
use Rattle.words.proofs.Alphabet.{AlphabetLaws, same?}
use Rattle.words.proofs.FreeReduction.{push_cancel, push_keep, freely_reduce_irreducible, freely_reduce_both, freely_reduce_right, freely_reduce_empty_left, irreducible_tail}
use Rattle.words.proofs.Inverse.{inverse-nil, inverse-cons, inverse-append, freely_reduce-inverse, freely_reduce_self_inverse}
use Rattle.systems.specs.Products.{factors, word, value, spelled, multiplied, Over, OverWords, FreelyReducedOver, NotBlank}
use Rattle.systems.specs.declared.Factor.{Factor}
use Rattle.systems.proofs.Factors.{empty?, factor_laws, value-flip, value_blank}

-- a product names only slots of which P holds
abbrev pub Named : (ℕ → Type 0) → List Factor → Type 0
Named P [] = Unit
Named P (f ∷ p) = P f.slot × Named P p

module _ (P : ℕ → Type 0) where
  pub named-append : (p q : List Factor) → Named P p → Named P q → Named P (p ++ q)
  named-append [] q h k = k
  named-append (f ∷ p) q h k = (h.0, named-append p q h.1 k)

  pub named-inverse : (p : List Factor) → Named P p → Named P (inverse factors p)
  named-inverse [] h = rw (inverse-nil factors factor_laws) tt
  named-inverse (f ∷ p) h = rw (inverse-cons factors factor_laws) (named-append (inverse factors p) _ (named-inverse p h.1) (h.0, tt))

  named-push : (f : Factor) (p : List Factor) → Named P (f ∷ p) → Named P (push factors f p)
  named-push f [] h = h
  named-push f (g ∷ p) h = elim (same? factors factor_laws g (factors.flip f)) [
    | yes e ↦ rw (push_cancel factors factor_laws f g p e) h.1.1
    | no n ↦ rw (push_keep factors factor_laws f g p n) h
  ]

  pub named-freely_reduce : (p : List Factor) → Named P p → Named P (freely_reduce factors p)
  named-freely_reduce [] h = h
  named-freely_reduce (f ∷ p) h = named-push f (freely_reduce factors p) (h.0, named-freely_reduce p h.1)

module _ {A : Type 0} (G : Alphabet A) (L : AlphabetLaws G) (S : List (List A)) where
  pub spelled-append : (p q : List Factor) → spelled G S (p ++ q) ≡ spelled G S p ++ spelled G S q
  spelled-append [] q = refl
  spelled-append (f ∷ p) q = rw (spelled-append p q, append_assoc)

  pub multiplied-append : (p q : List Factor) → multiplied G S (p ++ q) ≡ freely_reduce G (multiplied G S p ++ multiplied G S q)
  multiplied-append p q = rw (spelled-append p q) (freely_reduce_both G L (spelled G S p) (spelled G S q))

  pub multiplied-cons : (f : Factor) (p : List Factor) → multiplied G S (f ∷ p) ≡ freely_reduce G (value G S f ++ multiplied G S p)
  multiplied-cons f p = freely_reduce_right G L (value G S f) (spelled G S p)

  pub multiplied_irreducible : (p : List Factor) → Irreducible G (multiplied G S p)
  multiplied_irreducible p = freely_reduce_irreducible G L (spelled G S p)

  -- a factor beside its own inverse goes
  pub multiplied_pair : (f : Factor) (p : List Factor) → multiplied G S (f ∷ factors.flip f ∷ p) ≡ multiplied G S p
  multiplied_pair f p = rw (value-flip G L S f, ← append_assoc)
      (freely_reduce_empty_left G L (value G S f ++ inverse G (value G S f)) (spelled G S p) (freely_reduce_self_inverse G L (value G S f)))

  pub spelled-inverse : (p : List Factor) → spelled G S (inverse factors p) ≡ inverse G (spelled G S p)
  spelled-inverse [] = rw (inverse-nil factors factor_laws, inverse-nil G L)
  spelled-inverse (f ∷ p) = rw (inverse-cons factors factor_laws, inverse-append G L, spelled-append, spelled-inverse p, value-flip G L S f, append-nil)

  -- the inverse product multiplies out to the inverse word
  pub multiplied-inverse : (p : List Factor) → multiplied G S (inverse factors p) ≡ inverse G (multiplied G S p)
  multiplied-inverse p = rw (spelled-inverse p) (freely_reduce-inverse G L (spelled G S p))

  multiplied-push : (f : Factor) (p : List Factor) → multiplied G S (push factors f p) ≡ multiplied G S (f ∷ p)
  multiplied-push f [] = refl
  multiplied-push f (g ∷ p) = elim (same? factors factor_laws g (factors.flip f)) [
    | yes e ↦ rw (push_cancel factors factor_laws f g p e, e) (sym (multiplied_pair f p))
    | no n ↦ rw (push_keep factors factor_laws f g p n)
  ]

  -- a product multiplies out as it does after its own neighbours have cancelled
  pub multiplied-freely_reduce : (p : List Factor) → multiplied G S (freely_reduce factors p) ≡ multiplied G S p
  multiplied-freely_reduce [] = refl
  multiplied-freely_reduce (f ∷ p) = multiplied-push f (freely_reduce factors p) ∙ rw (multiplied-cons f (freely_reduce factors p), multiplied-cons f p, multiplied-freely_reduce p)

  -- a product that cancels over the slots comes to the empty word
  pub multiplied_trivial : (p : List Factor) → freely_reduce factors p ≡ [] → multiplied G S p ≡ []
  multiplied_trivial p e = sym (multiplied-freely_reduce p) ∙ ap (multiplied G S) e

  pub named-over : (p : List Factor) → Named (λ k. k < length S) p → Over G S p
  named-over [] h = h
  named-over (f ∷ p) h = (h.0, named-over p h.1)

  pub over-named : (p : List Factor) → Over G S p → Named (λ k. k < length S) p
  over-named [] h = h
  over-named (f ∷ p) h = (h.0, over-named p h.1)

  pub named-words : (P : ℕ → Type 0) (p : List Factor) → ((k : ℕ) → P k → NotBlank G S k) → Named P p → OverWords G S p
  named-words P [] t h = h
  named-words P (f ∷ p) t h = (t f.slot h.0, named-words P p t h.1)

  pub words-named : (P : ℕ → Type 0) (p : List Factor) → ((k : ℕ) → NotBlank G S k → P k) → OverWords G S p → Named P p
  words-named P [] t h = h
  words-named P (f ∷ p) t h = (t f.slot h.0, words-named P p t h.1)

  named_not_blank : (p : List Factor) → Named (NotBlank G S) p → OverWords G S p
  named_not_blank p h = named-words (NotBlank G S) p (λ k n. n) h

  not_blank_named : (p : List Factor) → OverWords G S p → Named (NotBlank G S) p
  not_blank_named p h = words-named (NotBlank G S) p (λ k n. n) h

  pub over_words_append : (p q : List Factor) → OverWords G S p → OverWords G S q → OverWords G S (p ++ q)
  over_words_append p q h k = named_not_blank (p ++ q) (named-append _ p q (not_blank_named p h) (not_blank_named q k))

  pub over_words_inverse : (p : List Factor) → OverWords G S p → OverWords G S (inverse factors p)
  over_words_inverse p h = named_not_blank (inverse factors p) (named-inverse _ p (not_blank_named p h))

  pub over_words_freely_reduce : (p : List Factor) → OverWords G S p → OverWords G S (freely_reduce factors p)
  over_words_freely_reduce p h = named_not_blank (freely_reduce factors p) (named-freely_reduce _ p (not_blank_named p h))

  -- a slot that the system has not is blank
  pub word-slot : (k : ℕ) → NotBlank G S k → k < length S
  word-slot k n = elim (dec_lt k (length S)) [
    | yes h ↦ h
    | no h ↦ absurd (n (get_or-eq_default S [] (omega arith)))
  ]

  pub over_words_over : (p : List Factor) → OverWords G S p → Over G S p
  over_words_over p h = named-over p (words-named _ p word-slot h)

  pub freely-reduced_tail : (f : Factor) (p : List Factor) → FreelyReducedOver G S (f ∷ p) → FreelyReducedOver G S p
  freely-reduced_tail f p r = (r.0.1, irreducible_tail factors factor_laws f p r.1)

  -- the factors of blank slots are dropped
  pub unblanked : (p : List Factor) → (q : List Factor) × OverWords G S q × (multiplied G S q ≡ multiplied G S p)
  unblanked [] = ([], tt, refl)
  unblanked (f ∷ p) =
      let (q, o, m) = unblanked p in
      elim (empty? (word G S f.slot)) [
        | yes e ↦ (q, o, rw (value_blank G L S f e) m)
        | no n ↦ (f ∷ q, (n, o), rw (multiplied-cons f q, multiplied-cons f p, m))
      ]

  -- whatever a product multiplies out to, one "freely reduced over the words that aren't empty" does too
  pub freely-reduced : (p : List Factor) → (q : List Factor) × FreelyReducedOver G S q × (multiplied G S q ≡ multiplied G S p)
  freely-reduced p =
      let (q, o, m) = unblanked p in
      (freely_reduce factors q, (over_words_freely_reduce q o, freely_reduce_irreducible factors factor_laws q), multiplied-freely_reduce q ∙ m)
