-- The words that a system generates are closed under products and inverses; so it is an equivalence that two words lie in one right coset, and
-- it stays when both are multiplied by a word from the right.
use mathlib.Core.Path.{◌≡◌, sym, ap, ◌∙◌}
use mathlib.Core.List.{List, [], ◌∷◌, ◌++◌, append_assoc, append-nil, map}
use Rattle.std.specs.Prelude.{Contains, false}
use Rattle.std.proofs.lemmas.List.{get_or_default}
use Rattle.words.specs.Alphabet.{Alphabet}
use Rattle.words.specs.Words.{freely_reduce, inverse}
use Rattle.words.proofs.Alphabet.{AlphabetLaws}
use Rattle.words.proofs.Contained.{contains_of_map}
use Rattle.words.proofs.FreeReduction.{freely_reduce_both, freely_reduce_left, freely_reduce_right, freely_reduce_twice}
use Rattle.words.proofs.Inverse.{freely_reduce-inverse, freely_reduce-inverse_self, freely_reduce_self_inverse, inverse-append, inverse-nil, inverse_twice}
use Rattle.systems.specs.Products.{Generated, factors, word}
use Rattle.systems.proofs.Equivalence.{generated}
use Rattle.systems.proofs.ProductLaws.{multiplied-append, multiplied-inverse}

module _ {A : Type 0} (G : Alphabet A) (L : AlphabetLaws G) where
  -- the inverse of a word, then the word, in the middle goes
  freely_reduce_middle : (u s v : List A) → freely_reduce G ((u ++ inverse G s) ++ (s ++ v)) ≡ freely_reduce G (u ++ v)
  freely_reduce_middle u s v =
      rw (
        append_assoc u (inverse G s) (s ++ v),
        ← (append_assoc (inverse G s) s v),
        freely_reduce_right G L u ((inverse G s ++ s) ++ v),
        freely_reduce_left G L (inverse G s ++ s) v,
        freely_reduce-inverse_self G L s,
      )
      (sym (freely_reduce_right G L u v))

  module _ (S : List (List A)) where
    pub generated-same : (u v : List A) → freely_reduce G u ≡ freely_reduce G v → Generated G S u → Generated G S v
    generated-same u v e g = generated G L S v g.0 (g.2 ∙ e)

    pub generated_empty : (u : List A) → freely_reduce G u ≡ [] → Generated G S u
    generated_empty u e = generated G L S u [] (sym e)

    generated_product : (u v : List A) → Generated G S u → Generated G S v → Generated G S (u ++ v)
    generated_product u v a b = generated G L S (u ++ v) (a.0 ++ b.0)
        (multiplied-append G L S a.0 b.0 ∙ rw (a.2, b.2) (sym (freely_reduce_both G L u v)))

    generated_inverse : (u : List A) → Generated G S u → Generated G S (inverse G u)
    generated_inverse u a = generated G L S (inverse G u) (inverse factors a.0)
        (multiplied-inverse G L S a.0 ∙ ap (inverse G) a.2 ∙ sym (freely_reduce-inverse G L u))

    -- two words lie in the same right coset
    abbrev pub SameCoset : List A → List A → Type 0
    SameCoset u v = Generated G S (u ++ inverse G v)

    pub same_coset_refl : (u : List A) → SameCoset u u
    same_coset_refl u = generated_empty (u ++ inverse G u) (freely_reduce_self_inverse G L u)

    pub same_coset_sym : (u v : List A) → SameCoset u v → SameCoset v u
    same_coset_sym u v h = rw (inverse-append G L, inverse_twice G L) at (generated_inverse (u ++ inverse G v) h)

    pub same_coset_trans : (u v w : List A) → SameCoset u v → SameCoset v w → SameCoset u w
    same_coset_trans u v w h k = generated-same ((u ++ inverse G v) ++ (v ++ inverse G w)) (u ++ inverse G w)
        (freely_reduce_middle u v (inverse G w)) (generated_product (u ++ inverse G v) (v ++ inverse G w) h k)

    pub same_coset_times : (u v w : List A) → SameCoset u v → SameCoset (u ++ w) (v ++ w)
    same_coset_times u v w h = generated-same (u ++ inverse G v) ((u ++ w) ++ inverse G (v ++ w)) e h
      where
        e : freely_reduce G (u ++ inverse G v) ≡ freely_reduce G ((u ++ w) ++ inverse G (v ++ w))
        e = sym (rw (inverse-append G L v w) (rw (inverse_twice G L w) at (freely_reduce_middle u (inverse G w) (inverse G v))))

    pub same_coset-freely_reduce : (u v w : List A) → freely_reduce G u ≡ freely_reduce G v → SameCoset u w → SameCoset v w
    same_coset-freely_reduce u v w e h = generated-same (u ++ inverse G w) (v ++ inverse G w)
        (freely_reduce_left G L u (inverse G w) ∙ rw (e) (sym (freely_reduce_left G L v (inverse G w)))) h

    -- the coset of the empty word is what the system generates
    pub coset_generated : (w : List A) → SameCoset w [] → Generated G S w
    coset_generated w h = rw (inverse-nil G L, append-nil) at h

    pub generated_coset : (w : List A) → Generated G S w → SameCoset w []
    generated_coset w g = rw (inverse-nil G L, append-nil) g

    -- each word of a system is generated, and so is what it freely reduces to
    pub word_generated : (w : List A) → Contains S w → Generated G S w
    word_generated w h = generated G L S w (record { slot = h.0; inverted = false } ∷ [])
        (ap (freely_reduce G) (append-nil (word G S h.0) ∙ get_or_default S h.0 [] w h.1 ∙ h.2))

    pub reduced_generated : (w : List A) → Contains (map (freely_reduce G) S) w → Generated G S w
    reduced_generated w h =
        let r = contains_of_map (freely_reduce G) S w h in
        generated-same r.0 w (sym (freely_reduce_twice G L r.0) ∙ ap (freely_reduce G) r.2) (word_generated r.0 r.1)
