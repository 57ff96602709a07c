-- Multiplying a product out, one letter after the other, over the words of a system: the word in which this is done is multiplied by the
-- word or the inverse word that a letter of the product stands for.
use Rattle.std.proofs.Common.{ℕ, ◌+◌, ◌<◌, ◌≤◌, ◌≡◌, List, ◌++◌, length, get_or, take, append-nil, ap, ◌∙◌, sym, take_all}
use mathlib.Core.List.{map}
use Rattle.words.specs.Alphabet.{bytes}
use Rattle.words.specs.Words.{freely_reduce}
use Rattle.words.proofs.Alphabet.{byte_laws}
use Rattle.words.proofs.FreeReduction.{freely_reduce_left}
use Rattle.systems.specs.Products.{multiplied, spelled, value}
use Rattle.systems.proofs.Equivalence.{reduced-multiplied}
use Rattle.systems.proofs.ProductLaws.{spelled-append}
use Rattle.systems.specs.declared.Factor.{Factor}
use Rattle.records.specs.Records.{word_of}
use Rattle.slots.specs.Factors.{product_of}
use Rattle.systems.specs.Factors.{factor_of}
use Rattle.slots.specs.Systems.{freely_reduced_words, system_of}
use Rattle.multiply.specs.Multiply.{product_word}
use Rattle.std.proofs.lemmas.List.{map_push, take_more}

-- a product is multiplied out, its first letter first: the word is what the letters read so far come to
module _ (S : List (List ℕ)) (letters v : List ℕ) (i : ℕ) (here : v ≡ multiplied bytes S (map factor_of (take i letters))) where
  pub read_more : (t : List ℕ) (f : Factor) → i < length letters → f ≡ factor_of (get_or letters i 0)
      → t ≡ freely_reduce bytes (v ++ value bytes S f) → t ≡ multiplied bytes S (map factor_of (take (i + 1) letters))
  read_more t f inside named told =
      let read : List ℕ = spelled bytes S (map factor_of (take i letters)) in
      rw (told, named, here, take_more letters i 0 inside, map_push, spelled-append bytes byte_laws S, append-nil)
      (sym (freely_reduce_left bytes byte_laws read (value bytes S (factor_of (get_or letters i 0)))))

  -- the words of the system are taken in freely reduced, which changes no product
  pub read_all : (s p : List ℕ) → letters ≡ word_of p → S ≡ freely_reduced_words s → length letters ≤ i → v ≡ product_word s p
  unfolding freely_reduced_words product_word
  read_all s p told loaded l =
      here ∙ ap (λ (w : List ℕ). multiplied bytes S (map factor_of w)) (take_all i letters l ∙ told)
      ∙ ap (λ (T : List (List ℕ)). multiplied bytes T (product_of p)) loaded ∙ reduced-multiplied bytes byte_laws (system_of s) (product_of p)
