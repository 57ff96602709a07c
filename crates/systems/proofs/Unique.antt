-- Over a reduced system a product of words that aren't empty comes to the empty word only where it cancels already over the slots. So a
-- reduced system without blank slots is independent, and every word has at most one freely reduced product over a reduced system (Nielsen,
-- sections 2 and 3): the inverse of one product, then the other, comes to the empty word.
use mathlib.Core.Bool.{true}
use mathlib.Core.Path.{◌≡◌, sym, ◌∙◌}
use mathlib.Core.List.{List, [], ◌++◌}
use Rattle.words.specs.Alphabet.{Alphabet}
use Rattle.words.specs.Words.{freely_reduce, inverse}
use Rattle.words.proofs.Alphabet.{AlphabetLaws}
use Rattle.words.proofs.FreeReduction.{freely_reduce_irreducible, freely_reduce-same}
use Rattle.words.proofs.Inverse.{inverse_twice, inverse_unique, freely_reduce-inverse_self}
use Rattle.systems.specs.Products.{factors, multiplied, OverWords, FreelyReducedOver, Independent, FreelyReduced}
use Rattle.systems.specs.declared.Factor.{Factor}
use Rattle.systems.specs.Rank.{none_blank}
use Rattle.systems.specs.Reduced.{Reduced}
use Rattle.systems.proofs.Factors.{factor_laws}
use Rattle.systems.proofs.ProductLaws.{multiplied-append, multiplied-inverse, multiplied-freely_reduce, named-words, over-named, over_words_append, over_words_inverse, over_words_freely_reduce}
use Rattle.systems.proofs.ProductLemma.{product_empty}
use Rattle.systems.proofs.Rank.{none_blank-slots}

module _ {A : Type 0} (G : Alphabet A) (L : AlphabetLaws G) (S : List (List A)) (freely : FreelyReduced G S) (reduced : Reduced G S) where
  words_trivial : (p : List Factor) → OverWords G S p → multiplied G S p ≡ [] → freely_reduce factors p ≡ []
  words_trivial p o e = product_empty G L S freely reduced (freely_reduce factors p)
      (over_words_freely_reduce G L S p o, freely_reduce_irreducible factors factor_laws p) (multiplied-freely_reduce G L S p ∙ e)

  -- "Sætning 1: Et reduceret System er uafhængigt": a reduced system is independent. Nielsen throws an element 1 away ("Er α'k = 1,
  -- bortkastes det"), so here no slot may be blank
  pub reduced-independent : none_blank S ≡ true → Independent G S
  reduced-independent full p o e = words_trivial p (named-words G L S _ p (none_blank-slots G S full) (over-named G L S p o)) e

  -- "Eksisterer der altsaa en Frembringelse af β ved S*, saa er den ogsaa entydig": a word has no two freely reduced products
  pub reduced_unique : (p q : List Factor) → FreelyReducedOver G S p → FreelyReducedOver G S q
      → multiplied G S p ≡ multiplied G S q → p ≡ q
  reduced_unique p q r s e =
      let m : multiplied G S (inverse factors q ++ p) ≡ [] =
      rw (multiplied-append G L S (inverse factors q) p, multiplied-inverse G L S q, e) (freely_reduce-inverse_self G L (multiplied G S q)) in
      let n : freely_reduce factors (inverse factors q ++ p) ≡ [] =
      words_trivial (inverse factors q ++ p) (over_words_append G L S (inverse factors q) p (over_words_inverse G L S q s.0) r.0) m in
      sym (freely_reduce-same factors factor_laws p r.1)
      ∙ inverse_unique factors factor_laws (inverse factors q) p n
      ∙ rw (inverse_twice factors factor_laws q) (freely_reduce-same factors factor_laws q s.1)
