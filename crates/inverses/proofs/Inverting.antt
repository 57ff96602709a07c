-- The inverses of the words of a system, as many and in the same order.
use Rattle.std.proofs.Common.{◌<◌, ◌≡◌, ◌∙◌, ℕ, List, [], get_or, length, map, set, ap, sym, get_or-set_same}
use Rattle.std.proofs.lemmas.List.{map-set}
use lib.ListN.{get_or-map}
use Rattle.words.specs.Alphabet.{bytes}
use Rattle.words.specs.Words.{inverse}
use Rattle.words.proofs.Alphabet.{byte_laws}
use Rattle.words.proofs.Inverse.{inverse-nil}
use Rattle.systems.specs.Products.{word}

-- the inverse in a slot is that of its word, beyond the last slot too
pub inverse_at : (S : List (List ℕ)) (k : ℕ) → word bytes (map (inverse bytes) S) k ≡ inverse bytes (word bytes S k)
inverse_at S k =
    ap (λ (w : List ℕ). get_or (map (inverse bytes) S) k w) (sym (inverse-nil bytes byte_laws)) ∙ get_or-map (inverse bytes) S k []

-- after a word was put into a slot, its inverse alone is put there
pub inverses_set : (S T I : List (List ℕ)) (c : ℕ) (w : List ℕ) → I ≡ map (inverse bytes) S → c < length S → T ≡ set S c w
    → set I c (inverse bytes (word bytes T c)) ≡ map (inverse bytes) T
inverses_set S T I c w here inside put =
    rw (put, here, get_or-set_same S c w [] inside) (sym (map-set (inverse bytes) S c w))
