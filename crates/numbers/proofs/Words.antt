-- Words put into a buffer letter by letter.
use Rattle.std.proofs.Common.{ℕ, ◌+◌, ◌<◌, ◌≡◌, List, [], ◌++◌, ◌∷◌, get_or, length, map, set, take, ap, sym, ◌∙◌}
use Rattle.std.proofs.lemmas.List.{map_push, take_more, take_more_set}

-- one letter more, made from a letter of another word
pub map_more : (f : ℕ → ℕ) (s w : List ℕ) (i x d : ℕ) → i < length s → i < length w → take i s ≡ map f (take i w) → x ≡ f (get_or w i d)
    → take (i + 1) (set s i x) ≡ map f (take (i + 1) w)
map_more f s w i x d room inside here told =
    take_more_set s i x room ∙ ap (λ (l : List ℕ). l ++ (x ∷ [])) here ∙ ap (λ (y : ℕ). map f (take i w) ++ (y ∷ [])) told
    ∙ sym (map_push f (take i w) (get_or w i d)) ∙ ap (map f) (sym (take_more w i d inside))
