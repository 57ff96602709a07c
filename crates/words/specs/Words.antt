-- Words over any letters: free reduction, inverse and cancellation. A word is a list of letters, of any length.
use Rattle.std.specs.Prelude.{ℕ, suc, ◌≡◌, Bool, false, cond, List, [], ◌∷◌, ◌++◌, reverse, map}
use Rattle.words.specs.Alphabet.{Alphabet}

module _ {A : Type 0} (G : Alphabet A) where
  open G use {flip, same}

  -- a letter before a freely reduced word: where the word begins with its inverse, the two are removed
  abbrev pub push : A → List A → List A
  push x [] = x ∷ []
  push x (y ∷ w) = cond (same y (flip x)) w (x ∷ y ∷ w)

  -- "Free reduction removes neighbours of the kind aA or Aa until none are left"
  abbrev pub freely_reduce : List A → List A
  freely_reduce [] = []
  freely_reduce (x ∷ w) = push x (freely_reduce w)

  -- "none are left": no letter stands beside its inverse
  abbrev pub Irreducible : List A → Type 0
  Irreducible [] = Unit
  Irreducible (x ∷ []) = Unit
  Irreducible (x ∷ y ∷ w) = (same y (flip x) ≡ false) × Irreducible (y ∷ w)

  -- one removal: a pair of neighbours, anywhere in the word, is taken out
  pub data Removed : List A → List A → Type 0 where
    removed : {w v : List A} (before : List A) (x : A) (after : List A)
        → w ≡ before ++ (x ∷ flip x ∷ after) → v ≡ before ++ after → Removed w v

  -- any list of removals, one after the other
  pub data Removals : List A → List A → Type 0 where
    none : {w v : List A} → w ≡ v → Removals w v
    more : {w u v : List A} → Removed w u → Removals u v → Removals w v

  -- v is what free reduction leaves of w: some removals lead to it, "until none are left"
  pub record FreelyReducesTo (w v : List A) : Type 0 where
    pub removed : Removals w v
    pub none_left : Irreducible v

  -- "The inverse of a word is its letters read backward with case changed."
  unfoldable pub inverse : List A → List A
  inverse w = reverse (map flip w)

  -- a word, or its inverse
  abbrev pub signed : Bool → List A → List A
  signed inverted w = cond inverted (inverse w) w

  -- the length of the longest common prefix of two words
  abbrev pub common_prefix : List A → List A → ℕ
  common_prefix [] v = 0
  common_prefix (x ∷ u) [] = 0
  common_prefix (x ∷ u) (y ∷ v) = cond (same x y) (suc (common_prefix u v)) 0

  -- and of their longest common suffix; no call's contract speaks of it
  abbrev pub common_suffix : List A → List A → ℕ
  common_suffix u v = common_prefix (inverse u) (inverse v)

  -- how many pairs cancel between two freely reduced words, the end of the first against the beginning of the second
  unfoldable pub cancellation : List A → List A → ℕ
  cancellation u v = common_prefix (inverse u) v

-- each letter of a word is of a kind
abbrev pub Each : {A : Type 0} → (A → Type 0) → List A → Type 0
Each P [] = Unit
Each P (x ∷ w) = P x × Each P w
