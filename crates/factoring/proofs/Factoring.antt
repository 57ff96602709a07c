-- Writing a word as a product over a system: the leading factor is taken off, its letter is put into a list, and so on until nothing is left,
-- nothing leads what is left, or 63 factors are taken.
use Prim.Native.Nat.{ℕ, suc, ◌+◌, ◌-◌, ◌≤◌, ◌<◌}
use mathlib.Core.Path.{◌≡◌, refl, sym, ap, ap₂, ◌∙◌}
use mathlib.Core.Logic.{◌↔◌}
use mathlib.Core.Bool.{Bool, false, not, true, true≢false}
use Rattle.std.specs.Prelude.{IsTrue, None, Option, Some}
use Rattle.std.specs.Option.{option_map}
use mathlib.Core.List.{List, [], ◌∷◌, ◌++◌, map, append_assoc, append-nil}
use native.Mathlib.Omega.{arith}
use lib.ListN.{drop, length, length-append}
use Rattle.words.specs.Alphabet.{bytes}
use Rattle.words.specs.Words.{freely_reduce, inverse, signed}
use Rattle.words.proofs.Alphabet.{byte_laws}
use Rattle.words.proofs.FreeReduction.{freely_reduce_left, irreducible_of_same}
use Rattle.words.proofs.Inverse.{signed-inverse}
use Rattle.systems.specs.Products.{FreelyReduced, value, word}
use Rattle.systems.specs.declared.Factor.{Factor}
use Rattle.systems.specs.Factoring.{leading, factored}
use Rattle.systems.specs.Factors.{factor_byte}
use Rattle.systems.proofs.Leading.{leading_length}
use Rattle.systems.proofs.Logic.{option_map-none, option_map-some}
use Rattle.systems.proofs.Membership.{factored-nil, factored_spent, factored_stuck, factored-next}
use Rattle.records.specs.Records.{record_of}
use Rattle.slots.proofs.Systems.{record-length}
use Rattle.factoring.specs.TargetProduct.{target_word, product_for, is_found, product_after}
use Rattle.factoring.specs.ProductLetters.{product_letters}

-- a test for no letters, as the library states it
pub was_filled : {w : List ℕ} {none : Bool} → IsTrue none ↔ (w ≡ []) → none ≡ false → w ≡ [] → ⊥
was_filled told e z = true≢false (sym (told.1 z) ∙ e)

-- what is left of a word after the factor that leads it
module _ (S : List (List ℕ)) (x : Factor) (w empty begun rest : List ℕ) (nothing : empty ≡ [])
    (first : begun ≡ freely_reduce bytes (empty ++ signed bytes (not x.inverted) (word bytes S x.slot))) (then : rest ≡ freely_reduce bytes (begun ++ w)) where
  pub taken : rest ≡ freely_reduce bytes (inverse bytes (value bytes S x) ++ w)
  taken =
      then
      ∙ ap (λ (l : List ℕ). freely_reduce bytes (l ++ w))
      (first ∙ ap₂ (λ (a b : List ℕ). freely_reduce bytes (a ++ b)) nothing (sym (signed-inverse bytes byte_laws x.inverted (word bytes S x.slot))))
      ∙ sym (freely_reduce_left bytes byte_laws (inverse bytes (value bytes S x)) w)

  -- is no longer than the word
  pub taken_short : FreelyReduced bytes S → freely_reduce bytes w ≡ w → leading bytes S w ≡ Some x → length w ≤ 63 → length rest ≤ 63
  taken_short freely reduced leads short =
      omega (
        arith,
        short,
        ap length taken,
        leading_length bytes byte_laws S w x (freely x.slot) (irreducible_of_same bytes byte_laws w reduced) leads,
      )

-- the letters of a product, factor after factor
module _ (S : List (List ℕ)) where
  letters_nil : (m : ℕ) → product_letters m S [] ≡ Some []
  unfolding product_letters
  letters_nil m = rw (factored-nil bytes byte_laws S m)

  letters_spent : (w : List ℕ) → (w ≡ [] → ⊥) → product_letters 0 S w ≡ None
  unfolding product_letters
  letters_spent w h = rw (factored_spent bytes byte_laws S w h)

  letters_stuck : (m : ℕ) (w : List ℕ) → (w ≡ [] → ⊥) → leading bytes S w ≡ None → product_letters m S w ≡ None
  unfolding product_letters
  letters_stuck m w h e = rw (factored_stuck bytes byte_laws S m w h e)

  letters_next : (m : ℕ) (w : List ℕ) (x : Factor) → (w ≡ [] → ⊥) → leading bytes S w ≡ Some x
      → product_letters (suc m) S w
      ≡ option_map (◌∷◌ (factor_byte x)) (product_letters m S (freely_reduce bytes (inverse bytes (value bytes S x) ++ w)))
  unfolding product_letters
  letters_next m w x h e =
      let rest : Option (List Factor) = factored bytes S m (freely_reduce bytes (inverse bytes (value bytes S x) ++ w)) in
      ap (option_map (map factor_byte)) (factored-next bytes byte_laws S m w x h e) ∙ go rest
    where
      go : (o : Option (List Factor))
          → option_map (map factor_byte) (option_map (◌∷◌ x) o) ≡ option_map (◌∷◌ (factor_byte x)) (option_map (map factor_byte) o)
      go None = refl
      go (Some p) = refl

-- factors of some letters are taken off the word w, and v is left: the others are those of the product that is left
pub record Left (S : List (List ℕ)) (w v letters : List ℕ) : Type 0 where
  pub resumes : product_letters 63 S w ≡ option_map (◌++◌ letters) (product_letters (63 - length letters) S v)

map_joined : (l : List ℕ) (b : ℕ) (o : Option (List ℕ)) → option_map (◌++◌ l) (option_map (◌∷◌ b) o) ≡ option_map (◌++◌ (l ++ (b ∷ []))) o
map_joined l b None = refl
map_joined l b (Some q) = ap Some (sym (append_assoc l (b ∷ []) q))

-- one factor more, where there are fewer than 63
pub one_more : (letters : List ℕ) (b : ℕ) {letters₁ : List ℕ} → length letters < 63 → letters₁ ≡ letters ++ (b ∷ []) → length letters₁ ≤ 63
one_more letters b more e = omega (arith, more, ap length e, length-append letters (b ∷ []))

module _ (S : List (List ℕ)) (w v letters : List ℕ) (here : Left S w v letters) where
  -- nothing is left
  pub left_end : v ≡ [] → Some letters ≡ product_letters 63 S w
  left_end z =
      let none_left : product_letters (63 - length letters) S v ≡ Some [] = rw z (letters_nil S (63 - length letters)) in
      sym (here.resumes ∙ ap (option_map (◌++◌ letters)) none_left ∙ ap Some (append-nil letters))

  module _ (filled : v ≡ [] → ⊥) where
    left_none : product_letters (63 - length letters) S v ≡ None → None ≡ product_letters 63 S w
    left_none e = sym (here.resumes ∙ ap (option_map (◌++◌ letters)) e)

    -- letters are left after 63 factors
    pub left_spent : length letters ≡ 63 → None ≡ product_letters 63 S w
    left_spent l =
        let z : 63 - length letters ≡ 0 = omega arith in
        left_none (ap (λ (k : ℕ). product_letters k S v) z ∙ letters_spent S v filled)

    module _ (lead : Option Factor) (told : lead ≡ leading bytes S v) where
      -- nothing leads what is left
      pub left_stuck : {none : Option (List ℕ)} → lead ≡ None → none ≡ None → none ≡ product_letters 63 S w
      left_stuck e none = none ∙ left_none (letters_stuck S (63 - length letters) v filled (sym told ∙ e))

      module _ {x : Factor} (found : lead ≡ Some x) where
        pub left_leads : leading bytes S v ≡ Some x
        left_leads = sym told ∙ found

        -- the leading factor is taken off
        pub left_more : (rest : List ℕ) (b : ℕ) {letters₁ : List ℕ} → length letters < 63
            → rest ≡ freely_reduce bytes (inverse bytes (value bytes S x) ++ v) → b ≡ factor_byte x → letters₁ ≡ letters ++ (b ∷ [])
            → Left S w rest letters₁
        left_more rest b {letters₁} more off letter joined =
            let longer : length letters₁ ≡ length letters + 1 = rw (joined, length-append letters (b ∷ [])) refl in
            let step : 63 - length letters ≡ suc (63 - length letters₁) = omega (arith, longer) in
            let same : letters ++ (factor_byte x ∷ []) ≡ letters₁ = rw (joined, letter) refl in
            let left_over : Option (List ℕ) = product_letters (63 - length letters₁) S rest in
            let next : product_letters (63 - length letters) S v ≡ option_map (◌∷◌ (factor_byte x)) left_over =
            ap (λ (k : ℕ). product_letters k S v) step ∙ letters_next S (63 - length letters₁) v x filled left_leads
            ∙ ap (λ (l : List ℕ). option_map (◌∷◌ (factor_byte x)) (product_letters (63 - length letters₁) S l)) (sym off) in
            record {
              resumes =
                  here.resumes ∙ ap (option_map (◌++◌ letters)) next ∙ map_joined letters (factor_byte x) left_over
                  ∙ ap (λ (l : List ℕ). option_map (◌++◌ l) left_over) same;
            }

-- the verdict and the product buffer
module _ (S : List (List ℕ)) (target word : List ℕ) (found : Option (List ℕ)) (loaded : word ≡ target_word target)
    (told : found ≡ product_letters 63 S word) where
  whole_told : product_letters 63 S (target_word target) ≡ found
  whole_told = rw (← loaded) (sym told)

  module _ (e : found ≡ None) where
    none_found : product_for S (target_word target) ≡ None
    unfolding product_letters
    none_found = option_map-none (map factor_byte) (factored bytes S 63 (target_word target)) (whole_told ∙ e)

    pub no_member : false ≡ is_found (product_for S (target_word target))
    no_member = sym (ap is_found none_found)

    -- "'Not a member' .. leaves the product buffer alone."
    pub product_kept : (buffer : List ℕ) → buffer ≡ product_after (product_for S (target_word target)) buffer
    product_kept buffer = sym (ap (λ (o : Option (List Factor)). product_after o buffer) none_found)

  module _ {letters : List ℕ} (e : found ≡ Some letters) where
    some_found : (p : List Factor) × (product_for S (target_word target) ≡ Some p) × (map factor_byte p ≡ letters)
    unfolding product_letters
    some_found = option_map-some (map factor_byte) (factored bytes S 63 (target_word target)) (whole_told ∙ e)

    pub a_member : true ≡ is_found (product_for S (target_word target))
    a_member = sym (ap is_found some_found.1)

    pub product-written : {y : List ℕ} (buffer : List ℕ) → y ≡ record_of letters → length letters ≤ 63
        → y ++ drop 64 buffer ≡ product_after (product_for S (target_word target)) buffer
    product-written {y} buffer written short =
        let (p, is, spelt) = some_found in
        let same : y ≡ record_of (map factor_byte p) = written ∙ ap record_of (sym spelt) in
        let long : 64 ≡ length (record_of (map factor_byte p)) = sym (record-length (map factor_byte p) (rw spelt short)) in
        ap₂ (λ (l : List ℕ) (k : ℕ). l ++ drop k buffer) same long ∙ sym (ap (λ (o : Option (List Factor)). product_after o buffer) is)
