-- The next move with its rule: it is the next move, and the rule is the one that finds it.
use Prim.Native.Nat.{◌<◌, suc, zero, ℕ}
use mathlib.Core.List.{List}
use mathlib.Core.Logic.{inl, inr}
use mathlib.Core.Path.{◌∙◌, ◌≡◌, ap, refl, sym}
use native.Mathlib.Omega.{arith}
use lib.ListN.{get_or, length, take}
use Rattle.std.specs.Prelude.{None, Option, Some, is_none}
use Rattle.words.specs.Alphabet.{Alphabet}
use Rattle.words.proofs.Alphabet.{AlphabetLaws}
use Rattle.systems.specs.declared.Found.{Found}
use Rattle.systems.specs.declared.Move.{Move}
use Rattle.systems.specs.declared.Rule.{Rule}
use Rattle.systems.specs.declared.Rule.TheVariants.{HalfEnd, Shortening}
use Rattle.systems.specs.Moves.{made, made_all, moved_word}
use Rattle.systems.specs.Products.{FreelyReduced, word}
use Rattle.systems.specs.Rules.{found_next, half_end, moves_within, next, rule_letter, rule_of, shortening, with_rule}
use Rattle.systems.proofs.HalfEnds.{half_end-same-length}
use Rattle.systems.proofs.Logic.{option_cases, option_map-none, option_map-some}
use Rattle.systems.proofs.Shortening.{shortening-none, shortening_shorter}
use Rattle.systems.proofs.Neither.{moves_more, moves_stop, next_from, next-half_end, next-shortening}

with_rule-none : (rule : Rule) (o : Option Move) → is_none (with_rule rule o) ≡ is_none o
with_rule-none rule None = refl
with_rule-none rule (Some m) = refl

half_end-shortening : HalfEnd ≡ Shortening → ⊥
half_end-shortening e = let z : ◌≡◌ {A = ℕ} 104 115 = ap rule_letter e in absurd (omega arith)

module _ {A : Type 0} (G : Alphabet A) (S : List (List A)) where
  rule_shortening : (m : Move) → shortening G S ≡ Some m → rule_of G S ≡ Shortening
  unfolding rule_of
  rule_shortening m e = rw (e, rule_of)

  rule_half_end : shortening G S ≡ None → rule_of G S ≡ HalfEnd
  unfolding rule_of
  rule_half_end e = rw (e, rule_of)

  -- it is found by one search after the other
  module _ {tried : Option Found} (told : tried ≡ with_rule Shortening (shortening G S)) where
    pub found_first : {f : Found} → tried ≡ Some f → tried ≡ found_next G S
    unfolding found_next
    found_first e =
        let some = option_map-some _ (shortening G S) (sym told ∙ e) in
        told ∙ ap (with_rule Shortening) (some.1 ∙ sym (next-shortening G S some.0 some.1))
        ∙ ap (λ (r : Rule). with_rule r (next G S)) (sym (rule_shortening some.0 some.1))

    pub found_then : {found : Option Found} → tried ≡ None → found ≡ with_rule HalfEnd (half_end G S) → found ≡ found_next G S
    unfolding found_next
    found_then e given =
        let nothing = option_map-none _ (shortening G S) (sym told ∙ e) in
        given ∙ ap (with_rule HalfEnd) (sym (next-half_end G S nothing))
        ∙ ap (λ (r : Rule). with_rule r (next G S)) (sym (rule_half_end nothing))

  -- and is the next move
  pub found_next-none : is_none (found_next G S) ≡ is_none (next G S)
  unfolding found_next
  found_next-none = with_rule-none (rule_of G S) (next G S)

  pub found_none : found_next G S ≡ None → next G S ≡ None
  unfolding found_next
  found_none e = option_map-none _ (next G S) e

  module _ (f : Found) (e : found_next G S ≡ Some f) where
    pub found_move : next G S ≡ Some f.next
    unfolding found_next
    found_move =
        let some = option_map-some _ (next G S) e in
        some.1 ∙ ap (λ (g : Found). Some g.next) some.2

    pub found_rule : f.rule ≡ rule_of G S
    unfolding found_next
    found_rule = sym (ap (λ (g : Found). g.rule) (option_map-some _ (next G S) e).2)

-- each move of a run is the next one of the words that those before it leave
pub moves_next : {A : Type 0} (G : Alphabet A) (n : ℕ) (S : List (List A)) (j : ℕ) (d : Move) → j < length (moves_within G n S)
    → next G (made_all G S (take j (moves_within G n S))) ≡ Some (get_or (moves_within G n S) j d)
moves_next G zero S j d h = absurd (omega arith)
moves_next G (suc n) S zero d h = elim (option_cases (next G S)) [
  | inl e ↦ let none_left = ap length (moves_stop G (suc n) S e) in absurd (omega (arith, h, none_left))
  | inr r ↦ rw (moves_more G n S r.0 r.1) r.1
]
moves_next G (suc n) S (suc j) d h = elim (option_cases (next G S)) [
  | inl e ↦ let none_left = ap length (moves_stop G (suc n) S e) in absurd (omega (arith, h, none_left))
  | inr r ↦
      let more = ap length (moves_more G n S r.0 r.1) in
      rw (moves_more G n S r.0 r.1) (moves_next G n (made G S r.0) j d (omega (arith, h, more)))
]

-- the rule of a move is the one that finds it: a shortening makes its word shorter, and a half-end move keeps its length
module _ {A : Type 0} (G : Alphabet A) (L : AlphabetLaws G) (S : List (List A)) (freely : FreelyReduced G S) (m : Move) (e : next G S ≡ Some m) where
  pub by_shortening : rule_of G S ≡ Shortening → shortening G S ≡ Some m
  by_shortening r = elim (next_from G S m e) [
    | inl s ↦ s
    | inr h ↦ absurd (half_end-shortening (sym (rule_half_end G S h.0) ∙ r))
  ]

  pub by_half_end : rule_of G S ≡ HalfEnd → (shortening G S ≡ None) × (half_end G S ≡ Some m)
  by_half_end r = elim (next_from G S m e) [
    | inl s ↦ absurd (half_end-shortening (sym r ∙ rule_shortening G S m s))
    | inr h ↦ h
  ]

  pub rule_shortens : rule_of G S ≡ Shortening → length (moved_word G S m) < length (word G S m.changed)
  rule_shortens r = shortening_shorter G L S freely m (by_shortening r)

  pub rule_keeps_length : rule_of G S ≡ HalfEnd → length (moved_word G S m) ≡ length (word G S m.changed)
  rule_keeps_length r =
      let h = by_half_end r in
      half_end-same-length G L S freely ((shortening-none G L S freely).0 h.0) m h.1
