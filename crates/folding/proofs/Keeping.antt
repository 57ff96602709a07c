-- A step is filed, or two points become one: what holds all the time holds on.
use Prim.Native.Nat.{ℕ, zero, suc, ◌≤◌, ◌<◌, min}
use mathlib.Core.Bool.{true}
use mathlib.Core.List.{List, [], ◌∷◌, map}
use mathlib.Core.Logic.{inl, inr}
use mathlib.Core.Path.{◌≡◌, refl, sym, ap, ◌∙◌, subst}
use native.Mathlib.Decide.{dec_lt, ℕ_discrete}
use native.Mathlib.Omega.{arith}
use lib.ListN.{get_or, get_or-map, length, length-map, length-set, set}
use Rattle.std.specs.Prelude.{All, Contains, None, Some}
use Rattle.std.proofs.lemmas.List.{get_or-set_other, get_or-set_same}
use Rattle.std.proofs.lemmas.List.Elements.{All-contains, Contains-append_cases}
use Rattle.std.proofs.lemmas.Option.{none-some, same_Some}
use Rattle.words.specs.Alphabet.{bytes}
use Rattle.words.proofs.Alphabet.{byte_laws}
use Rattle.words.proofs.Contained.{contains_of_map}
use Rattle.graphs.specs.Folding.{total}
use Rattle.graphs.specs.Graphs.{Fold, Step, back, joined, more, moved_edge, none as no_fold, steps}
use Rattle.graphs.specs.declared.Edge.{Edge}
use Rattle.graphs.proofs.Folds.{fold_falls, folds_then}
use Rattle.graphs.proofs.Joined.{joined-le, joined_base, joined_cases, joined_twice}
use Rattle.graphs.proofs.Steps.{step_moved}
use Rattle.records.specs.Records.{is_letter}
use Rattle.records.proofs.RoundTrip.{letter-flip, letter_high, letter_low}
use Rattle.folding.specs.Filing.{entry_point, lead, place, point}
use Rattle.folding.specs.Sweeps.{EdgeAmong, FoldedSoFar, IsFiled, folded_edges}

-- equal places are those of one point and one letter
place_one : (p x q y : ℕ) → is_letter x ≡ true → is_letter y ≡ true → place p x ≡ place q y → (p ≡ q) × (x ≡ y)
place_one p x q y a b e =
    let la = letter_low x a in
    let ha = letter_high x a in
    let lb = letter_low y b in
    let hb = letter_high y b in
    let same : p ≡ q = omega (arith, la, ha, lb, hb, e) in
    (same, omega (arith, la, ha, lb, hb, e, same))

-- a step is an edge among the same points
pub step_among : (n : ℕ) (edges : List Edge) → All (EdgeAmong n) edges → (s : Edge) → Contains (steps bytes edges) s → EdgeAmong n s
step_among n edges h s k = elim (Contains-append_cases edges (map (back bytes) edges) s k) [
  | inl i ↦ All-contains (EdgeAmong n) edges s h i
  | inr i ↦ (
      let r = contains_of_map (back bytes) edges s i in
      let a = All-contains (EdgeAmong n) edges r.0 h r.1 in
      subst (EdgeAmong n) r.2 (a.1, a.0, letter-flip r.0.letter a.2))
]

lead-is : (points index : List ℕ) (p x : ℕ) → lead points index p x ≡ entry_point points (get_or index (place p x) 0)
unfolding lead
lead-is points index p x = refl

filed_some : (points : List ℕ) (k q : ℕ) → entry_point points k ≡ Some q → (r : ℕ) × (k ≡ suc r) × (point points r ≡ q)
filed_some points zero q h = absurd (none-some q h)
filed_some points (suc r) q h = (r, refl, same_Some (point points r) q h)

module _ (points index : List ℕ) (at q p x : ℕ) where
  -- where points lead after one more step was filed
  lead_there : at < length index → place p x ≡ at → lead points (set index at (suc q)) p x ≡ Some (point points q)
  lead_there h e = lead-is points (set index at (suc q)) p x
      ∙ ap (entry_point points) (ap (λ (k : ℕ). get_or (set index at (suc q)) k 0) e ∙ get_or-set_same index at (suc q) 0 h)

  lead_elsewhere : (place p x ≡ at → ⊥) → lead points (set index at (suc q)) p x ≡ lead points index p x
  lead_elsewhere n = lead-is points (set index at (suc q)) p x
      ∙ ap (entry_point points) (get_or-set_other index at (place p x) (suc q) 0 n) ∙ sym (lead-is points index p x)

-- and after two points were made one
point_joined : (r q : ℕ) (points : List ℕ) (p : ℕ) → point (map (joined r q) points) p ≡ joined r q (point points p)
point_joined r q points p = ap (get_or (map (joined r q) points) p) (sym (joined_base r q)) ∙ get_or-map (joined r q) points p 0

edges_joined : (r q : ℕ) (points : List ℕ) (t : List Edge)
    → folded_edges t (map (joined r q) points) ≡ map (moved_edge (joined r q)) (folded_edges t points)
edges_joined r q points [] = refl
edges_joined r q points (e ∷ t) = rw (point_joined r q points e.from, point_joined r q points e.to, edges_joined r q points t) refl

filed_joined : (r q : ℕ) (points : List ℕ) (k v : ℕ) → entry_point (map (joined r q) points) k ≡ Some v
    → (u : ℕ) × (entry_point points k ≡ Some u) × (joined r q u ≡ v)
filed_joined r q points zero v h = absurd (none-some v h)
filed_joined r q points (suc k) v h = (point points k, refl, sym (point_joined r q points k) ∙ same_Some (point (map (joined r q) points) k) v h)

module _ (edges : List Edge) (points index : List ℕ) (f : FoldedSoFar edges points index) where
  -- where a point leads is a point that has not become another one
  pub lead_settled : (p x q : ℕ) → lead points index p x ≡ Some q → (point points q ≡ q) × (q < length points)
  lead_settled p x q h =
      let (r, e, i) = filed_some points (get_or index (place p x) 0) q (sym (lead-is points index p x) ∙ h) in
      let inside : r < length points = omega (arith, e, f.fits.filed_low (place p x)) in
      (subst (λ (z : ℕ). point points z ≡ z) i (f.settled r), subst (λ (z : ℕ). z < length points) i (f.fits.low r inside))

  module _ (s : Edge) (there : Contains (steps bytes edges) s) where
    pub among : EdgeAmong (length points) s
    among = step_among (length points) edges f.among s there

    taken : Step bytes (folded_edges edges points) (point points s.from) s.letter (point points s.to)
    taken = step_moved bytes byte_laws (point points) edges s.from s.letter s.to there

    abbrev at : ℕ
    at = place (point points s.from) s.letter

    inside : at < length index
    inside = omega (arith, f.fits.room, f.fits.few, f.fits.low s.from among.0, letter_low s.letter among.2, letter_high s.letter among.2)

    module _ (nowhere : lead points index (point points s.from) s.letter ≡ None) where
      abbrev index' : List ℕ
      index' = set index at (suc (point points s.to))

      vacant_sound : (p x q : ℕ) → is_letter x ≡ true → point points p ≡ p → lead points index' p x ≡ Some q → Step bytes (folded_edges edges points) p x q
      vacant_sound p x q l o h = elim (ℕ_discrete (place p x) at) [
        | yes e ↦ (
            let one = place_one p x (point points s.from) s.letter l among.2 e in
            let to : point points s.to ≡ q = sym (f.settled s.to) ∙ same_Some (point points (point points s.to)) q (sym (lead_there points index at (point points s.to) p x inside e) ∙ h) in
            rw (one.0, one.1, ← to) taken)
        | no n ↦ f.sound p x q l o (sym (lead_elsewhere points index at (point points s.to) p x n) ∙ h)
      ]

      vacant_low : (i : ℕ) → get_or index' i 0 ≤ length points
      vacant_low i = elim (ℕ_discrete i at) [
        | yes e ↦ rw (e, get_or-set_same index at (suc (point points s.to)) 0 inside) (f.fits.low s.to among.1)
        | no n ↦ rw (get_or-set_other index at i (suc (point points s.to)) 0 n) (f.fits.filed_low i)
      ]

      pub vacant_kept : FoldedSoFar edges points index'
      vacant_kept =
          record {
            fits = record { few = f.fits.few; room = omega (arith, length-set index at (suc (point points s.to)), f.fits.room); low = f.fits.low; filed_low = vacant_low };
            among = f.among;
            folds = f.folds;
            base = f.base;
            settled = f.settled;
            sound = vacant_sound;
          }

      pub vacant_filed : IsFiled points index' s
      vacant_filed = lead_there points index at (point points s.to) (point points s.from) s.letter inside refl ∙ ap (λ (z : ℕ). Some z) (f.settled s.to)

      -- what was filed stays filed
      pub vacant_stays : (t : Edge) → IsFiled points index t → IsFiled points index' t
      vacant_stays t h = elim (ℕ_discrete (place (point points t.from) t.letter) at) [
        | yes e ↦ absurd (none-some (point points t.to)
            (sym nowhere ∙ lead-is points index (point points s.from) s.letter
            ∙ ap (λ (k : ℕ). entry_point points (get_or index k 0)) (sym e) ∙ sym (lead-is points index (point points t.from) t.letter) ∙ h))
        | no n ↦ lead_elsewhere points index at (point points s.to) (point points t.from) t.letter n ∙ h
      ]

    module _ (r : ℕ) (is : lead points index (point points s.from) s.letter ≡ Some r) (differ : r ≡ point points s.to → ⊥) where
      abbrev q : ℕ
      q = point points s.to

      abbrev points' : List ℕ
      points' = map (joined r q) points

      fold : Fold bytes (folded_edges edges points) (folded_edges edges points')
      fold =
          record {
            point = point points s.from;
            letter = s.letter;
            one = r;
            other = q;
            two_points = differ;
            to_one = f.sound (point points s.from) s.letter r among.2 (f.settled s.from) is;
            to_other = taken;
            folded_together = edges_joined r q points edges;
          }

      pub joined_falls : total (folded_edges edges points') < total (folded_edges edges points)
      joined_falls = fold_falls bytes byte_laws fold

      -- the smaller of the two has not become another point
      smaller_own : point points (min r q) ≡ min r q
      smaller_own = elim (dec_lt q r) [
        | yes l ↦ (let e : min r q ≡ q = omega arith in rw (e) (f.settled s.to))
        | no l ↦ (let e : min r q ≡ r = omega arith in rw (e) (lead_settled (point points s.from) s.letter r is).0)
      ]

      joined_own : (v : ℕ) → point points v ≡ v → point points (joined r q v) ≡ joined r q v
      joined_own v o = elim (joined_cases r q v) [
        | inl e ↦ rw (e) o
        | inr e ↦ rw (e.1) smaller_own
      ]

      joined_settled : (p : ℕ) → point points' (point points' p) ≡ point points' p
      joined_settled p =
          ap (point points') (point_joined r q points p) ∙ point_joined r q points (joined r q (point points p))
          ∙ ap (joined r q) (joined_own (point points p) (f.settled p)) ∙ joined_twice r q (point points p) ∙ sym (point_joined r q points p)

      -- a point that has not become another one had not before
      own_before : (p : ℕ) → joined r q (point points p) ≡ p → point points p ≡ p
      own_before p h = elim (joined_cases r q (point points p)) [
        | inl e ↦ sym e ∙ h
        | inr e ↦ rw (sym e.1 ∙ h) at smaller_own
      ]

      joined_sound : (p x v : ℕ) → is_letter x ≡ true → point points' p ≡ p → lead points' index p x ≡ Some v → Step bytes (folded_edges edges points') p x v
      joined_sound p x v l o h =
          let own : joined r q (point points p) ≡ p = sym (point_joined r q points p) ∙ o in
          let before : point points p ≡ p = own_before p own in
          let (u, e, i) = filed_joined r q points (get_or index (place p x) 0) v (sym (lead-is points' index p x) ∙ h) in
          let step = f.sound p x u l before (lead-is points index p x ∙ e) in
          let stays : joined r q p ≡ p = ap (joined r q) (sym before) ∙ own in
          rw (edges_joined r q points edges) (rw (stays, i) at (step_moved bytes byte_laws (joined r q) (folded_edges edges points) p x u step))

      joined_low : (p : ℕ) → p < length points' → point points' p < length points'
      joined_low p h =
          let same : length points' ≡ length points = length-map points (joined r q) in
          let l : point points p < length points = f.fits.low p (omega (arith, h, same)) in
          omega (arith, point_joined r q points p, joined-le r q (point points p), l, same)

      pub joined_kept : FoldedSoFar edges points' index
      joined_kept =
          let same : length points' ≡ length points = length-map points (joined r q) in
          record {
            fits = record { few = omega (arith, same, f.fits.few); room = omega (arith, same, f.fits.room); low = joined_low; filed_low = λ i. omega (arith, same, f.fits.filed_low i) };
            among = rw (same) f.among;
            folds = folds_then bytes byte_laws f.folds (more fold (no_fold refl));
            base = point_joined r q points 0 ∙ ap (joined r q) f.base ∙ joined_base r q;
            settled = joined_settled;
            sound = joined_sound;
          }
