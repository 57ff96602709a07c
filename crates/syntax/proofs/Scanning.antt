-- The scan goes through the spelling of every tree, and leaves the open signs as they were.
use Prim.Native.Nat.{ℕ}
use mathlib.Core.Path.{◌∙◌, ◌≡◌, ap, refl, sym}
use mathlib.Core.Bool.{Bool, false, true}
use Rattle.std.specs.Prelude.{None, Some}
use mathlib.Core.List.{List, [], ◌++◌, ◌∷◌, append_assoc, append-nil}
use Rattle.records.specs.Records.{is_letter}
use Rattle.syntax.specs.Trees.{Digits, Power, Product, Proper, ProperDigits, ProperPower, bracket, group, is_digit, letter, nothing, one, plain, raised, spelled, spelled_digits, spelled_minus, spelled_power, two}
use Rattle.syntax.specs.Scan.{State, awaited, closed, complete, state, state_after, step}
use Rattle.syntax.specs.declared.Open.{Open}
use Rattle.syntax.specs.declared.Open.TheVariants.{First, Round, Second}
use Rattle.syntax.specs.declared.Mode.{Mode}
use Rattle.syntax.specs.declared.Mode.TheVariants.{After, Caret, Minus, OneDigit, Ready}
use Rattle.syntax.proofs.Bytes.{digit_no_sign, letter_no_digit, letter_no_sign}

-- a text may end here, or a factor start
abbrev pub Between : Mode → Type 0
Between Ready = Unit
Between After = Unit
Between Caret = ⊥
Between Minus = ⊥
Between OneDigit = Unit

pub after-step : (m : Mode) (s : List Open) (b : ℕ) (r : List ℕ) (q : State) → step m s b ≡ Some q → state_after (state m s) (b ∷ r) ≡ state_after q r
after-step m s b r q e = rw e

pub after_stop : (m : Mode) (s : List Open) (b : ℕ) (r : List ℕ) → step m s b ≡ None → state_after (state m s) (b ∷ r) ≡ None
after_stop m s b r e = rw e

pub step-letter : (m : Mode) (s : List Open) (x : ℕ) → Between m → is_letter x ≡ true → step m s x ≡ Some (state After s)
step-letter Ready s x h e = rw e
step-letter After s x h e = rw (letter_no_sign x 94 e refl, e)
step-letter Caret s x h e = absurd h
step-letter Minus s x h e = absurd h
step-letter OneDigit s x h e = rw (letter_no_digit x e, e)

pub step-group : (m : Mode) (s : List Open) → Between m → step m s 40 ≡ Some (state Ready (Round ∷ s))
step-group Ready s h = refl
step-group After s h = refl
step-group Caret s h = absurd h
step-group Minus s h = absurd h
step-group OneDigit s h = refl

pub step-bracket : (m : Mode) (s : List Open) → Between m → step m s 91 ≡ Some (state Ready (First ∷ s))
step-bracket Ready s h = refl
step-bracket After s h = refl
step-bracket Caret s h = absurd h
step-bracket Minus s h = absurd h
step-bracket OneDigit s h = refl

close_ready : (o : Open) (s : List Open) → step Ready (o ∷ s) (awaited o) ≡ Some (closed o s)
close_ready Round s = refl
close_ready First s = refl
close_ready Second s = refl

close_after : (o : Open) (s : List Open) → step After (o ∷ s) (awaited o) ≡ Some (closed o s)
close_after Round s = refl
close_after First s = refl
close_after Second s = refl

close_digit : (o : Open) (s : List Open) → step OneDigit (o ∷ s) (awaited o) ≡ Some (closed o s)
close_digit Round s = refl
close_digit First s = refl
close_digit Second s = refl

pub step_close : (m : Mode) (o : Open) (s : List Open) → Between m → step m (o ∷ s) (awaited o) ≡ Some (closed o s)
step_close Ready o s h = close_ready o s
step_close After o s h = close_after o s
step_close Caret o s h = absurd h
step_close Minus o s h = absurd h
step_close OneDigit o s h = close_digit o s

-- a state_after that comes to a state between factors and goes on from there
pub record Through (q : State) (u : List ℕ) (s : List Open) (r : List ℕ) : Type 0 where
  pub mode : Mode
  pub between : Between mode
  pub same : state_after q (u ++ r) ≡ state_after (state mode s) r

module _ (s : List Open) (r : List ℕ) where
  scan_digits : (m : Mode) (d : Digits) → ProperDigits d → ((x : ℕ) → is_digit x ≡ true → step m s x ≡ Some (state OneDigit s)) → Through (state m s) (spelled_digits d) s r
  scan_digits m (one d) h f = record { mode = OneDigit; between = tt; same = after-step m s d r _ (f d h) }
  scan_digits m (two d e) h f =
      record {
        mode = Ready;
        between = tt;
        same = after-step m s d (e ∷ r) _ (f d h.0) ∙ after-step OneDigit s e r (state Ready s) (rw h.1);
      }

  scan-signed : (minus : Bool) (d : Digits) → ProperDigits d → Through (state Caret s) (spelled_minus minus ++ spelled_digits d) s r
  scan-signed true d h =
      let a = scan_digits Minus d h (λ x e. rw e) in
      record { mode = a.mode; between = a.between; same = a.same }
  scan-signed false d h = scan_digits Caret d h (λ x e. rw (digit_no_sign x 45 e refl, e))

  pub scan_power : (p : Power) → ProperPower p → Through (state After s) (spelled_power p) s r
  scan_power plain h = record { mode = After; between = tt; same = refl }
  scan_power (raised minus d) h =
      let a = scan-signed minus d h in
      record { mode = a.mode; between = a.between; same = a.same }

-- a factor's first byte, then the rest of the factor, then the product after it
then : (q q' : State) (b : ℕ) (u v : List ℕ) (s : List Open) (r : List ℕ) → ((w : List ℕ) → state_after q (b ∷ w) ≡ state_after q' w)
    → (t : Through q' u s (v ++ r)) → Through (state t.mode s) v s r → Through q (b ∷ (u ++ v)) s r
then q q' b u v s r e t w =
    record {
      mode = w.mode;
      between = w.between;
      same = e ((u ++ v) ++ r) ∙ rw append_assoc (t.same ∙ w.same);
    }

pub scan-spelled : (t : Product) → Proper t → (m : Mode) → Between m → (s : List Open) (r : List ℕ) → Through (state m s) (spelled t) s r
scan-spelled nothing h m k s r = record { mode = m; between = k; same = refl }
scan-spelled (letter x p t) h m k s r =
    let a = scan_power s (spelled t ++ r) p h.1 in
    then (state m s) (state After s) x (spelled_power p) (spelled t) s r (λ w. after-step m s x w _ (step-letter m s x k h.0)) a
    (scan-spelled t h.2 a.mode a.between s r)
scan-spelled (group u p t) h m k s r =
    let a = scan-spelled u h.0 Ready tt (Round ∷ s) (41 ∷ ((spelled_power p ++ spelled t) ++ r)) in
    let b = scan_power s (spelled t ++ r) p h.1 in
    let c = scan-spelled t h.2 b.mode b.between s r in
    record {
      mode = c.mode;
      between = c.between;
      same =
          after-step m s 40 ((spelled u ++ (41 ∷ (spelled_power p ++ spelled t))) ++ r) _ (step-group m s k) ∙ ap (state_after (state Ready (Round ∷ s))) (append_assoc (spelled u) (41 ∷ (spelled_power p ++ spelled t)) r) ∙ a.same
          ∙ after-step a.mode (Round ∷ s) 41 ((spelled_power p ++ spelled t) ++ r) _ (step_close a.mode Round s a.between)
          ∙ ap (state_after (state After s)) (append_assoc (spelled_power p) (spelled t) r) ∙ b.same ∙ c.same;
    }
scan-spelled (bracket u v p t) h m k s r =
    let w = (spelled_power p ++ spelled t) ++ r in
    let a = scan-spelled u h.0 Ready tt (First ∷ s) (44 ∷ (spelled v ++ (93 ∷ w))) in
    let d = scan-spelled v h.1 Ready tt (Second ∷ s) (93 ∷ w) in
    let b = scan_power s (spelled t ++ r) p h.2 in
    let c = scan-spelled t h.3 b.mode b.between s r in
    record {
      mode = c.mode;
      between = c.between;
      same =
          after-step m s 91 ((spelled u ++ (44 ∷ (spelled v ++ (93 ∷ (spelled_power p ++ spelled t))))) ++ r) _ (step-bracket m s k)
          ∙ ap (state_after (state Ready (First ∷ s)))
          (append_assoc (spelled u) (44 ∷ (spelled v ++ (93 ∷ (spelled_power p ++ spelled t)))) r
          ∙ ap (λ (l : List ℕ). spelled u ++ (44 ∷ l)) (append_assoc (spelled v) (93 ∷ (spelled_power p ++ spelled t)) r))
          ∙ a.same
          ∙ after-step a.mode (First ∷ s) 44 (spelled v ++ (93 ∷ w)) _ (step_close a.mode First s a.between)
          ∙ d.same
          ∙ after-step d.mode (Second ∷ s) 93 w _ (step_close d.mode Second s d.between)
          ∙ ap (state_after (state After s)) (append_assoc (spelled_power p) (spelled t) r) ∙ b.same ∙ c.same;
    }

pub complete_between : (m : Mode) → Between m → complete m [] ≡ true
complete_between Ready h = refl
complete_between After h = refl
complete_between Caret h = absurd h
complete_between Minus h = absurd h
complete_between OneDigit h = refl

-- the text was gone through, and may end here
pub record Accepted (q : State) (r : List ℕ) : Type 0 where
  pub last : State
  pub reaches : state_after q r ≡ Some last
  pub ends : complete last.mode last.opens ≡ true

pub spelled-accepted : (t : Product) → Proper t → Accepted (state Ready []) (spelled t)
spelled-accepted t h =
    let a = scan-spelled t h Ready tt [] [] in
    record {
      last = state a.mode [];
      reaches = ap (state_after (state Ready [])) (sym (append-nil (spelled t))) ∙ a.same;
      ends = complete_between a.mode a.between;
    }
