-- An output in parts: the line of a refusal, or the lines of an answer.
use Prim.Native.Nat.{◌+◌, ◌≤◌, ℕ}
use mathlib.Core.Bool.{true}
use mathlib.Core.List.{List, ◌++◌}
use Rattle.std.specs.Prelude.{Option, Some, Ok}
use mathlib.Core.Path.{◌≡◌, refl}
use native.Mathlib.Omega.{arith}
use lib.Dec.{leb}
use lib.ListN.{length, length-append}
use borrow.Author.Tests.{le-leb}
use Rattle.printing.specs.Printing.{Prints, Printed}
use Rattle.std.proofs.Common.{add_assoc, append_assoc, drop, drop-drop}

-- an output of another name
pub prints_as : {o o' : Option (List ℕ)} {out out' : List ℕ} {r : Printed} → o ≡ o' → Prints o out r out' → Prints o' out r out'
prints_as e h = rw (← e) h

-- the parts of an output, one after the other, where there is room for them
module _ (a b c d out : List ℕ) (short_a : length a ≤ 80) (short_b : length b ≤ 1024) (short_c : length c ≤ 65536) (short_d : length d ≤ 64) where
  parts_length : length (a ++ b ++ c ++ d) ≡ length a + length b + length c + length d
  parts_length = rw (length-append (a ++ b ++ c) d, length-append (a ++ b) c, length-append a b) refl

  pub parts_whole : {a' b' c' d' r₁ r₂ r₃ : List ℕ} → length a + length b + length c + length d ≤ length out → a' ≡ a → b' ≡ b → c' ≡ c → d' ≡ d
      → r₁ ≡ drop (length a) out → r₂ ≡ drop (length b) r₁ → r₃ ≡ drop (length c) r₂
      → Prints (Some (a ++ b ++ c ++ d)) out (Ok (length a + length b + length c + length d)) (a' ++ (b' ++ (c' ++ (d' ++ drop (length d) r₃))))
  parts_whole h e f g i p q r =
      let within : leb (length (a ++ b ++ c ++ d)) (length out) ≡ true = le-leb (length (a ++ b ++ c ++ d)) (length out) (omega (arith, parts_length)) in
      record {
        answered = rw (within, parts_length) refl;
        wrote = rw (within, e, f, g, i, r, q, p) (simp (add_assoc, append_assoc, drop-drop, length-append, add_assoc));
        most = omega (arith, parts_length);
      }
