-- An input that is read part by part: what was taken of it is what is kept and counted.
use Rattle.std.specs.Prelude.{IfSome, None, Option, Some}
use Prim.Native.Nat.{ℕ}
use mathlib.Core.List.{List, ◌++◌, append-nil, append_assoc}
use mathlib.Core.Path.{◌∙◌, ◌≡◌, ap}
use Rattle.std.specs.Io.KnownBytes.{Consumes, IsAtEnd}
use Rattle.std.proofs.KnownBytes.{Consumes-trans}
use Rattle.input.specs.Input.{Holds, ReadInput}

-- these bytes were taken, and what is kept and counted afterwards holds them too
pub record Taken (left left' : Option (List ℕ)) (kept : List ℕ) (size : ℕ) (kept' : List ℕ) (size' : ℕ) : Type 0 where
  pub bytes : List ℕ
  pub consumed : Consumes left left' bytes
  pub held : (before : List ℕ) → Holds before kept size → Holds (before ++ bytes) kept' size'

-- one more part
pub part_taken : {left left' left'' : Option (List ℕ)} {kept kept' kept'' : List ℕ} {size size' size'' : ℕ} (next : List ℕ)
    → Taken left left' kept size kept' size' → Consumes left' left'' next
    → ((before : List ℕ) → Holds before kept' size' → Holds (before ++ next) kept'' size'') → Taken left left'' kept size kept'' size''
part_taken {left = left} {left' = left'} {left'' = left''} next taken consumed holds =
    record {
      bytes = taken.bytes ++ next;
      consumed = Consumes-trans left left' left'' taken.bytes next taken.consumed consumed;
      held = λ before first. rw (← append_assoc before taken.bytes next) (holds (before ++ taken.bytes) (taken.held before first));
    }

-- at the end all of it
pub all_taken : {left left' : Option (List ℕ)} {kept kept' : List ℕ} {size size' : ℕ} → Taken left left' kept size kept' size' → IsAtEnd left'
    → IfSome left (λ rest. (before : List ℕ) → Holds before kept size → Holds (before ++ rest) kept' size')
all_taken {left = None} taken end = tt
all_taken {left = Some rest} {left' = None} taken end = absurd taken.consumed
all_taken {left = Some rest} {left' = Some over} {kept = kept} {kept' = kept'} {size = size} {size' = size'} taken end =
    let same : rest ≡ taken.bytes = taken.consumed ∙ ap (λ (l : List ℕ). taken.bytes ++ l) end ∙ append-nil taken.bytes in
    λ before holds. rw same (taken.held before holds)

-- in any case what is kept and counted tells of some input, if it did before
pub still_input : {left left' : Option (List ℕ)} {kept kept' : List ℕ} {size size' : ℕ} → Taken left left' kept size kept' size' → ReadInput kept size
    → ReadInput kept' size'
still_input taken read = record { input = read.input ++ taken.bytes; holds = taken.held read.input read.holds }
