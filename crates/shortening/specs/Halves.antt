-- What the search for a shortening passes over. No call's contract speaks of it.
use Rattle.std.specs.Prelude.{◌*◌, ◌≤◌, ℕ, List, length}
use Rattle.words.specs.Alphabet.{bytes}
use Rattle.systems.specs.Moves.{seam}
use Rattle.systems.specs.declared.Form.{Form}

-- in a form, at most half of either word cancels: neither is shortened by the other
abbrev pub HalfAtMost : Form → List ℕ → List ℕ → Type 0
HalfAtMost form wi wk = (2 * seam bytes form wi wk ≤ length wi) × (2 * seam bytes form wi wk ≤ length wk)
