use Rattle.std.proofs.Common.{◌+◌, ◌≤◌, ◌++◌, ◌≡◌, drop, length, take}
use Rattle.std.specs.Slice.Iter.{iter_rest}
use Rattle.words.specs.Alphabet.{bytes}
use Rattle.words.specs.Words.{inverse}
use Rattle.words.proofs.product.append_inverse.Given as goal

abbrev pub invariant-loop-i : goal.invariant-loop-i
invariant-loop-i l =
    let i = l.i-iterator.count in
    let rest = iter_rest l.i-iterator.iter.iter in
    (i + length rest ≡ length l.word) × (rest ≡ take (length rest) l.word)
    × (length l.stack ≡ length l.initial.stack) × (l.n + length l.word ≤ length l.initial.stack)
    × (take (l.n + i) l.stack ≡ take l.n l.initial.stack ++ inverse bytes (drop (length rest) l.word))
