use Rattle.std.proofs.Common.{None, ◌≡◌, ◌≤◌, length}
use Rattle.words.specs.Alphabet.{bytes}
use Rattle.systems.specs.Products.{word}
use Rattle.shortening.proofs.Searching.{Changed, Forms, Others}
use Rattle.shortening.proofs.find_shortening.Given as goal

abbrev pub invariant-loop-form : goal.invariant-loop-form
invariant-loop-form l =
    record {
      forms : Forms l.fn.search l.k l.i l.form-index l.most;
      most_fits : l.most ≤ 63;
      nothing : l.found ≡ None;
      same : l.system ≡ l.fn.search;
      sized : l.size ≡ length (word bytes l.fn.search l.i);
    }

abbrev pub invariant-loop-i : goal.invariant-loop-i
invariant-loop-i l =
    record {
      same : l.search ≡ l.fn.search;
      others : Others l.fn.search l.k l.i-iterator l.found;
      whole : l.whole ≡ length (word bytes l.fn.search l.k);
    }

abbrev pub invariant-search : goal.invariant-search
invariant-search l = record { same : l.search ≡ l.fn.search; changed : Changed l.fn.search l.k l.found }
