-- `tracing::trace` meets its contract: a refusal is the first test that fails, and the verdict is told by the graph of the words that were
-- taken in. What the answer means follows from the exact clause.
use mathlib.Core.Path.{◌∙◌, ap, refl}
use borrow.Author.Rules.{rules}
use Rattle.words.specs.Alphabet.{bytes}
use Rattle.words.specs.Words.{freely_reduce}
use Rattle.records.specs.Records.{word_of}
use Rattle.asking.proofs.Calls.{asked-given, asked-refused}
use Rattle.tracing.proofs.Calls.{graph_told, passed_edges, passed_length, passed_size, passed_word, passed_words}
use Rattle.tracing.proofs.Meaning.{never_refused, trace_agrees, trace_means}
use Rattle.tracing.proofs.trace.Goals as goal

pub returns-in_default : goal.returns-in_default
returns-in_default c =
    let answer = asked-refused _ _ c.check_trace-checked.ensures c.in_default.is c.from.ensures in
    record { answer = answer; table = λ f e. refl; means = trace_means _ _ _ answer; agrees = trace_agrees _ _ _ answer }

pub load-requires : goal.load-requires
load-requires c = search (passed_size, rules)

pub as_record-requires : goal.as_record-requires
as_record-requires c = search (passed_length, rules)

pub member_by_graph-requires-clause-system : goal.member_by_graph-requires-clause-system
member_by_graph-requires-clause-system c = passed_words _ _ _ c.check_trace-checked.ensures c.in-Ok.is c.load.ensures

pub member_by_graph-requires-clause-letters : goal.member_by_graph-requires-clause-letters
member_by_graph-requires-clause-letters c =
    passed_word _ _ _ c.check_trace-checked.ensures c.in-Ok.is c.as_record.ensures
    (c.letters.ensures.letters ∙ c.reduce.ensures.product ∙ ap (freely_reduce bytes) c.word_in.ensures.word)

pub member_by_graph-requires-clause-room : goal.member_by_graph-requires-clause-room
member_by_graph-requires-clause-room c = search (passed_edges, rules)

pub returns : goal.returns
returns c =
    let word = c.letters.ensures.letters ∙ c.reduce.ensures.product ∙ ap (freely_reduce bytes) (c.word_in.ensures.word ∙ ap word_of c.as_record.ensures) in
    let told = graph_told c.args.system.now c.args.target.now c.load.ensures word c.member_by_graph.ensures in
    let answer = asked-given _ _ c.check_trace-checked.ensures c.in-Ok.is (c.verdict_of-verdict.ensures ∙ told) in
    record {
      answer = answer;
      table = λ f e. never_refused _ c.verdict_of-verdict.ensures f e;
      means = trace_means _ _ _ answer;
      agrees = trace_agrees _ _ _ answer;
    }
