use Rattle.std.proofs.Common.{ℕ, ◌∙◌, List, [], ◌∷◌, arith, inl, inr, length, rules}
use Rattle.spanprof_c.specs.Programs.{source}
use Rattle.spanprof_c.specs.Refusals.{IsWrongLength, asked}
use Rattle.spanprof_c.specs.Runs.{timed_run}
use Rattle.spanprof_c.specs.declared.refusal.Refusal.TheVariants as refusal
use Rattle.spanprof_c.proofs.Accounts.{times_refused}
use Rattle.spanprof_c.proofs.Reasons.{graph_refused, why_so}
use Rattle.spanprof_c.proofs.spanprof_account.Goals as goal

pub returns-in-Err-clause-refused : goal.returns-in-Err-clause-refused
returns-in-Err-clause-refused c = λ some.
    let lengths : List ℕ = length c.args.readies.now ∷ [] in
    inl (why_so (asked (source c.args.any_size c.args.text.now) [] c.args.count lengths) c.in-Err.why
    c.tell.result c.tell.new.place c.tell.ensures.told (c.in-Err.ensures.refused c.args.count lengths))

pub returns-then-some_other-clause-refused : goal.returns-then-some_other-clause-refused
returns-then-some_other-clause-refused c = λ some.
    let lengths : List ℕ = length c.args.readies.now ∷ [] in
    let graph = c.in-Ok.graph in
    let wrong : IsWrongLength lengths (length graph.costs) = search rules in
    inl (why_so (asked (source c.args.any_size c.args.text.now) [] c.args.count lengths)
    refusal.WrongLength c.tell-then-some_other.result c.tell-then-some_other.new.place
    c.tell-then-some_other.ensures.told
    (graph_refused (source c.args.any_size c.args.text.now) [] lengths c.args.count graph
    refusal.WrongLength c.in-Ok.ensures.found wrong))

pub tell_account-outcome-requires : goal.tell_account-outcome-requires
tell_account-outcome-requires c =
    c.some_other.ensures.none c.if-some_other.false 0 0 (omega arith) ∙ c.len.ensures.count

pub returns-in-Ok-times_of-clause-refused : goal.returns-in-Ok-times_of-clause-refused
returns-in-Ok-times_of-clause-refused c = λ some.
    let lengths : List ℕ = length c.args.readies.now ∷ [] in
    let run = timed_run c.args.threads.now c.args.begins.now c.args.ends.now in
    inr (times_refused (asked (source c.args.any_size c.args.text.now) [] c.args.count lengths)
    c.args.first c.args.last run c.in-Ok-times_of.times c.in-Ok.graph c.tell_account-outcome.result
    c.tell_times.result c.tell_times.new.place c.in-Ok.ensures.found c.in-Ok-times_of.ensures
    c.tell_times.ensures.told c.tell_account-outcome.ensures.refused some)

pub returns-clause-refused : goal.returns-clause-refused
returns-clause-refused c = λ some.
    let lengths : List ℕ = length c.args.readies.now ∷ [] in
    inl (why_so (asked (source c.args.any_size c.args.text.now) [] c.args.count lengths)
    refusal.OutOfMemory c.tell-in-Err-times_of.result c.tell-in-Err-times_of.new.place
    c.tell-in-Err-times_of.ensures.told tt)
