use Rattle.std.proofs.Common.{length, arith}
use Rattle.std.proofs.lemmas.Grind.{common_steps}
use Rattle.dispatch_core.specs.RecordedGraph.{Precedes}
use Rattle.time_accounts.proofs.Checked.{only_memory_told}
use Rattle.time_accounts.proofs.checks.check_times.Goals as goal

pub returns-in_err-check_counts-clause-refused : goal.returns-in_err-check_counts-clause-refused
returns-in_err-check_counts-clause-refused c few soon timed =
    let only = only_memory_told (length c.args.graph.now.costs) (Precedes c.args.graph.now)
    c.args.region.threads c.args.region.first c.args.region.last c.args.times.now
    c.check_counts.result few soon timed c.check_counts.ensures.why in
    grind (arith, common_steps, only)

pub returns-in_err-check_ranges-clause-refused : goal.returns-in_err-check_ranges-clause-refused
returns-in_err-check_ranges-clause-refused c few soon timed =
    let only = only_memory_told (length c.args.graph.now.costs) (Precedes c.args.graph.now)
    c.args.region.threads c.args.region.first c.args.region.last c.args.times.now
    c.check_ranges.result few soon timed c.check_ranges.ensures.why in
    grind (arith, common_steps, only)

pub returns-in_err-check_order-clause-refused : goal.returns-in_err-check_order-clause-refused
returns-in_err-check_order-clause-refused c few soon timed =
    let only = only_memory_told (length c.args.graph.now.costs) (Precedes c.args.graph.now)
    c.args.region.threads c.args.region.first c.args.region.last c.args.times.now
    c.check_order.result few soon timed c.check_order.ensures.why in
    grind (arith, common_steps, only)

pub returns-in_err-check_apart-clause-refused : goal.returns-in_err-check_apart-clause-refused
returns-in_err-check_apart-clause-refused c few soon timed =
    let only = only_memory_told (length c.args.graph.now.costs) (Precedes c.args.graph.now)
    c.args.region.threads c.args.region.first c.args.region.last c.args.times.now
    c.check_apart.result few soon timed c.check_apart.ensures.why in
    grind (arith, common_steps, only)
