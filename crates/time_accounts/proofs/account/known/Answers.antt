use Rattle.std.proofs.Common.{length}
use Rattle.time_accounts.proofs.Measured.{measure}
use Rattle.time_accounts.proofs.account.known.Goals as goal

pub returns : goal.returns
returns c =
    measure c.args.graph.now (length c.args.graph.now.costs) c.args.region.threads
    c.args.region.first c.args.region.last c.args.times.now c.args.changes.now.readies.items
    c.args.changes.now.begins.items c.args.changes.now.ends.items c.is_graph.ensures.each
    c.is_graph.ensures.some c.requires.few c.requires.soon c.requires.legal c.requires.changes
