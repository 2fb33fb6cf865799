use Rattle.whatif_costs.proofs.SuccessorSteps.{are_followers}
use Rattle.whatif_costs.proofs.successors.followers_of.Goals as goal

pub returns : goal.returns
returns c = are_followers c.args.graph.now c.in_ok-lists.lists c.is_graph.ensures c.in_ok-lists.ensures
