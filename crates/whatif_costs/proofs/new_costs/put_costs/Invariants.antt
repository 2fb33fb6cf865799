use Rattle.whatif_costs.proofs.InTurn.{AreTried}
use Rattle.whatif_costs.proofs.new_costs.put_costs.Given as goal

-- the changes so far are in the costs, and the others lead from there to the same
abbrev pub invariant-loop-change : goal.invariant-loop-change
invariant-loop-change l = AreTried l.graph l.changes l.change-index l.costs l.work
