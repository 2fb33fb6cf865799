-- Carried out: the changes of the words as a trial takes them.
use Rattle.command_words.specs.declared.changes.Change.{Change}
use Rattle.whatif_costs.specs.declared.new_costs.NewCost.{NewCost}

abbrev pub new_cost_of : Change → NewCost
new_cost_of change = record { segment = change.segment; cost = change.cost }
