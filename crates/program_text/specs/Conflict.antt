-- When two depend items, and so two tasks, conflict.
use Rattle.std.specs.Prelude.{Bool, true, false, List, ◌==◌, ◌&&◌}
use Rattle.std.specs.List.{list_any}
use Rattle.program_text.specs.declared.statement.DependKind.{DependKind}
use Rattle.program_text.specs.declared.statement.DependKind.TheVariants.{DependIn, DependInOutSet}
use Rattle.program_text.specs.declared.statement.Item.{Item}

-- two reads do not conflict, nor do two members of one inoutset
abbrev pub kinds_conflict : DependKind → DependKind → Bool
kinds_conflict DependIn DependIn = false
kinds_conflict DependInOutSet DependInOutSet = false
kinds_conflict one other = true

abbrev pub conflicts_with : Item → Item → Bool
conflicts_with one other = (one.name == other.name) && kinds_conflict one.kind other.kind

abbrev pub items_conflict : List Item → List Item → Bool
items_conflict one other = list_any (λ a. list_any (conflicts_with a) other) one
