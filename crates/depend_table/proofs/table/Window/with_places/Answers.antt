use Rattle.std.proofs.Common.{arith}
use Rattle.depend_table.proofs.MarkedPlaces.{between_ends, within_wider}
use Rattle.depend_table.proofs.table.Window.with_places.Goals as goal

pub returns-clause-all : goal.returns-clause-all
returns-clause-all c = grind (arith, within_wider, between_ends)
