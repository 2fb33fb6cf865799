use Rattle.std.proofs.Common.{◌≤◌, take, All}
use Rattle.depend_table.specs.MarkedPlaces.{AreWithin}
use Rattle.depend_table.proofs.table.window_of.Given as goal

abbrev pub invariant-loop-places : goal.invariant-loop-places
invariant-loop-places l = record {
  within : l.window.end ≤ l.end;
  all : All (λ places. AreWithin l.window.first l.window.end places.now)
      (take l.places-index l.lists);
}
