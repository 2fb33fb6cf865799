use Rattle.std.proofs.Common.{ℕ, ◌+◌, ◌≡◌, ◌↔◌, take, length, Contains}
use Rattle.std.specs.List.{flat_map}
use Rattle.depend_table.specs.MarkedPlaces.{IsMarked}
use Rattle.depend_table.proofs.table.kept_by_marks.Given as goal

abbrev pub invariant-loop-places : goal.invariant-loop-places
invariant-loop-places l = record {
  one_each : l.window.first + length l.marks.items ≡ l.window.end;
  marked : (place : ℕ)
      → IsMarked l.window.first l.marks.items place
      ↔ Contains (flat_map (λ places. places.now) (take l.places-index l.lists)) place;
}
