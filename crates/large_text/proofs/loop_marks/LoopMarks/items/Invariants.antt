use Rattle.std.proofs.Common.{◌≡◌, map, reverse, take}
use Rattle.task_program.specs.Expansion.{item_comes}
use Rattle.task_program.specs.Walks.{LeadsOn}
use Rattle.large_text.specs.LoopFaults.{large_fault_of}
use Rattle.large_text.specs.LoopMarked.{HasEntered}
use Rattle.large_text.specs.Tallied.{keeps_rows, keeps_text}
use Rattle.large_text.proofs.loop_marks.LoopMarks.items.Given as goal

abbrev pub invariant-items : goal.invariant-items
invariant-items l =
    LeadsOn large_fault_of (map (item_comes (reverse l.values)) (take l.item-index l.items))
    (HasEntered l.fn.self) (HasEntered l.self)
    × (keeps_rows l.self.tally ≡ keeps_rows l.fn.self.tally)
    × (keeps_text l.self.tally ≡ keeps_text l.fn.self.tally)
