use Rattle.std.proofs.Common.{List, Bool, ◌≡◌, ◌∷◌, ◌++◌, ◌∙◌, ◌||◌, [], ap, map, reverse, sym}
use Rattle.std.proofs.lemmas.Result.{err_from_is_err_and}
use Rattle.loop_text.specs.declared.loops.LoopItem.{LoopItem}
use Rattle.task_program.specs.Expansion.{Piece, item_comes}
use Rattle.task_program.specs.Expansion.Piece.{TaskComes, TaskOpens}
use Rattle.task_program.proofs.Leading.{leads_these, stops_before, stops_then, stops_these}
use Rattle.task_program.proofs.Leading.{takes_then, takes_these}
use Rattle.large_text.specs.LoopFaults.{large_fault_of}
use Rattle.large_text.specs.LoopMarked.{HasEntered}
use Rattle.large_text.proofs.LoopMarking.{word_leads}
use Rattle.large_text.proofs.loop_marks.LoopMarks.task.Goals as goal
use Rattle.large_text.proofs.loop_marks.LoopMarks.task.Goals.{then-task, else-task}

pub returns-in_err-items-clause-takes : goal.returns-in_err-items-clause-takes
returns-in_err-items-clause-takes c =
    let f = item_comes (reverse c.args.values.now) in
    let taker = c.args.self.now in
    let task = c.args.task.now in
    let pieces : List Piece = map f task.items in
    let last : List Piece = TaskOpens (task.undeferred || c.args.in_final) task.brace_line ∷ [] in
    let fault = c.in_err-items.field-0.0 in
    let fails_so = stops_then large_fault_of (TaskComes task.line ∷ []) (pieces ++ last)
    (HasEntered taker) (HasEntered taker) fault (word_leads taker task.line)
    (stops_before large_fault_of pieces last (HasEntered taker) fault
    (stops_these large_fault_of (map f c.as_slice.result.now) pieces (HasEntered taker) fault
    (ap (λ (xs : List LoopItem). map f xs) (sym c.as_slice.ensures)) c.in_err-items.ensures.takes)) in
    let passed_on = err_from_is_err_and c.from_residual.result c.from_residual.ensures.1 in
    rw (passed_on.1, passed_on.2) fails_so

pub returns-clause-takes : goal.returns-clause-takes
returns-clause-takes c =
    let f = item_comes (reverse c.args.values.now) in
    let taker = c.args.self.now in
    let task = c.args.task.now in
    let pieces : List Piece = map f task.items in
    let last : List Piece = TaskOpens (task.undeferred || c.args.in_final) task.brace_line ∷ [] in
    let same : c.if-task.task_brace ≡ (task.undeferred || c.args.in_final) =
    elim c.if-task.branch [
      | then-task w ↦ w.task_brace-is ∙ w.if-task.true
          ∙ sym (ap (λ (u : Bool). u || c.args.in_final) w.if-task.true)
      | else-task w ↦ w.task_brace-is
          ∙ sym (ap (λ (u : Bool). u || c.args.in_final) w.if-task.false)
    ] in
    takes_then large_fault_of (TaskComes task.line ∷ []) (pieces ++ last) (HasEntered taker)
    (HasEntered taker) (HasEntered c.task_brace.new.self) c.task_brace.result
    (word_leads taker task.line)
    (takes_then large_fault_of pieces last (HasEntered taker) (HasEntered c.items.new.self)
    (HasEntered c.task_brace.new.self) c.task_brace.result
    (leads_these large_fault_of (map f c.as_slice.result.now) pieces (HasEntered taker)
    (HasEntered c.items.new.self)
    (ap (λ (xs : List LoopItem). map f xs) (sym c.as_slice.ensures)) c.in_ok-items.ensures.takes)
    (takes_these large_fault_of (TaskOpens c.if-task.task_brace task.brace_line ∷ []) last
    (HasEntered c.items.new.self) (HasEntered c.task_brace.new.self) c.task_brace.result
    (ap (λ (u : Bool). TaskOpens u task.brace_line ∷ []) (sym same)) c.task_brace.ensures.takes))
