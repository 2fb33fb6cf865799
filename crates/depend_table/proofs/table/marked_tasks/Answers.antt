use Rattle.std.proofs.Common.{◌+◌, ◌≡◌, ◌<◌, length, get_or, sym, ◌∙◌, ap, subst, arith}
use Rattle.std.proofs.lemmas.List.{length-map, get_or-map}
use Rattle.depend_table.specs.declared.table.Call.{Call}
use Rattle.depend_table.specs.Entries.{tasks_of}
use Rattle.depend_table.specs.Lists.{Lists}
use Rattle.depend_table.specs.MarkedPlaces.{IsMarkedNumber}
use Rattle.depend_table.proofs.MarkedPlaces.{numbers_marked, numbers_unmarked}
use Rattle.depend_table.proofs.table.marked_tasks.Goals as goal
use Rattle.depend_table.proofs.table.marked_tasks.Goals.{then-marks-place+in_ok-push}
use Rattle.depend_table.proofs.table.marked_tasks.Goals.{else-marks-place}

pub loop-place-preserved : goal.loop-place-preserved
loop-place-preserved c =
    let calls = c.args.calls.now in
    let first = c.args.first in
    let marks = c.args.marks.now in
    let index = c.loop-place.place in
    let kept = c.loop-place.kept.items in
    let all = c.requires.within in
    elim c.if-marks-place.branch [
      | then-marks-place+in_ok-push w ↦
          let call : Call = get_or calls index w.index-calls-place.result in
          let within : index < length calls = omega (arith, c.loop-place-test.true) in
          let found : get_or (tasks_of calls) index 0 ≡ call.task =
          get_or-map (λ (x : Call). x.task) calls index w.index-calls-place.result 0 within in
          let known : index < length (tasks_of calls) =
          omega (arith, length-map calls (λ (x : Call). x.task)) in
          subst (Lists (IsMarkedNumber first marks (tasks_of calls) (index + 1)))
          (sym (ap (λ v. v.items) w.kept-is ∙ w.in_ok-push.ensures.items))
          (numbers_marked first marks (tasks_of calls) kept index call.task known
          c.requires.ascending
          (c.loop-place.auto.place, w.if-marks-place.true) found c.loop-place.invariant)
      | else-marks-place w ↦
          subst (Lists (IsMarkedNumber first marks (tasks_of calls) (index + 1)))
          (sym (ap (λ v. v.items) w.kept-is))
          (numbers_unmarked first marks (tasks_of calls) kept index w.if-marks-place.false
          c.loop-place.invariant)
    ]

pub returns : goal.returns
returns c =
    let first = c.args.first in
    let marks = c.args.marks.now in
    let numbers = tasks_of c.args.calls.now in
    let ended : c.loop-place.place ≡ first + length marks =
    omega (arith, c.loop-place.auto.place-end, c.loop-place-test.false) in
    subst (λ n. Lists (IsMarkedNumber first marks numbers n) c.loop-place.kept.items) ended
    c.loop-place.invariant
