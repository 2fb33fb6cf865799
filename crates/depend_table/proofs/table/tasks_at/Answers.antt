use Rattle.std.proofs.Common.{ℕ, ◌+◌, ◌≡◌, ◌<◌, ◌∷◌, [], ◌++◌, List, map, get_or, take, length, sym}
use Rattle.std.proofs.Common.{◌∙◌, ap, take_all}
use Rattle.std.proofs.lemmas.List.{take_more, map-append, get_or-map}
use Rattle.depend_table.specs.declared.table.Call.{Call}
use Rattle.depend_table.specs.Entries.{tasks_of}
use Rattle.depend_table.proofs.table.tasks_at.Goals as goal

pub loop-place-preserved : goal.loop-place-preserved
loop-place-preserved c =
    let calls = c.args.calls.now in
    let places = c.args.places.now in
    let index = c.loop-place.place-index in
    let place = get_or places index 0 in
    let task_at : ℕ → ℕ = λ n. get_or (tasks_of calls) n 0 in
    let within : place < length calls = c.requires index 0 c.loop-place-test.true in
    let call : Call = get_or calls place c.index-calls-place.result in
    let found : task_at place ≡ call.task =
    get_or-map (λ (x : Call). x.task) calls place c.index-calls-place.result 0 within in
    let more : map task_at (take (index + 1) places) ≡ map task_at (take index places)
    ++ task_at place ∷ [] =
    ap (map task_at) (take_more places index 0 c.loop-place-test.true)
    ∙ map-append task_at (take index places) (place ∷ []) in
    c.in_ok-push.ensures.items
    ∙ ap (λ (xs : List ℕ). xs ++ call.task ∷ []) c.loop-place.invariant
    ∙ ap (λ n. map task_at (take index places) ++ n ∷ []) (sym found)
    ∙ sym more

pub returns : goal.returns
returns c =
    let calls = c.args.calls.now in
    c.loop-place.invariant
    ∙ ap (map (λ n. get_or (tasks_of calls) n 0))
    (take_all c.loop-place.place-index c.args.places.now c.loop-place-test.false)
