use Rattle.std.proofs.Common.{ℕ, ◌≡◌, ◌<◌, List, Bor, length, map, get_or, All, sym, ◌∙◌, ap, subst, arith}
use Rattle.std.specs.List.{flat_map}
use Rattle.std.proofs.lemmas.Result.{IfOk-weaker}
use Rattle.std.proofs.lemmas.List.{length-map}
use Rattle.std.proofs.lemmas.List.Elements.{Contains-get_or}
use Rattle.depend_table.specs.declared.table.Call.{Call}
use Rattle.depend_table.specs.Lists.{Lists}
use Rattle.depend_table.specs.Entries.{tasks_of}
use Rattle.depend_table.specs.MarkedPlaces.{IsNumberAmong}
use Rattle.depend_table.proofs.MarkedPlaces.{among_ascending, flat_below}
use Rattle.depend_table.proofs.table.kept_by_order.Goals as goal

pub tasks_at-requires : goal.tasks_at-requires
tasks_at-requires c =
    let calls = c.args.calls.now in
    let places = c.in_ok-places.places.items in
    subst (λ (xs : List ℕ). All (λ place. place < length calls) xs) (sym c.deref.ensures.value)
    (λ k d h. flat_below (length calls) c.args.lists.now (get_or places k d) c.requires.below
    ((c.in_ok-places.ensures.each (get_or places k d)).0 (Contains-get_or places k d h)))

pub returns : goal.returns
returns c =
    let calls = c.args.calls.now in
    let numbers = tasks_of calls in
    let places = c.in_ok-places.places.items in
    let now_of : Bor (List ℕ) → List ℕ = λ one. one.now in
    let all = flat_map now_of c.args.lists.now in
    let number_at : ℕ → ℕ = λ place. get_or numbers place 0 in
    IfOk-weaker c.tasks_at.result
    (λ tasks. tasks.items ≡ map number_at c.deref.result.now)
    (λ kept. Lists (IsNumberAmong all numbers) kept.items)
    (λ tasks is. among_ascending all places numbers tasks.items c.in_ok-places.ensures
    c.requires.tasks
    (λ k d h.
    let less = flat_below (length calls) c.args.lists.now (get_or places k d) c.requires.below
    ((c.in_ok-places.ensures.each (get_or places k d)).0 (Contains-get_or places k d h)) in
    omega (arith, less, length-map calls (λ (x : Call). x.task)))
    (is ∙ ap (map number_at) c.deref.ensures.value))
    c.tasks_at.ensures
