use Rattle.std.proofs.Common.{ℕ, ◌+◌, ◌-◌, ◌≡◌, ◌++◌, ◌∷◌, List, [], refl, sym, ap, ◌∙◌}
use Rattle.std.proofs.Common.{subst, arith}
use Rattle.task_segments.specs.Table.{Table}
use Rattle.open_segments.specs.Families.{AreInFamilies}
use Rattle.open_segments.specs.KeptLists.{AreFirstLists}
use Rattle.open_segments.proofs.Depending.{families_first}
use Rattle.open_segments.proofs.KeptLists.{first_pushed, one_list_more}
use Rattle.open_segments.proofs.predecessors.all_predecessors.Goals as goal

pub loop-segment-init : goal.loop-segment-init
loop-segment-init g c =
    let table : Table = c.args.table.now in
    record {
      lists = first_pushed table c.in_ok-lists.lists c.push_list.new.self [] c.serves_runs.ensures
          c.in_ok-lists.ensures refl c.in_ok-push_list.ensures.pushed;
      entered = families_first table c.no_families-families.result c.no_families-families.ensures;
    }

pub loop-segment-preserved : goal.loop-segment-preserved
loop-segment-preserved g c =
    let table : Table = c.args.table.now in
    let segment : ℕ = c.loop-segment.segment in
    let same : segment ≡ (segment + 1) - 1 = omega arith in
    let preds : List ℕ = c.in_ok-preds.preds.items in
    let pushed : c.push_list-in-loop-segment.new.self ≡ c.loop-segment.lists ++ preds ∷ [] =
    c.in_ok-push_list-2.ensures.pushed
    ∙ ap (λ (l : List ℕ). c.loop-segment.lists ++ l ∷ []) c.deref.ensures.value in
    record {
      lists = subst (λ (l : List (List ℕ)). AreFirstLists table (segment + 1) l) (sym pushed)
          (one_list_more table segment c.loop-segment.lists preds c.loop-segment.invariant.lists
          c.in_ok-preds.ensures.kept);
      entered = subst (λ (n : ℕ). AreInFamilies table n c.predecessors.new.families) same
          c.in_ok-preds.ensures.entered;
    }
