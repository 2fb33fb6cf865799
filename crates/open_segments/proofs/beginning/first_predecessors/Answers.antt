use Rattle.std.proofs.Common.{rules, ℕ, ◌≡◌, ◌++◌, ◌∷◌, [], map, List, sym, ap, ◌∙◌, subst}
use Rattle.std.proofs.lemmas.Option.{none-some}
use Rattle.task_segments.specs.Table.{Table, task}
use Rattle.depend_table.specs.Lists.{Lists}
use Rattle.depend_table.specs.KeptEdges.{IsKeptEdge}
use Rattle.open_segments.specs.WaysToOpen.{last_segment}
use Rattle.open_segments.proofs.Edges
use Rattle.open_segments.proofs.beginning.first_predecessors.Goals as goal

pub to_last_segments-requires : goal.to_last_segments-requires
to_last_segments-requires g c = (
  search rules,
  λ u has. Edges.kept_task c.args.table.now c.args.child u c.args.kept.items c.requires.kept
      c.reads_in_place.ensures has,
)

pub returns-in-Some : goal.returns-in-Some
returns-in-Some g c =
    let table : Table = c.args.table.now in
    let items : c.push_reserved.new.self.items
    ≡ map (last_segment table) c.args.kept.items ++ c.in-Some.creator ∷ [] =
    c.push_reserved.ensures.items
    ∙ ap (λ (list : List ℕ). list ++ c.in-Some.creator ∷ []) c.to_last_segments.ensures.items in
    subst (λ (list : List ℕ). Lists (λ p. IsKeptEdge table p (task table c.args.child).first) list)
    (sym items)
    (Edges.first_edges table c.args.child c.in-Some.creator c.args.kept.items c.requires.kept
    c.reads_in_place.ensures (sym c.creator.ensures ∙ c.in-Some.is))

pub returns-in-None : goal.returns-in-None
returns-in-None g c =
    let given = c.requires.kept in
    let has =
    c.reads_in_place.ensures.has_creator c.args.child given.parent given.is_task given.is_parent in
    absurd (none-some has.0 (sym (sym c.creator.ensures ∙ c.in-None.is) ∙ has.1))
