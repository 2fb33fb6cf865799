use Rattle.std.proofs.Common.{rules}
use Rattle.std.proofs.Common.{ℕ, ◌≡◌, ◌++◌, ◌∷◌, [], List, sym, ap, ◌∙◌, subst}
use Rattle.task_segments.specs.Table.{Table, task}
use Rattle.depend_table.specs.KeptEdges.{IsKeptEdge}
use Rattle.depend_table.specs.Lists.{Lists}
use Rattle.open_segments.proofs.Edges.{deferred_edges, resumed_edges}
use Rattle.open_segments.proofs.continuing.after_task.Goals as goal

pub last-last-requires : goal.last-last-requires
last-last-requires g c = (
  search rules,
  (
      (c.reads_in_place.ensures.creates c.args.before c.args.child c.requires.follows.is_from
      c.requires.creates).0
      ),
)

pub returns-then-not-undeferred : goal.returns-then-not-undeferred
returns-then-not-undeferred g c =
    let table : Table = c.args.table.now in
    let items : c.push.new.self.items ≡ c.args.before ∷ [] = c.in_ok-push.ensures.items
    ∙ ap (λ (l : List ℕ). l ++ c.args.before ∷ []) c.new-preds.ensures.items in
    subst (λ (l : List ℕ). Lists (λ p. IsKeptEdge table p c.args.next) l) (sym items)
    (deferred_edges table c.args.before c.args.next c.args.child c.reads_in_place.ensures
    c.requires.follows c.requires.creates (sym c.undeferred.ensures ∙ c.if-not-undeferred.true))

pub returns : goal.returns
returns g c =
    let table : Table = c.args.table.now in
    let one : c.push.new.self.items ≡ c.args.before ∷ [] = c.in_ok-push.ensures.items
    ∙ ap (λ (l : List ℕ). l ++ c.args.before ∷ []) c.new-preds.ensures.items in
    let items : c.push-2.new.self.items ≡ c.args.before ∷ (task table c.args.child).last ∷ [] =
    c.in_ok-push-2.ensures.items
    ∙ ap (λ (l : List ℕ). l ++ c.last-last.result ∷ []) one
    ∙ ap (λ (n : ℕ). c.args.before ∷ n ∷ []) c.last-last.ensures in
    subst (λ (l : List ℕ). Lists (λ p. IsKeptEdge table p c.args.next) l) (sym items)
    (resumed_edges table c.args.before c.args.next c.args.child c.reads_in_place.ensures
    c.requires.follows c.requires.creates (sym c.undeferred.ensures ∙ c.if-not-undeferred.false))
