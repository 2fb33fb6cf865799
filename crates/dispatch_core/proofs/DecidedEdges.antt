-- Of two segments it is decided whether the one must precede the other, and whether the pair is a
-- kept edge.
use Rattle.std.proofs.Common.{ℕ, zero, suc, ◌+◌, ◌<◌, ◌≤◌, ◌≡◌, ◌⊎◌, ◌∙◌, true, List, [], ◌∷◌, Some}
use Rattle.std.proofs.Common.{length, refl, sym, ap, subst, arith, inl, inr}
use Rattle.std.proofs.lemmas.Bool.{cases_eq, cases_lt}
use Rattle.std.proofs.lemmas.Option.{same_Some, none-some}
use Rattle.task_program.specs.Conflict.{items_conflict}
use Rattle.program_text.specs.declared.statement.Item.{Item}
use Rattle.task_segments.specs.InPlace.{IsReadInPlace}
use Rattle.task_segments.specs.Precedence.{Continues, Creation, Dependence, Descends, GroupEnd}
use Rattle.task_segments.specs.Precedence.{IsEarlierChild, IsTask, MustPrecede}
use Rattle.task_segments.specs.Precedence.{Resumption, Wait}
use Rattle.task_segments.specs.Precedence.Descends.{Below, Itself}
use Rattle.task_segments.specs.Table.{Table, segment, task}
use Rattle.task_segments.specs.declared.table.Closing.{Closing}
use Rattle.task_segments.specs.declared.table.Closing.TheVariants.{EndsGroup}
use Rattle.task_segments.specs.declared.table.Closing.TheVariants.{Waits}
use Rattle.depend_table.proofs.Conflicts.{Member, Mentions, earlier_mentions}
use Rattle.depend_table.proofs.Conflicts.Member.{Head, Tail}
use Rattle.depend_table.specs.KeptEdges.{IsKeptEdge, KeptDependence, KeptGroupEnd, KeptWait}
use Rattle.depend_table.specs.KeptEdges.{children_below}
use Rattle.depend_table.specs.Siblings.{IsAmong, IsKept, Sibling, conflict_at, rank}
use Rattle.depend_table.specs.Siblings.IsAmong.{Below as Older, Newest}
use Rattle.open_segments.proofs.Edges.{kept_sibling}
use Rattle.dispatch_core.proofs.Decisions.{IsDecided, by_parts, decide_held, decided_by_equivalent}
use Rattle.dispatch_core.proofs.Decisions.{decisions}

decide_waits : (closing : Closing) → IsDecided (closing ≡ Waits)
decide_waits Waits = inl refl
decide_waits _ = inr (λ e. cc)

decide_group_end : (closing : Closing) → IsDecided (closing ≡ EndsGroup)
decide_group_end EndsGroup = inl refl
decide_group_end _ = inr (λ e. cc)

module _ (table : Table) where
  abbrev Segments : (ℕ → Type 0) → Type 0
  Segments P = (s : ℕ) × (s < length table.segments) × P s

  abbrev Tasks : (ℕ → Type 0) → Type 0
  Tasks P = (u : ℕ) × (u < length table.tasks) × P u

  pub decide_continues : (s t : ℕ) → IsDecided (Continues table s t)
  decide_continues s t =
      by_parts {P = (s < length table.segments) × ((t < length table.segments)
      × (((segment table t).task ≡ (segment table s).task)
      × ((segment table t).index ≡ (segment table s).index + 1)))}
      (search decisions) (λ h. assumption) (λ c. assumption)

  pub decide_creation : (s t : ℕ) → IsDecided (Creation table s t)
  decide_creation s t =
      by_parts {P = Tasks (λ u. ((task table u).creator ≡ Some s) × ((task table u).first ≡ t))}
      (search decisions)
      (λ h. record { child = h.0; is_child = h.1; creator = h.2.0; first = h.2.1 })
      (λ c. (c.child, c.is_child, (c.creator, c.first)))

  decide_resumption : (s t : ℕ) → IsDecided (Resumption table s t)
  decide_resumption s t =
      by_parts {P = Tasks (λ u. ((task table u).undeferred ≡ true) × (((task table u).last ≡ s)
      × ((by : ℕ) × ((task table u).creator ≡ Some by) × Continues table by t)))}
      (search (decisions, decide_continues) depth 12)
      (λ h. let by = h.2.1.1 in record {
        child = h.0;
        is_child = h.1;
        undeferred = h.2.0;
        last = h.2.1.0;
        creator = by.0;
        is_creator = by.1;
        resumes = by.2;
      })
      (λ c. (c.child, c.is_child, (c.undeferred, (c.last, (c.creator, c.is_creator, c.resumes)))))

  decide_dependence : (s t : ℕ) → IsDecided (Dependence table s t)
  decide_dependence s t =
      by_parts {P = Tasks (λ v. ((task table v).first ≡ t) × ((u : ℕ) × (u < v)
      × (((task table u).parent ≡ (task table v).parent)
      × ((items_conflict (task table u).items (task table v).items ≡ true)
      × ((task table u).last ≡ s)))))}
      (search decisions depth 12)
      (λ h. let before = h.2.1 in record {
        earlier = before.0;
        later = h.0;
        is_later = h.1;
        depends = record { in_order = before.1; siblings = before.2.0; conflict = before.2.1.0 };
        last = before.2.1.1;
        first = h.2.0;
      })
      (λ d. let on = d.depends in (
        d.later,
        d.is_later,
        (d.first, (d.earlier, on.in_order, (on.siblings, (on.conflict, d.last)))),
      ))

  -- a child that the task of t created before t
  decide_earlier_child : (child t : ℕ) → IsDecided (IsEarlierChild table child t)
  decide_earlier_child child t =
      by_parts {P = (child < length table.tasks)
      × (((task table child).parent ≡ Some (segment table t).task)
      × ((by : ℕ) × ((task table child).creator ≡ Some by) × (by < t)))}
      (search decisions depth 12)
      (λ h. let by = h.1.1 in record {
        is_child = h.0;
        parent = h.1.0;
        creator = by.0;
        is_creator = by.1;
        earlier = by.2;
      })
      (λ c. (c.is_child, (c.parent, (c.creator, c.is_creator, c.earlier))))

  decide_wait : (s t : ℕ) → IsDecided (Wait table s t)
  decide_wait s t =
      by_parts {P = Segments (λ w. ((segment table w).closing ≡ Waits) × Continues table w t)
      × Tasks (λ u. IsEarlierChild table u t × ((task table u).last ≡ s))}
      (search (decisions, decide_waits, decide_continues, decide_earlier_child) depth 12)
      (λ h. let wait = h.0 in let child_of = h.1 in record {
        before = wait.0;
        waits = wait.2.0;
        opens = wait.2.1;
        child = child_of.0;
        created = child_of.2.0;
        last = child_of.2.1;
      })
      (λ w. (
        (w.before, w.opens.is_from, (w.waits, w.opens)),
        (w.child, w.created.is_child, (w.created, w.last)),
      ))

  -- ---- descendants

  descends_cases : (d u : ℕ) → Descends table d u
      → (d ≡ u) ⊎ ((v : ℕ) × (IsTask table d) × ((task table d).parent ≡ Some v) × Descends table v u)
  descends_cases d u (Itself _) = inl refl
  descends_cases d u (Below _ v _ is parent above) = inr (v, is, parent, above)

  lower_parent : (d v : ℕ) → IsReadInPlace table → (task table d).parent ≡ Some v → v < d
  lower_parent d v facts parent =
      let above : 0 < d = elim (cases_eq d 0) [
        | inl same ↦ absurd (none-some v
            (sym facts.root_parent ∙ ap (λ (n : ℕ). (task table n).parent) (sym same) ∙ parent))
        | inr apart ↦ omega (arith, apart)
      ] in
      let created = facts.below_root d above (facts.with_parent d v parent) in
      let same : created.parent ≡ v = same_Some created.parent v (sym created.is_parent ∙ parent) in
      let lower = created.lower in
      omega (arith, same, lower)

  descends_by : (n d u : ℕ) → IsReadInPlace table → d < n → IsDecided (Descends table d u)
  descends_by zero d u facts less = absurd (omega (arith, less))
  descends_by (suc n) d u facts less = elim (cases_eq d u) [
    | inl same ↦ inl (subst (λ (v : ℕ). Descends table d v) same (Itself d))
    | inr apart ↦
        let P : ℕ → Type 0 = λ v. (v < d) × Descends table v u in
        let up : (v : ℕ) → IsDecided (P v) = λ v. elim (cases_lt v d) [
          | inl lower ↦
              let above = descends_by n v u facts (omega (arith, less, lower)) in
              search (decisions, above)
          | inr fails ↦ inr (λ h. absurd (omega (arith, h.0, fails)))
        ] in
        by_parts (decide_held (task table d).parent P up)
        (λ h. Below d h.0 u (facts.with_parent d h.0 h.1) h.1 h.2.1)
        (λ h. elim (descends_cases d u h) [
          | inl same ↦ absurd (apart same)
          | inr above ↦ (above.0, above.2, (lower_parent d above.0 facts above.2, above.3))
        ])
  ]

  decide_group : (s t : ℕ) → IsReadInPlace table → IsDecided (GroupEnd table s t)
  decide_group s t facts =
      let descends : (d u : ℕ) → IsDecided (Descends table d u) = λ d u.
      descends_by (suc d) d u facts (omega arith) in
      by_parts {P = Segments (λ w. ((segment table w).closing ≡ EndsGroup) × Continues table w t)
      × Tasks (λ u. IsEarlierChild table u t
      × (((segment table t).children_before ≤ (task table u).siblings_before)
      × Tasks (λ d. Descends table d u × ((task table d).last ≡ s))))}
      (search (decisions, decide_group_end, decide_continues, decide_earlier_child, descends) depth 16)
      (λ h. let before_of = h.0 in let child_of = h.1 in let below = child_of.2.1.1 in record {
        child = child_of.0;
        encloses = record {
          before = before_of.0;
          ends_group = before_of.2.0;
          opens = before_of.2.1;
          created = child_of.2.0;
          inside = child_of.2.1.0;
        };
        descendant = below.0;
        is_descendant = below.1;
        descends = below.2.0;
        last = below.2.1;
      })
      (λ g. let by = g.encloses in (
        (by.before, by.opens.is_from, (by.ends_group, by.opens)),
        (
          g.child,
          by.created.is_child,
          (by.created, (by.inside, (g.descendant, g.is_descendant, (g.descends, g.last)))),
        ),
      ))

  pub decide_precedes : (s t : ℕ) → IsReadInPlace table → IsDecided (MustPrecede table s t)
  decide_precedes s t facts =
      let of_group = decide_group s t facts in
      search (
        decisions,
        decide_continues,
        decide_creation,
        decide_resumption,
        decide_dependence,
        decide_wait,
        of_group,
      ) depth 12

-- ---- kept edges

among_none : (x : Sibling) (older : List Sibling) → IsAmong [] x older → ⊥
among_none x older h = elim h [ ]

newest_or_older : (Q : Sibling → List Sibling → Type 0) (y : Sibling) (ys : List Sibling)
    (x : Sibling) (older : List Sibling)
    → IsAmong (y ∷ ys) x older → Q x older → Q y ys ⊎ IsAmong ys x older
newest_or_older Q y ys x older Newest q = inl q
newest_or_older Q y ys x older (Older h) q = inr h

-- of some sibling with those created before it
decide_among : (Q : Sibling → List Sibling → Type 0)
    → ((x : Sibling) (older : List Sibling) → IsDecided (Q x older))
    → (siblings : List Sibling)
    → IsDecided ((x : Sibling) × (older : List Sibling) × IsAmong siblings x older × Q x older)
decide_among Q each [] = inr (λ h. among_none h.0 h.1 h.2)
decide_among Q each (y ∷ ys) = elim (each y ys) [
  | inl here ↦ inl (y, ys, Newest, here)
  | inr fails ↦ elim (decide_among Q each ys) [
    | inl found ↦ inl (found.0, found.1, Older found.2, found.3)
    | inr none ↦ inr (λ h. elim (newest_or_older Q y ys h.0 h.1 h.2 h.3) [
      | inl q ↦ fails q
      | inr later ↦ none (h.0, h.1, later, h.3)
    ])
  ]
]

no_item_in_none : (x : Item) → Member [] x → ⊥
no_item_in_none x h = elim h [ ]

head_or_tail : (P : ℕ → Type 0) (y : Item) (ys : List Item) (x : Item) → Member (y ∷ ys) x
    → P x.name
    → P y.name ⊎ Member ys x
head_or_tail P y ys x Head q = inl q
head_or_tail P y ys x (Tail h) q = inr h

-- of the name of some item
decide_named : (P : ℕ → Type 0) → ((name : ℕ) → IsDecided (P name)) → (items : List Item)
    → IsDecided ((item : Item) × Member items item × P item.name)
decide_named P each [] = inr (λ h. no_item_in_none h.0 h.1)
decide_named P each (y ∷ ys) = elim (each y.name) [
  | inl here ↦ inl (y, Head, here)
  | inr fails ↦ elim (decide_named P each ys) [
    | inl found ↦ inl (found.0, Tail found.1, found.2)
    | inr none ↦ inr (λ h. elim
        (head_or_tail P y ys h.0 h.1 h.2) [ inl q ↦ fails q | inr later ↦ none (h.0, later, h.2) ])
  ]
]

-- a sibling is kept at some name of its own items
decide_kept : (siblings : List Sibling) (items : List Item) (number : ℕ)
    → IsDecided (IsKept siblings items number)
decide_kept siblings items number =
    let P : Sibling → List Sibling → ℕ → Type 0 = λ x older name.
    (conflict_at name x.items items ≡ true)
    × (rank name x.items older + 1 ≡ rank name items siblings) in
    let each : (x : Sibling) (older : List Sibling) (name : ℕ) → IsDecided (P x older name) =
    λ x older name. search decisions in
    let named : (x : Sibling) (older : List Sibling) → IsDecided ((x.task ≡ number)
    × ((item : Item) × Member x.items item × P x older item.name)) = λ x older.
    let some = decide_named (P x older) (each x older) x.items in search (decisions, some) in
    by_parts (decide_among _ named siblings)
    (λ h. let at_name = h.3.1 in record {
      earlier = h.0;
      older = h.1;
      among = h.2;
      number = h.3.0;
      name = at_name.0.name;
      conflicts = at_name.2.0;
      one_less = at_name.2.1;
    })
    (λ k.
    let by : Mentions k.name k.earlier.items = earlier_mentions k.name k.earlier.items items
    k.conflicts in (
      k.earlier,
      k.older,
      k.among,
      (
        k.number,
        (
          by.item,
          by.inside,
          subst (P k.earlier k.older) (sym by.named) (k.conflicts, k.one_less),
        ),
      ),
    ))

module _ (table : Table) where
  decide_kept_dependence : (s t : ℕ) → IsDecided (KeptDependence table s t)
  decide_kept_dependence s t =
      by_parts {P = (v : ℕ) × (v < length table.tasks) × (((task table v).first ≡ t)
      × ((p : ℕ) × ((task table v).parent ≡ Some p) × ((u : ℕ) × (u < v)
      × (IsKept (children_below table p v) (task table v).items u × ((task table u).last ≡ s)))))}
      (search (decisions, decide_kept) depth 12)
      (λ h. let in_parent = h.2.1 in let sibling = in_parent.2 in record {
        earlier = sibling.0;
        later = h.0;
        is_later = h.1;
        parent = in_parent.0;
        of_parent = in_parent.1;
        kept = sibling.2.0;
        last = sibling.2.1;
        first = h.2.0;
      })
      (λ d.
      let sibling = kept_sibling table d.parent d.later d.earlier d.kept in (
        d.later,
        d.is_later,
        (d.first, (d.parent, d.of_parent, (d.earlier, sibling.below, (d.kept, d.last)))),
      ))

  -- the last part: no wait of the task lies between the creator and the wait
  decide_kept_wait : (s t : ℕ) → IsDecided (KeptWait table s t)
  decide_kept_wait s t =
      by_parts {P = (w : ℕ) × (w < length table.segments)
      × ((((segment table w).closing ≡ Waits) × Continues table w t)
      × ((child : ℕ) × (child < length table.tasks)
      × (((task table child).parent ≡ Some (segment table t).task) × (((task table child).last ≡ s)
      × ((by : ℕ) × ((task table child).creator ≡ Some by) × ((by < t)
      × ((v : ℕ) → v < length table.segments → (segment table v).task ≡ (segment table t).task
      → (segment table v).closing ≡ Waits → by < v → w ≤ v)))))))}
      (search (decisions, decide_waits, decide_continues table) depth 24)
      (λ h. let waits = h.2.0 in let child_of = h.2.1 in let by = child_of.2.1.1 in record {
        wait = record {
          before = h.0;
          waits = waits.0;
          opens = waits.1;
          child = child_of.0;
          created = record {
            is_child = child_of.1;
            parent = child_of.2.0;
            creator = by.0;
            is_creator = by.1;
            earlier = by.2.0;
          };
          last = child_of.2.1.0;
        };
        none_between = by.2.1;
      })
      (λ k. let wait = k.wait in let of = wait.created in (
        wait.before,
        wait.opens.is_from,
        (
          (wait.waits, wait.opens),
          (
            wait.child,
            of.is_child,
            (of.parent, (wait.last, (of.creator, of.is_creator, (of.earlier, k.none_between)))),
          ),
        ),
      ))

  decide_kept_group_end : (s t : ℕ) → IsDecided (KeptGroupEnd table s t)
  decide_kept_group_end s t =
      by_parts {P = (u : ℕ) × (u < length table.tasks)
      × (((task table u).innermost_group ≡ Some t) × ((task table u).last ≡ s))}
      (search decisions)
      (λ h. record { inside = h.0; is_inside = h.1; innermost = h.2.0; last = h.2.1 })
      (λ g. (g.inside, g.is_inside, (g.innermost, g.last)))

  pub decide_kept_edge : (s t : ℕ) → IsDecided (IsKeptEdge table s t)
  decide_kept_edge s t =
      search (
        decisions,
        decide_continues table,
        decide_creation table,
        decide_resumption table,
        decide_kept_dependence,
        decide_kept_wait,
        decide_kept_group_end,
      ) depth 12
