use Rattle.std.proofs.Common.{List, ◌∷◌, ◌++◌, [], ◌+◌, ◌∙◌, ap, drop, map, refl, reverse, sym, take}
use Rattle.std.proofs.lemmas.List.{map-append, take_all, take_more}
use Rattle.std.proofs.lemmas.Result.{err_from_is_err_and}
use Rattle.loop_text.specs.declared.loops.LoopItem.{LoopItem}
use Rattle.task_program.specs.Expansion.{item_comes}
use Rattle.task_program.proofs.Expanding.{split_at}
use Rattle.task_program.proofs.Leading.{leads_none, leads_then, leads_these, somewhere_then}
use Rattle.task_program.proofs.Leading.{stops_before, stops_then, stops_these}
use Rattle.large_text.specs.LoopFaults.{large_fault_of}
use Rattle.large_text.specs.LoopMarked.{HasEntered}
use Rattle.large_text.proofs.loop_marks.LoopMarks.items.Goals as goal

pub items-init : goal.items-init
items-init c = (leads_none large_fault_of (HasEntered c.args.self.now), refl, refl)

pub item-requires : goal.item-requires
item-requires c =
    somewhere_then large_fault_of _ (HasEntered c.args.self.now) (HasEntered c.items.self)
    c.items.invariant.0 c.requires

pub items-preserved : goal.items-preserved
items-preserved c =
    let f = item_comes (reverse c.args.values.now) in
    let i = c.items.item-index in
    let items : List LoopItem = c.args.items.now in (
      leads_these large_fault_of _ _ (HasEntered c.args.self.now) (HasEntered c.item.new.self)
          (ap (λ (xs : List LoopItem). map f xs) (take_more items i _ c.items-test.true)
          ∙ ap (λ (x : LoopItem). map f (take i items ++ x ∷ [])) (sym c.item-item.is)
          ∙ map-append f (take i items) (c.item-item.result ∷ []))
          (leads_then large_fault_of (map f (take i items)) (f c.item-item.result ∷ [])
          (HasEntered c.args.self.now) (HasEntered c.items.self) (HasEntered c.item.new.self)
          c.items.invariant.0 c.in_ok-item.ensures.takes),
      c.in_ok-item.ensures.rows ∙ c.items.invariant.1,
      c.in_ok-item.ensures.text ∙ c.items.invariant.2,
    )

pub returns-in_err-item-clause-takes : goal.returns-in_err-item-clause-takes
returns-in_err-item-clause-takes c =
    let f = item_comes (reverse c.args.values.now) in
    let i = c.items.item-index in
    let items : List LoopItem = c.args.items.now in
    let fault = c.in_err-item.field-0.0 in
    let fails_so = stops_these large_fault_of _ _ (HasEntered c.args.self.now) fault
    (ap (λ (xs : List LoopItem). map f xs) (sym (split_at items i _ c.items-test.true))
    ∙ ap (λ (x : LoopItem). map f (take i items ++ x ∷ drop (i + 1) items)) (sym c.item-item.is)
    ∙ map-append f (take i items) (c.item-item.result ∷ drop (i + 1) items))
    (stops_then large_fault_of (map f (take i items))
    ((f c.item-item.result ∷ []) ++ map f (drop (i + 1) items)) (HasEntered c.args.self.now)
    (HasEntered c.items.self) fault c.items.invariant.0
    (stops_before large_fault_of (f c.item-item.result ∷ []) (map f (drop (i + 1) items))
    (HasEntered c.items.self) fault c.in_err-item.ensures.takes)) in
    let passed_on = err_from_is_err_and c.from_residual.result c.from_residual.ensures.1 in
    rw (passed_on.1, passed_on.2) fails_so

pub returns-clause-takes : goal.returns-clause-takes
returns-clause-takes c =
    let f = item_comes (reverse c.args.values.now) in
    leads_these large_fault_of _ _ (HasEntered c.args.self.now) (HasEntered c.items.self)
    (ap (λ (xs : List LoopItem). map f xs)
    (sym (take_all c.items.item-index c.args.items.now c.items-test.false)))
    c.items.invariant.0
