use Rattle.std.proofs.Common.{ℕ, ◌+◌, ◌-◌, ◌<◌, ◌≡◌, ◌↔◌, Some, length, refl, sym, ap, ◌∙◌, subst}
use Rattle.std.proofs.Common.{arith}
use Rattle.std.proofs.lemmas.Option.{none-some}
use Rattle.task_segments.specs.Table.{Table, segment, task}
use Rattle.task_segments.specs.declared.table.Closing.TheVariants.{EndsTask}
use Rattle.open_segments.proofs.Openers.{Opens, none_opens_first, opens_ended, opened_ended}
use Rattle.open_segments.proofs.Openers.{opens_after}
use Rattle.open_segments.proofs.opener.opener.Goals as goal

pub returns-then-segment-eq0 : goal.returns-then-segment-eq0
returns-then-segment-eq0 g c =
    let table : Table = c.args.table.now in
    let first : c.args.segment ≡ 0 = c.if-segment-eq0.true in
    record {
      some = λ s. (
        λ is. absurd (none-some s is),
        λ opens. absurd (none_opens_first table s
            c.reads_in_place.ensures (subst (λ (n : ℕ). Opens table s n) first opens)),
      );
      none = (λ is. first, λ is. refl);
    }

pub returns-in-EndsTask : goal.returns-in-EndsTask
returns-in-EndsTask g c =
    let table : Table = c.args.table.now in
    let facts = c.reads_in_place.ensures in
    let apart = c.if-segment-eq0.false in
    let last : ℕ = c.args.segment - 1 in
    let next : last + 1 ≡ c.args.segment = omega (arith, apart) in
    let known : last < length table.segments = let is_segment = c.requires in
    omega (arith, is_segment, apart) in
    let ends : (segment table last).closing ≡ EndsTask = sym c.closing.ensures ∙ c.in-EndsTask.is in
    let creator : (task table (segment table last).task).creator ≡ c.creator.result =
    sym (c.creator.ensures ∙ ap (λ (u : ℕ). (task table u).creator) c.task_of.ensures) in
    let opener =
    c.opens_after_another.ensures (last + 1) (omega arith) (omega (arith, c.requires, next)) in
    record {
      some = λ s. subst (λ (n : ℕ). (c.creator.result ≡ Some s) ↔ Opens table s n) next
          (opens_ended table last s c.creator.result facts known ends creator opener);
      none = (
        λ is. absurd (opened_ended table last facts ends opener (creator ∙ is)),
        λ is. absurd (apart is),
      );
    }

pub returns-in_default : goal.returns-in_default
returns-in_default g c =
    let table : Table = c.args.table.now in
    let apart = c.if-segment-eq0.false in
    let before : ℕ = c.args.segment - 1 in
    let next : before + 1 ≡ c.args.segment = omega (arith, apart) in
    let known : before < length table.segments = let is_segment = c.requires in
    omega (arith, is_segment, apart) in
    record {
      some = λ s. subst (λ (n : ℕ). (Some before ≡ Some s) ↔ Opens table s n) next
          (opens_after table before s c.reads_in_place.ensures known
          (λ ends. c.in_default.not-EndsTask (c.closing.ensures ∙ ends)));
      none = (λ is. absurd (none-some before (sym is)), λ is. absurd (apart is));
    }
