use Rattle.task_segments.specs.Precedence.{MustPrecede}
use Rattle.relaxations.proofs.Schedules.{ends_no_later, joined_before, no_longer, same_costs}
use Rattle.relaxations.proofs.Schedules.{stays_legal}
use Rattle.relaxations.proofs.laws.no_more_to_wait_for.Goals as goal

pub returns : goal.returns
returns g c =
    let new = c.args.new.now in
    let kept = c.kept_schedules.ensures in
    record {
      costs = λ old is. same_costs old new is;
      joined = λ old s t is joined.
          joined_before old new s t is ((c.same_chains.ensures.joined s t).0 joined);
      legal = λ old costs starts is legal.
          (kept.legal costs starts).1 (stays_legal old new costs starts is legal);
      span = λ old costs before after is one other.
          no_longer old new costs before after is one ((kept.span costs after).0 other);
      least_end = λ old costs before after is one other.
          ends_no_later (MustPrecede old) (MustPrecede new) costs before after
          (λ starts legal. (kept.legal costs starts).1 (stays_legal old new costs starts is legal))
          one other;
    }
