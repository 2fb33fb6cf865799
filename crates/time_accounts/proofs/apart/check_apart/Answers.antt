use Rattle.std.proofs.Common.{ℕ, subst}
use Rattle.time_accounts.specs.TimedRun.{AreApart}
use Rattle.time_accounts.proofs.apart.check_apart.Goals as goal

pub returns-clause-ok : goal.returns-clause-ok
returns-clause-ok c =
    subst (λ (n : ℕ). AreApart n c.args.times.now) c.requires.ranged.counted.each.each_begin
    c.in_default.ensures.none
