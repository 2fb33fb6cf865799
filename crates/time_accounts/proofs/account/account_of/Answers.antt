use Rattle.std.proofs.Common.{arith}
use Rattle.std.proofs.lemmas.Grind.{common_steps}
use Rattle.time_accounts.proofs.account.account_of.Goals as goal

pub returns-in_err-check_times-clause-refused : goal.returns-in_err-check_times-clause-refused
returns-in_err-check_times-clause-refused c few soon timed =
    let only = c.check_times.ensures.refused few soon timed in grind (arith, common_steps, only)
