use Rattle.large_command.proofs.Lengths.{fits_or_too_long, not_both, stays_too_long}
use Rattle.large_command.proofs.laws.fits_or_too_long.Goals as goal

pub returns-clause-one : goal.returns-clause-one
returns-clause-one c = fits_or_too_long

pub returns-clause-not_both : goal.returns-clause-not_both
returns-clause-not_both c = not_both

pub returns-clause-stays : goal.returns-clause-stays
returns-clause-stays c = stays_too_long
