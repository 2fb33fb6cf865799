use Rattle.online_span.proofs.Masking.{path_by_masking}
use Rattle.online_span.proofs.laws.path_by_masking.Goals as goal

pub returns : goal.returns
returns c = path_by_masking
