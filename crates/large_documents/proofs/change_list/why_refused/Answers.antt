use Rattle.std.proofs.Common.{[]}
use Rattle.large_documents.proofs.change_list.why_refused.Goals as goal

pub returns : goal.returns
returns c = c.refusal_at.ensures []
