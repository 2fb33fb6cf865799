use Rattle.large_documents.proofs.PlaceParts.{has_place, is_least, one_place}
use Rattle.large_documents.proofs.laws.one_place.Goals as goal

pub returns-clause-some : goal.returns-clause-some
returns-clause-some c = has_place

pub returns-clause-one : goal.returns-clause-one
returns-clause-one c = one_place

pub returns-clause-least : goal.returns-clause-least
returns-clause-least c = is_least
