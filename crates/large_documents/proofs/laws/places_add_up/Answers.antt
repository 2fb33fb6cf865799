use Rattle.std.proofs.Common.{◌<◌, ℕ, sym, subst}
use Rattle.large_documents.proofs.PlaceParts.{add_up}
use Rattle.large_documents.proofs.laws.places_add_up.Goals as goal

pub returns : goal.returns
returns c = λ graph found places is analysis each.
    let of = analysis.findings in
    add_up graph.costs found places (sym each)
    (λ s stands. subst (λ (n : ℕ). s < n) (sym each) (of.segments s stands)) of.all_work of.reached
