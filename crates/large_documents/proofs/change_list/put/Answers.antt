use Rattle.std.proofs.Common.{◌≡◌, ◌∙◌, List, Some, ap, refl, sym, ℕ}
use Rattle.std.specs.Prelude.{option_map}
use Rattle.large_documents.specs.ChangeLists.{refused_with}
use Rattle.large_documents.specs.declared.change_list.WrongLine.TheVariants.{Refused}
use Rattle.large_documents.proofs.change_list.put.Goals as goal

pub returns-in-Some-clause-wrong : goal.returns-in-Some-clause-wrong
returns-in-Some-clause-wrong c =
    let why : refused_with c.args.list.now.costs.items c.args.change ≡ Some c.in-Some.why =
    ap (λ (xs : List ℕ). refused_with xs c.args.change) (sym c.as_slice.ensures.value)
    ∙ sym c.in-Some.ensures in
    (refl, ap (option_map Refused) why)

pub accept-requires-clause-right : goal.accept-requires-clause-right
accept-requires-clause-right c =
    ap (λ (xs : List ℕ). refused_with xs c.args.change) (sym c.as_slice.ensures.value)
    ∙ sym c.in-None.ensures
