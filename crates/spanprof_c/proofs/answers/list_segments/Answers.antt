use Rattle.std.proofs.Common.{[], ◌∷◌, length, subst, sym}
use Rattle.spanprof_c.specs.Programs.{IsFaultOf, source}
use Rattle.spanprof_c.specs.Refusals.{IsRefused, asked}
use Rattle.spanprof_c.proofs.Reasons.{unread}
use Rattle.spanprof_c.proofs.answers.list_segments.Goals as goal

-- a text of any size that is not read
pub returns-in-Err-clause-refused : goal.returns-in-Err-clause-refused
returns-in-Err-clause-refused c =
    let ask = asked (source c.args.any_size c.args.text.now) [] 1
    (length c.args.tasks.now ∷ length c.args.costs.now ∷ []) in
    subst (λ why. IsRefused ask why) (sym c.text_refusal.ensures)
    (unread ask c.in-Err.fault (λ some. subst (λ any. IsFaultOf any c.args.text.now c.in-Err.fault)
    (sym c.if-any_size.true) (c.in-Err.ensures.refused some)))
