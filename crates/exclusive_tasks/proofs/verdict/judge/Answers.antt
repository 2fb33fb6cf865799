use Rattle.std.proofs.Common.{List, subst}
use Rattle.program_text.specs.Document.{lines_of}
use Rattle.exclusive_tasks.specs.Exclusion.{AreApart}
use Rattle.exclusive_tasks.specs.Lines.{Tells}
use Rattle.exclusive_tasks.specs.declared.claim.Claim.{Claim}
use Rattle.exclusive_tasks.specs.declared.claim.Event.{Event}
use Rattle.exclusive_tasks.proofs.LogLines.{apart_told}
use Rattle.exclusive_tasks.proofs.verdict.judge.Goals as goal

pub returns-in-None : goal.returns-in-None
returns-in-None c =
    let lines = lines_of c.args.text.now in
    let claims = c.in-Log.log.claims.items in
    let events = c.in-Log.log.events.items in
    let told : Tells lines claims events = rw c.in-Log.is at c.in_ok-log.ensures in
    let none : AreApart c.as_slice.result.now c.as_slice-in-Log.result.now =
    rw c.in-None.is at c.in_ok-first_overlap-in-Log.ensures.none in
    apart_told lines claims events told
    (subst (λ (es : List Event). AreApart claims es) c.as_slice-in-Log.ensures.value
    (subst (λ (cs : List Claim). AreApart cs c.as_slice-in-Log.result.now)
    c.as_slice.ensures.value none))
