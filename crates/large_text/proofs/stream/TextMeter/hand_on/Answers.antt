use Rattle.std.proofs.Common.{[], ◌∙◌, ◌≡◌, List, ap, refl, subst, sym, ℕ}
use Rattle.std.proofs.lemmas.Result.{on_ok_weaker}
use Rattle.large_text.specs.PlainStreamed.{CanTakePlain, TakesPlain}
use Rattle.large_text.proofs.Streaming.{can_hand_on, handed_on}
use Rattle.large_text.proofs.stream.TextMeter.hand_on.Goals as goal

pub take-requires-clause-room : goal.take-requires-clause-room
take-requires-clause-room c =
    let self = c.args.self.now in
    let head : c.as_slice.result.now ≡ self.head.items =
    c.as_slice.ensures.value ∙ ap (λ v. v.items) c.replace-head.ensures.value in
    subst (λ (bytes : List ℕ). CanTakePlain bytes self.plain) (sym head)
    (can_hand_on [] self c.requires.kept c.requires.room)

pub returns-clause-takes : goal.returns-clause-takes
returns-clause-takes c =
    let self = c.args.self.now in
    let head : c.as_slice.result.now ≡ self.head.items =
    c.as_slice.ensures.value ∙ ap (λ v. v.items) c.replace-head.ensures.value in
    on_ok_weaker c.take.result
    (λ takes. handed_on self _ c.requires.kept refl c.requires.never_two
    (subst (λ (bytes : List ℕ). TakesPlain bytes self.plain c.take.new.self) head takes))
    c.take.ensures.takes
