use Rattle.std.proofs.Common.{◌∙◌, ◌≡◌, List, ap, subst, sym, true, false, ℕ}
use Rattle.std.proofs.lemmas.Result.{on_ok_weaker}
use Rattle.large_text.specs.LargeTexts.{is_large_two}
use Rattle.large_text.specs.PlainStreamed.{CanTakePlain, TakesPlain}
use Rattle.large_text.proofs.Streaming.{can_go_on, can_hand_on, kept_at, left_long, left_plain}
use Rattle.large_text.proofs.stream.TextMeter.leave_head.Goals as goal

pub take-requires-clause-room : goal.take-requires-clause-room
take-requires-clause-room c =
    let self = c.args.self.now in
    let head : c.as_slice-2.result.now ≡ self.head.items =
    c.as_slice-2.ensures.value ∙ ap (λ v. v.items) c.replace-head.ensures.value in
    subst (λ (bytes : List ℕ). CanTakePlain bytes self.plain) (sym head)
    (can_hand_on c.args.rest.now self c.requires.kept c.requires.room)

pub take-requires-2-clause-room : goal.take-requires-2-clause-room
take-requires-2-clause-room c =
    let self = c.args.self.now in
    let head : c.as_slice-2.result.now ≡ self.head.items =
    c.as_slice-2.ensures.value ∙ ap (λ v. v.items) c.replace-head.ensures.value in
    can_go_on c.args.rest.now self c.take.new.self c.requires.kept c.requires.room
    (subst (λ (bytes : List ℕ). TakesPlain bytes self.plain c.take.new.self) head
    c.in_ok-take.ensures.takes)

pub returns-then-is_large_two-clause-takes : goal.returns-then-is_large_two-clause-takes
returns-then-is_large_two-clause-takes c = λ taken fits h.
    let self = c.args.self.now in
    let head : c.as_slice.result.now ≡ self.head.items =
    c.as_slice.ensures.value ∙ ap (λ v. v.items) c.replace-head.ensures.value in
    let two : is_large_two self.head.items ≡ true =
    ap (λ (bytes : List ℕ). is_large_two bytes) (sym head)
    ∙ sym c.is_large_two.ensures
    ∙ c.if-is_large_two.true in
    record {
      fits = fits;
      taken = left_long taken self.head.items c.args.rest.now c.requires.full c.requires.more
          (kept_at self.stage taken self.head.items self.plain c.requires.kept h.taken).all two;
    }

pub returns-clause-takes : goal.returns-clause-takes
returns-clause-takes c =
    let self = c.args.self.now in
    let head : c.as_slice.result.now ≡ self.head.items =
    c.as_slice.ensures.value ∙ ap (λ v. v.items) c.replace-head.ensures.value in
    let whole : c.as_slice-2.result.now ≡ self.head.items =
    c.as_slice-2.ensures.value ∙ ap (λ v. v.items) c.replace-head.ensures.value in
    let one : is_large_two self.head.items ≡ false =
    ap (λ (bytes : List ℕ). is_large_two bytes) (sym head)
    ∙ sym c.is_large_two.ensures
    ∙ c.if-is_large_two.false in
    on_ok_weaker c.take-2.result
    (λ later taken fits h.
    let kept = kept_at self.stage taken self.head.items self.plain c.requires.kept h.taken in
    record {
      fits = fits;
      taken = left_plain taken self.head.items c.args.rest.now c.requires.full c.requires.more
          kept.all self.plain c.take.new.self c.take-2.new.self one fits kept.plain_begun
          (subst (λ (bytes : List ℕ). TakesPlain bytes self.plain c.take.new.self) whole
          c.in_ok-take.ensures.takes)
          later;
    })
    c.take-2.ensures.takes
