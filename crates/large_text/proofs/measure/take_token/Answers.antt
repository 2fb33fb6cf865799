use Rattle.std.proofs.Common.{Option, [], ◌∷◌, ◌++◌, subst, sym}
use Rattle.large_text.specs.declared.marks.TextMark.{TextMark}
use Rattle.large_text.specs.LargeReading.{GoesTo, IsReadSoFar, marks_after, mark_seen, token_on}
use Rattle.large_text.specs.Printed.{IsNameAt, PrintsItem}
use Rattle.large_text.proofs.Fitting.{can_take}
use Rattle.large_text.proofs.Measuring.{mark_taken, token_taken}
use Rattle.large_text.proofs.Printing.{name_at, still_tallies}
use Rattle.large_text.proofs.measure.take_token.Goals as goal

pub print_item-requires : goal.print_item-requires
print_item-requires c =
    subst (λ place. IsNameAt place c.args.token.text.now) (sym c.place-place.ensures)
    (name_at c.args.reader.now.place c.args.reader.now.has_if c.args.token.text.now
    c.in_ok-mark.ensures.goes.allowed)

pub take_mark-requires : goal.take_mark-requires
take_mark-requires c =
    let so_far = c.requires.so_far in
    let more = c.requires.tokens ++ token_on c.args.token c.args.line ∷ [] in
    can_take more so_far.marks (mark_seen c.in-Some.mark) c.take.new.self _
    (subst
    (λ (mark : Option TextMark). IsReadSoFar more (marks_after so_far.marks mark) c.take.new.self)
    c.in-Some.is (c.in_ok-mark.ensures.reads c.requires.tokens so_far.marks so_far.so_far))
    (still_tallies c.args.meter.now c.print_item.new.printer _ so_far.measures)

pub returns-in_ok-take_mark-in-Some-clause-reads :
    goal.returns-in_ok-take_mark-in-Some-clause-reads
returns-in_ok-take_mark-in-Some-clause-reads c = λ before m.
    let token = token_on c.args.token c.args.line in
    let old = c.args.reader.now in
    mark_taken before token c.in-Some.mark old c.take.new.self c.args.meter.now
    c.take_mark.new.tally c.print_item.new.printer
    (λ tokens marks r. subst
    (λ (mark : Option TextMark). IsReadSoFar (tokens ++ token ∷ []) (marks_after marks mark)
    c.take.new.self)
    c.in-Some.is (c.in_ok-mark.ensures.reads tokens marks r))
    (subst (GoesTo old c.take.new.self token) c.in-Some.is c.in_ok-mark.ensures.goes)
    (λ e h. c.in_ok-take_mark-in-Some.ensures.takes e
    (still_tallies c.args.meter.now c.print_item.new.printer e h))
    (subst (λ place. PrintsItem place token.text c.args.meter.now.printer c.print_item.new.printer)
    c.place-place.ensures c.in_ok-print_item.ensures.prints)
    c.in_ok-take_mark-in-Some.ensures.prints m

pub returns-in-None-clause-reads : goal.returns-in-None-clause-reads
returns-in-None-clause-reads c = λ before m.
    let token = token_on c.args.token c.args.line in
    let old = c.args.reader.now in
    token_taken before token old c.take.new.self c.args.meter.now _
    (λ tokens marks r. subst
    (λ (mark : Option TextMark). IsReadSoFar (tokens ++ token ∷ []) (marks_after marks mark)
    c.take.new.self)
    c.in-None.is (c.in_ok-mark.ensures.reads tokens marks r))
    (subst (GoesTo old c.take.new.self token) c.in-None.is c.in_ok-mark.ensures.goes)
    (λ e h. still_tallies c.args.meter.now c.print_item.new.printer e h)
    (subst (λ place. PrintsItem place token.text c.args.meter.now.printer c.print_item.new.printer)
    c.place-place.ensures c.in_ok-print_item.ensures.prints)
    m
