use Rattle.std.proofs.Common.{[], arith, rules, length, ◌≡◌, Some}
use Rattle.std.proofs.lemmas.Iterator.Splits.{YieldsList-from_slice_split}
use Rattle.std.proofs.lemmas.Iterator.Consumers.{YieldsList-turn, YieldsList-end}
use Rattle.std.proofs.lemmas.List.{length_push}
use Rattle.std.specs.List.{slice_split}
use Rattle.program_text.proofs.PlainReading.{IsPart, reads_nothing, reads_word}
use Rattle.program_text.specs.Tokens.{is_blank}
use Rattle.large_documents.proofs.PlaceWords.{all_told, word_refused}
use Rattle.large_documents.specs.Places.{places_in}
use Rattle.large_documents.specs.PlaceSteps.{next_places}
use Rattle.large_documents.proofs.places.read_places.Goals.{In-Some, In-None}
use Rattle.large_documents.proofs.places.read_places.Goals as goal

-- the part of the text that comes next
next_part : (c : In-Some)
    → IsPart (slice_split is_blank c.args.text.now) (length c.loop-word.yielded) c.in-Some.word.now
next_part c =
    let turn = YieldsList-turn
    (YieldsList-from_slice_split _ is_blank c.args.text.now (cc) (cc) (cc)
    (λ x b q k. search rules))
    c.loop-word.yielded _ c.loop-word.yielded_by _ _ c.in-Some.word c.in-Some.is
    c.next.ensures.steps in
    record { is_there = turn.0; is_part = turn.1 }

pub returns-in_err-take_place-clause-refused : goal.returns-in_err-take_place-clause-refused
returns-in_err-take_place-clause-refused c =
    let here = (goal.at.returns-in_err-take_place-clause-refused c).In-Some in
    let bad = word_refused c.args.count c.args.text.now (length c.loop-word.yielded)
    c.loop-word.places.items c.in-Some.word.now c.in_err-take_place.field-0.0 c.loop-word.invariant
    (next_part here) (search rules) c.in_err-take_place.ensures.refused in
    search (rules, bad)

pub loop-word-preserved-then-is_empty : goal.loop-word-preserved-then-is_empty
loop-word-preserved-then-is_empty c =
    let here = (goal.at.loop-word-preserved-then-is_empty c).In-Some in
    reads_nothing (next_places c.args.count) [] _ _ _ c.loop-word.places.items _ c.loop-word.invariant
    (next_part here) (length_push c.loop-word.yielded c.in-Some.word) (search rules)

pub loop-word-preserved : goal.loop-word-preserved
loop-word-preserved c =
    let here = (goal.at.loop-word-preserved c).In-Some in
    reads_word (next_places c.args.count) [] _ _ _ c.loop-word.places.items
    c.take_place.new.places.items _ c.loop-word.invariant (next_part here)
    (length_push c.loop-word.yielded c.in-Some.word) (search rules) (search rules)

-- all words are read
whole : (c : In-None)
    → places_in c.args.count c.args.text.now ≡ Some c.loop-word.places.items
whole c =
    let ended = YieldsList-end
    (YieldsList-from_slice_split _ is_blank c.args.text.now (cc) (cc) (cc)
    (λ x b q k. search rules))
    c.loop-word.yielded _ c.loop-word.yielded_by _ _ c.in-None.is c.next.ensures.steps in
    all_told c.args.count c.args.text.now (length c.loop-word.yielded) c.loop-word.places.items
    c.loop-word.invariant ended.1

pub returns-then-len-count-clause-told : goal.returns-then-len-count-clause-told
returns-then-len-count-clause-told c = record {
  told = whole (goal.at.returns-then-len-count-clause-told c).In-None;
  each = omega arith;
}

pub returns-else-len-count-clause-refused : goal.returns-else-len-count-clause-refused
returns-else-len-count-clause-refused c = record {
  places = c.loop-word.places.items;
  told = whole (goal.at.returns-else-len-count-clause-refused c).In-None;
  other = λ same. omega (arith, same);
}
