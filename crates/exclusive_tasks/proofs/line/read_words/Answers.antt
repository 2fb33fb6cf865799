use Rattle.std.proofs.Common.{◌≡◌, ◌≢◌, ◌∙◌, sym, ℕ, List, length, map, Bor}
use Rattle.std.proofs.lemmas.Bool.{eqb-false}
use Rattle.std.proofs.lemmas.List.{length-map}
use Rattle.exclusive_tasks.proofs.LogLines.{none_said}
use Rattle.exclusive_tasks.proofs.line.read_words.Goals as goal

abbrev text_of : Bor (List ℕ) → List ℕ
text_of word = word.now

pub returns-then-words-ne5 : goal.returns-then-words-ne5
returns-then-words-ne5 c =
    let words = c.args.words.now in
    let each : length (map text_of words) ≡ length words = length-map words text_of in
    let some : length words ≢ 0 =
    eqb-false (length words) 0 (sym c.is_empty.ensures ∙ c.if-is_empty.false) in
    sym (none_said (map text_of words) (λ e. some (sym each ∙ e))
    (λ e. c.if-words-eq3.false (sym each ∙ e)) (λ e. c.if-words-ne5.true (sym each ∙ e)))
