use Rattle.std.proofs.Common.{◌∙◌}
use Rattle.program_text.specs.PlainWords.{words_of}
use Rattle.exclusive_tasks.proofs.LogLines.{first_words_say}
use Rattle.exclusive_tasks.proofs.line.read_line.Goals as goal

pub returns : goal.returns
returns c =
    c.read_words.ensures
    ∙ rw (c.as_slice.ensures.value, c.in_ok-words.ensures)
    (first_words_say (words_of c.args.line.now))
