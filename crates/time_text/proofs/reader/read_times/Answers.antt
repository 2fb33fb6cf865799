use Rattle.std.proofs.lemmas.Result.{IfErr-weaker}
use Rattle.program_text.specs.Document.{lines_of}
use Rattle.time_text.proofs.WholeTexts.{fault_inside}
use Rattle.time_text.proofs.reader.read_times.Goals as goal

pub returns-clause-inside : goal.returns-clause-inside
returns-clause-inside c =
    IfErr-weaker c.read_rows.result _ _
    (λ fault h. fault_inside _ (lines_of c.args.text.now) fault h)
    c.read_rows.ensures.refused
