use Rattle.large_text.proofs.reader.MarkReader.take_right.Goals as goal

pub returns-in-DependName-clause-step : goal.returns-in-DependName-clause-step
returns-in-DependName-clause-step c = λ marks.
    rw c.in-DependName.is (c.depend_name.ensures.state marks)
