use Rattle.large_text.specs.LargeReading.{token_on}
use Rattle.large_text.proofs.Taken.{goes_to, sound, reads_on, is_refused}
use Rattle.large_text.proofs.Memory.{line_at_token}
use Rattle.large_text.proofs.reader.MarkReader.take.Goals as goal

pub take_any-requires : goal.take_any-requires
take_any-requires c =
    (sound c.requires.tokens c.requires.marks c.args.self.now c.requires.so_far).within

pub returns-clause-reads : goal.returns-clause-reads
returns-clause-reads c =
    reads_on c.take_any.result c.args.self.now c.take_any.new.self (token_on c.args.token c.args.line)
    c.take_any.ensures.step c.take_any.ensures.work c.take_any.ensures.all_items

pub returns-clause-goes : goal.returns-clause-goes
returns-clause-goes c =
    goes_to c.take_any.result c.args.self.now c.take_any.new.self
    (token_on c.args.token c.args.line) c.take_any.ensures.step

pub returns-clause-refused : goal.returns-clause-refused
returns-clause-refused c =
    is_refused c.take_any.result c.args.self.now c.take_any.new.self (token_on c.args.token c.args.line)
    c.take_any.ensures.step

pub returns-clause-memory : goal.returns-clause-memory
returns-clause-memory c =
    line_at_token c.take_any.result c.args.self.now c.take_any.new.self (token_on c.args.token c.args.line)
    c.take_any.ensures.step
