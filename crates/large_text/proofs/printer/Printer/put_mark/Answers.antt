use Rattle.std.proofs.Common.{refl}
use Rattle.std.proofs.lemmas.Result.{on_ok_weaker}
use Rattle.program_text.specs.Marks.Mark.{Ends, GroupBegins, GroupEnds, Waits, Works}
use Rattle.large_text.proofs.Printing.{all_ok, prints_line, prints_task}
use Rattle.large_text.proofs.printer.Printer.put_mark.Goals as goal

pub returns-in-TaskBegins : goal.returns-in-TaskBegins
returns-in-TaskBegins c =
    rw c.in-TaskBegins.is
    (all_ok c.put_task.result _ _ _ _
    (λ text clauses last. prints_task c.args.self.now c.put_task.new.self c.in-TaskBegins.undeferred
    c.in-TaskBegins.items text clauses last)
    c.put_task.ensures.text c.put_task.ensures.clauses c.put_task.ensures.last)

pub returns-in-Work : goal.returns-in-Work
returns-in-Work c =
    rw c.in-Work.is
    (on_ok_weaker c.put_work.result
    (λ line. prints_line c.args.self.now _ (Works c.in-Work.cost) (λ names. line) refl refl (λ items. refl))
    c.put_work.ensures)

pub returns-in-Wait : goal.returns-in-Wait
returns-in-Wait c =
    rw c.in-Wait.is
    (on_ok_weaker c.put_line.result
    (λ line. prints_line c.args.self.now _ Waits (λ names. line) refl refl (λ items. refl))
    c.put_line.ensures)

pub returns-in-GroupOpens : goal.returns-in-GroupOpens
returns-in-GroupOpens c =
    rw c.in-GroupOpens.is
    (on_ok_weaker c.put_line-in-GroupOpens.result
    (λ line. prints_line c.args.self.now _ GroupBegins (λ names. line) refl refl (λ items. refl))
    c.put_line-in-GroupOpens.ensures)

pub returns-in-TaskEnds : goal.returns-in-TaskEnds
returns-in-TaskEnds c =
    rw c.in-TaskEnds.is
    (on_ok_weaker c.put_line-in-TaskEnds.result
    (λ line. prints_line c.args.self.now _ Ends (λ names. line) refl refl (λ items. refl))
    c.put_line-in-TaskEnds.ensures)

pub returns-in-GroupCloses : goal.returns-in-GroupCloses
returns-in-GroupCloses c =
    rw c.in-GroupCloses.is
    (on_ok_weaker c.put_line-in-GroupCloses.result
    (λ line. prints_line c.args.self.now _ GroupEnds (λ names. line) refl refl (λ items. refl))
    c.put_line-in-GroupCloses.ensures)
