use Rattle.std.proofs.Common.{List, ℕ, inl, subst}
use Rattle.spanprof_exclusion.specs.Report.{Answers}
use Rattle.spanprof_exclusion.proofs.FaultReports.{fault_reported}
use Rattle.spanprof_exclusion.proofs.entry.start.Goals as goal

pub returns-in-Ok-clause-ends : goal.returns-in-Ok-clause-ends
returns-in-Ok-clause-ends g c =
    let read = c.in-Ok.ensures in let sent = c.tell.ensures.sends in record {
      report = sent.report;
      retries = c.read_input.new.retries;
      retries_after = c.tell.new.retries;
      few = read.retried;
      fewer = c.tell.ensures.retried;
      reports = inl (record {
        says = inl (record {
          log = c.in-Ok.input.items;
          read = read.reads;
          whole = read.to_the_end;
          fits = read.within;
          answers = subst (λ (log : List ℕ). Answers log sent.report) c.as_slice.ensures.value
              sent.answers;
        });
        paid = read.paid (λ e. cc);
        tried_again = read.tried_again (λ e. cc);
      });
      sent = sent.sent;
    }

pub returns-in-Err-clause-ends : goal.returns-in-Err-clause-ends
returns-in-Err-clause-ends g c =
    let read = c.read_input.ensures in record {
      report = _;
      retries = c.read_input.new.retries;
      retries_after = c.refuse.new.retries;
      few = read.retried;
      fewer = c.refuse.ensures.retried;
      reports = fault_reported _ _ _ c.read_input.new.retries c.read_input.result c.in-Err.fault
          c.in-Err.is read.paid read.tried_again read.failed read.gave_up read.too_long;
      sent = c.refuse.ensures.sends;
    }
