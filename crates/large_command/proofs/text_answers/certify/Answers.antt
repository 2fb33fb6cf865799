use Rattle.std.proofs.Common.{inl, subst}
use Rattle.std.proofs.lemmas.Result.{IfOk-weaker}
use Rattle.task_segments.specs.Table.{table_of}
use Rattle.spanprof_command.specs.Certificates.{TellsCertificate}
use Rattle.large_command.specs.TableReports.{FitsRows}
use Rattle.large_command.proofs.text_answers.certify.Goals as goal

pub returns : goal.returns
returns c =
    IfOk-weaker c.tell_certificate.result _ _
    (λ report h program is of. inl (record {
      fits = subst FitsRows of (record {
        segments = c.within_rows.ensures.few_segments;
        tasks = c.within_rows.ensures.few_tasks;
        work = c.within_rows.ensures.work;
      });
      says = subst (λ text. TellsCertificate text (table_of program.marks) report) is
          (subst (λ table. TellsCertificate c.args.written.items table report) of h);
    }))
    c.tell_certificate.ensures
