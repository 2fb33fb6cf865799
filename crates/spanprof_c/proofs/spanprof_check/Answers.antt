use Rattle.std.proofs.Common.{true, false}
use Rattle.std.specs.Option.{option_copied}
use Rattle.spanprof_c.proofs.Certificates.{failed_so, unread_so}
use Rattle.spanprof_c.proofs.spanprof_check.Goals as goal

pub returns-in-Ok-clause-refused : goal.returns-in-Ok-clause-refused
returns-in-Ok-clause-refused c =
    failed_so c.args.any_size true c.args.document.now c.split_document.result.program.now
    (option_copied c.split_document.result.rest) c.if-any_size.true c.split_document.ensures.program
    c.split_document.ensures.rest c.in-Ok.table c.check_rest.result c.tell_verdict.new.told
    c.tell_verdict.result c.tell_verdict.new.place c.in-Ok.ensures.found
    c.check_rest.ensures.refused c.tell_verdict.ensures.told

pub returns-in-Err-clause-refused : goal.returns-in-Err-clause-refused
returns-in-Err-clause-refused c = λ some.
    unread_so c.args.any_size true c.args.document.now c.split_document.result.program.now
    (option_copied c.split_document.result.rest) c.if-any_size.true c.split_document.ensures.program
    c.split_document.ensures.rest c.in-Err.fault c.text_refusal.result c.tell.result
    c.tell.new.place c.text_refusal.ensures c.in-Err.ensures.refused c.tell.ensures.told

pub returns-in-Ok-table_of_text-clause-refused : goal.returns-in-Ok-table_of_text-clause-refused
returns-in-Ok-table_of_text-clause-refused c =
    failed_so c.args.any_size false c.args.document.now c.split_document.result.program.now
    (option_copied c.split_document.result.rest) c.if-any_size.false c.split_document.ensures.program
    c.split_document.ensures.rest c.in-Ok-table_of_text.table c.check_rest-in-Ok-table_of_text.result
    c.tell_verdict-in-Ok-table_of_text.new.told c.tell_verdict-in-Ok-table_of_text.result
    c.tell_verdict-in-Ok-table_of_text.new.place c.in-Ok-table_of_text.ensures.found
    c.check_rest-in-Ok-table_of_text.ensures.refused c.tell_verdict-in-Ok-table_of_text.ensures.told

pub returns-in-Err-table_of_text-clause-refused : goal.returns-in-Err-table_of_text-clause-refused
returns-in-Err-table_of_text-clause-refused c = λ some.
    unread_so c.args.any_size false c.args.document.now c.split_document.result.program.now
    (option_copied c.split_document.result.rest) c.if-any_size.false c.split_document.ensures.program
    c.split_document.ensures.rest c.in-Err-table_of_text.fault
    c.text_refusal-in-Err-table_of_text.result c.tell-in-Err-table_of_text.result
    c.tell-in-Err-table_of_text.new.place c.text_refusal-in-Err-table_of_text.ensures
    c.in-Err-table_of_text.ensures.refused c.tell-in-Err-table_of_text.ensures.told
