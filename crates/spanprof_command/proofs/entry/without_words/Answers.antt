use Rattle.spanprof_command.proofs.entry.without_words.Goals as goal

pub returns-then-eq-clause-memory : goal.returns-then-eq-clause-memory
returns-then-eq-clause-memory g c is = record {
  retries_after = c.send.new.retries;
  fewer = c.send.ensures.retried;
  sent = c.send.ensures.sends;
}

pub returns-else-eq-clause-no_text : goal.returns-else-eq-clause-no_text
returns-else-eq-clause-no_text g c is = record {
  retries_after = c.send-else-eq.new.retries;
  fewer = c.send-else-eq.ensures.retried;
  sent = c.send-else-eq.ensures.sends;
}
