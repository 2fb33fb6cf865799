use Rattle.spanprof_exclusion.proofs.entry.refuse.Goals as goal

pub returns-in-TooLong-clause-sends : goal.returns-in-TooLong-clause-sends
returns-in-TooLong-clause-sends g c = rw c.in-TooLong.is c.send.ensures.sends

pub returns-in-ReadFailed-clause-sends : goal.returns-in-ReadFailed-clause-sends
returns-in-ReadFailed-clause-sends g c = rw c.in-ReadFailed.is c.send-in-ReadFailed.ensures.sends

pub returns-in-OutOfMemory-clause-sends : goal.returns-in-OutOfMemory-clause-sends
returns-in-OutOfMemory-clause-sends g c = rw c.in-OutOfMemory.is c.send-in-OutOfMemory.ensures.sends
