-- What the machines read of a text is its one reading.
use Rattle.std.proofs.Common.{◌≡◌, ◌≢◌, ℕ, Bool, false, MatchBool, IfErr, List, Result}
use Rattle.std.proofs.Common.{Ok, Err, refl, subst, sym}
use Rattle.program_text.specs.declared.fault.ReadFault.{ReadFault}
use Rattle.program_text.specs.declared.fault.ReadKind.{ReadKind}
use Rattle.program_text.specs.declared.fault.ReadKind.TheVariants.{OutOfMemory}
use Rattle.program_text.specs.Answers.{Fails, Gives, is_memory}
use Rattle.program_text.specs.Tokens.{tokens_of}
use Rattle.program_text.proofs.Bools.{bool_cases}
use Rattle.task_program.specs.ProgramMarks.{ProgramMarks}
use Rattle.task_program.specs.ReadInVersion.{program_of}
use Rattle.task_program.specs.Versions.{begins_version_two}
use Rattle.task_program.proofs.MachineFaults.{UnlessTooLong, HasPlainFault}
use Rattle.task_program.specs.FirstLoopFault.{HasLoopFault}
use Rattle.task_program.specs.Readings.{HasFirstFault, IsReading, HasOneReading}
use Rattle.task_program.proofs.FaultFound.{fault_is_first}
use Rattle.task_program.proofs.LoopFaultOnly.{loop_fault_is_first}
use Rattle.task_program.proofs.ReadWhole.{found_tree_of, only_tree}

-- the fault by the version
abbrev fault_by : List ℕ → ReadFault → Bool → Type 0
fault_by text fault two = UnlessTooLong text fault
    (MatchBool two (HasLoopFault text fault) (HasPlainFault text fault))

pub not_memory : (kind : ReadKind) → kind ≢ OutOfMemory → is_memory kind ≡ false
not_memory OutOfMemory other = absurd (other refl)
not_memory _ other = refl

told_fault : (fault : ReadFault) (read : Result ProgramMarks ReadFault)
    → Fails fault read
    → fault.kind ≢ OutOfMemory
    → read ≡ Err fault
told_fault fault read h other =
    subst (λ (memory : Bool). MatchBool memory (fault.line ≡ 0) (read ≡ Err fault))
    (not_memory fault.kind other) h

refused_is_first : (text : List ℕ) (fault : ReadFault)
    → program_of text ≡ Err fault
    → HasFirstFault text fault
refused_is_first text fault h =
    bool_cases (begins_version_two (tokens_of text))
    (λ two. subst (fault_by text fault) (sym two)
    (((loop_fault_is_first text two).refused fault).0 h))
    (λ one. subst (fault_by text fault) (sym one) (((fault_is_first text one).refused fault).0 h))

first_is_refused : (text : List ℕ) (fault : ReadFault)
    → HasFirstFault text fault
    → program_of text ≡ Err fault
first_is_refused text fault h =
    bool_cases (begins_version_two (tokens_of text))
    (λ two. ((loop_fault_is_first text two).refused fault).1 (subst (fault_by text fault) two h))
    (λ one. ((fault_is_first text one).refused fault).1 (subst (fault_by text fault) one h))

pub read_as : (text : List ℕ) (reading : Result ProgramMarks ReadFault)
    → program_of text ≡ reading
    → IsReading text reading
read_as text (Ok program) h = found_tree_of text program h
read_as text (Err fault) h = refused_is_first text fault h

-- what the machines read is the reading
pub is_reading : (text : List ℕ) → IsReading text (program_of text)
is_reading text = read_as text (program_of text) refl

-- and there is no other
pub reading_is : (text : List ℕ) (reading : Result ProgramMarks ReadFault)
    → IsReading text reading
    → program_of text ≡ reading
reading_is text (Ok program) h = only_tree text program h
reading_is text (Err fault) h = first_is_refused text fault h

pub one_reading : (text : List ℕ) → HasOneReading text
one_reading text = record {
  reading = program_of text;
  is_reading = is_reading text;
  one = λ other is. sym (reading_is text other is);
}

-- so what is given by the machines is given by the reading
pub gives_reading : (text : List ℕ) (result : Result ProgramMarks ReadFault)
    → Gives (λ program. program) result (program_of text)
    → (reading : Result ProgramMarks ReadFault)
    → IsReading text reading
    → Gives (λ program. program) result reading
gives_reading text result h reading is =
    subst (λ (r : Result ProgramMarks ReadFault). Gives (λ (p : ProgramMarks). p) result r)
    (reading_is text reading is) h

-- and what is refused by the machines, memory aside, is refused with the first fault
pub refused_first : (text : List ℕ) (result : Result ProgramMarks ReadFault)
    → Gives (λ program. program) result (program_of text)
    → IfErr result (λ fault. fault.kind ≢ OutOfMemory → HasFirstFault text fault)
refused_first text (Ok program) h = tt
refused_first text (Err fault) h = λ other. refused_is_first text fault (told_fault fault (program_of text) h other)
