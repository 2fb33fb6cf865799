-- Why a certificate does not hold, from what the steps of its check answer.
use Rattle.std.proofs.Common.{ℕ, ◌≡◌, ◌≢◌, ◌≤◌, Bool, List, [], Option, Result, Ok, Err}
use Rattle.std.proofs.Common.{inl, inr, subst, sym}
use Rattle.std.specs.Prelude.{IfErr, MatchResult}
use Rattle.program_text.specs.Document.{program_part, rest_part}
use Rattle.program_text.specs.declared.fault.ReadFault.{ReadFault}
use Rattle.program_text.specs.declared.fault.ReadKind.TheVariants.{OutOfMemory}
use Rattle.span_cert.specs.declared.checker.Checked.{Checked}
use Rattle.span_cert.specs.declared.fault.CheckFault.{CheckFault}
use Rattle.task_segments.specs.Table.{Table}
use Rattle.spanprof_c.specs.Documents.{RefusesRest, TellsNoCertificate, TellsTest}
use Rattle.spanprof_c.specs.Documents.{checked_told, claim_number, claim_place, program_of_document}
use Rattle.spanprof_c.specs.Programs.{IsFaultOf, OfText, source}
use Rattle.spanprof_c.specs.Refusals.{IsRefused, asked, number_of, place_of}
use Rattle.spanprof_c.specs.Steps.{refusal_of_text}
use Rattle.spanprof_c.specs.declared.refusal.Refusal.{Refusal}
use Rattle.spanprof_c.specs.declared.told.Certified.{Certified}
use Rattle.spanprof_c.specs.declared.told.Place.{Place}
use Rattle.spanprof_c.proofs.Reasons.{unread, why_so}

-- a document that is split into its program, read as one of any size or within the limits, and the rest
module _ (any_size way : Bool) (document program : List ℕ) (rest : Option (List ℕ))
    (is_way : any_size ≡ way) (is_program : program ≡ program_part document)
    (is_rest : rest ≡ rest_part document) where
  -- it fails a test on the program's table
  pub failed_so : (table : Table) (verdict : Result Checked CheckFault) (told : Certified)
      (number : ℕ) (place : Place)
      → OfText (source way program) (λ other. other ≡ table)
      → IfErr verdict (RefusesRest table rest)
      → MatchResult verdict (λ checked. (number ≡ 0) × (checked_told told ≡ checked))
      (λ fault. (1 ≤ number) × (number ≡ claim_number fault) × (place ≡ claim_place fault))
      → number ≢ 0
      → TellsNoCertificate any_size document number place
  failed_so table (Ok checked) told number place found refuses tells some = absurd (some tells.0)
  failed_so table (Err fault) told number place found refuses tells some =
      let Fails : Option (List ℕ) → Table → Type 0 = λ r t. RefusesRest t r fault in
      let Of : Bool → List ℕ → Type 0 = λ size text. OfText (source size text) (Fails (rest_part document)) in
      let fails = subst (λ (r : Option (List ℕ)). Fails r table) is_rest refuses in
      let here : Of way program = record {
        marks = found.marks;
        stands = found.stands;
        says = subst (Fails (rest_part document)) (sym found.says) fails;
      } in
      let test : TellsTest any_size document number place = record {
        fault = fault;
        is_fault = subst (λ (size : Bool). Of size (program_part document)) (sym is_way)
            (subst (Of way) is_program here);
        is_number = tells.1;
        is_place = tells.2;
      } in
      inr test

  -- its program is not read
  pub unread_so : (fault : ReadFault) (why : Refusal) (number : ℕ) (place : Place)
      → why ≡ refusal_of_text fault
      → (fault.kind ≢ OutOfMemory → IsFaultOf way program fault)
      → (1 ≤ number) × (number ≡ number_of why) × (place ≡ place_of why)
      → TellsNoCertificate any_size document number place
  unread_so fault why number place is_why first tells =
      let ask = asked (program_of_document any_size document) [] 1 [] in
      let First : Bool → List ℕ → Type 0 = λ size text. fault.kind ≢ OutOfMemory → IsFaultOf size text fault in
      let there = subst (λ (size : Bool). First size (program_part document)) (sym is_way)
      (subst (First way) is_program first) in
      let is : IsRefused ask why = subst (IsRefused ask) (sym is_why) (unread ask fault there) in
      inl (why_so ask why number place tells is)
