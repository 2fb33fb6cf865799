-- A machine that takes tokens one by one, and stops where its rules have a token wrong, reads what is
-- right and refuses the rest with its first fault.
use Rattle.std.proofs.Common.{◌≡◌, ℕ, List, [], ◌∷◌, ◌++◌, append_assoc, Result, Ok, Err, refl, sym}
use Rattle.std.proofs.Common.{ap, subst, ◌∙◌}
use Rattle.std.specs.Prelude.{◌↔◌}
use Rattle.std.proofs.lemmas.List.{append-nil}
use Rattle.program_text.specs.declared.fault.ReadKind.{ReadKind}
use Rattle.program_text.specs.declared.fault.ReadFault.{ReadFault}
use Rattle.program_text.specs.Tokens.{Token, texts}
use Rattle.task_program.specs.FirstFault.{Rules, IsWrong, IsRight, AreRight, EndsEarly}
use Rattle.task_program.specs.FirstFault.{AreRightWhole, IsFirstFault}
use Rattle.task_program.specs.FirstFault.AreRight.{Nothing, More}
use Rattle.task_program.specs.FirstFault.IsFirstFault.{AtToken, AtEnd}
use Rattle.task_program.proofs.FirstFaults.{HasHeader, fault_so, right_not_wrong, wrong_once}
use Rattle.task_program.proofs.FirstFaults.{ends_once}

-- the token is wrong, and the fault says so
abbrev pub WrongSo : Rules → List Token → Token → ReadFault → Type 0
WrongSo rules before token fault =
    (kind : ReadKind) × IsWrong rules before token.text kind × (fault_so kind token.line ≡ fault)

-- the text may not end here, and the fault says why
abbrev pub EndsSo : Rules → List Token → ℕ → ReadFault → Type 0
EndsSo rules all line fault =
    (rules.IsSentence (texts all) → ⊥) × EndsEarly rules all line fault

-- what a machine does at each token and at the end
pub record Machine (rules : Rules) (State Value : Type 0) : Type 1 where
  pub start : State
  pub step : State → Token → Result State ReadFault
  pub read : List Token → ℕ → State → Result Value ReadFault
  pub goes_on : (token : Token) (later : List Token) (line : ℕ) (state next : State)
      → step state token ≡ Ok next
      → read (token ∷ later) line state ≡ read later line next
  pub stops : (token : Token) (later : List Token) (line : ℕ) (state : State) (fault : ReadFault)
      → step state token ≡ Err fault
      → read (token ∷ later) line state ≡ Err fault
  -- what is known of its state behind these tokens
  pub Known : List Token → State → Type 0
  pub at_start : Known [] start
  pub after : (before : List Token) (state next : State) (token : Token)
      → Known before state
      → step state token ≡ Ok next
      → Known (before ++ token ∷ []) next
  pub right : (before : List Token) (state next : State) (token : Token)
      → Known before state
      → step state token ≡ Ok next
      → IsRight rules before token.text
  pub wrong : (before : List Token) (state : State) (token : Token) (fault : ReadFault)
      → Known before state
      → step state token ≡ Err fault
      → WrongSo rules before token fault
  pub whole : (all : List Token) (line : ℕ) (state : State) (value : Value)
      → Known all state
      → read [] line state ≡ Ok value
      → rules.IsSentence (texts all)
  pub early : (all : List Token) (line : ℕ) (state : State) (fault : ReadFault)
      → Known all state
      → read [] line state ≡ Err fault
      → EndsSo rules all line fault

either : {A P : Type 0} (read : Result A ReadFault)
    → ((value : A) → read ≡ Ok value → P)
    → ((fault : ReadFault) → read ≡ Err fault → P)
    → P
either (Ok value) on stops = on value refl
either (Err fault) on stops = stops fault refl

module _ {State Value : Type 0} (rules : Rules) (m : Machine rules State Value) where
  -- ---- what it answers

  -- the fault of the tokens that are left is the first of all of them
  fault_from : (tokens before : List Token) (state : State) (line : ℕ) (fault : ReadFault)
      → AreRight rules before
      → m.Known before state
      → m.read tokens line state ≡ Err fault
      → IsFirstFault rules (before ++ tokens) line fault
  fault_from [] before state line fault rights known h =
      let early = m.early before line state fault known h in
      subst (λ (ts : List Token). IsFirstFault rules ts line fault) (sym (append-nil before))
      (AtEnd before line fault rights early.0 early.1)
  fault_from (token ∷ tokens) before state line fault rights known h =
      either (m.step state token)
      (λ next one. subst (λ (ts : List Token). IsFirstFault rules ts line fault)
      (append_assoc before (token ∷ []) tokens)
      (fault_from tokens (before ++ token ∷ []) next line fault
      (More before token rights (m.right before state next token known one))
      (m.after before state next token known one)
      (sym (m.goes_on token tokens line state next one) ∙ h)))
      (λ other stops.
      let told = m.wrong before state token other known stops in
      let so : m.read (token ∷ tokens) line state ≡ Err other =
      m.stops token tokens line state other stops in
      let same : other ≡ fault = cc in
      subst (IsFirstFault rules (before ++ token ∷ tokens) line) (told.2 ∙ same)
      (AtToken before tokens token line told.0 rights told.1))

  -- where the tokens that are left are read to the end, all of them are right
  whole_from : (tokens before : List Token) (state : State) (line : ℕ) (value : Value)
      → AreRight rules before
      → m.Known before state
      → m.read tokens line state ≡ Ok value
      → AreRightWhole rules (before ++ tokens)
  whole_from [] before state line value rights known h =
      subst (AreRightWhole rules) (sym (append-nil before))
      (record { sentence = m.whole before line state value known h; right = rights })
  whole_from (token ∷ tokens) before state line value rights known h =
      either (m.step state token)
      (λ next one. subst (AreRightWhole rules) (append_assoc before (token ∷ []) tokens)
      (whole_from tokens (before ++ token ∷ []) next line value
      (More before token rights (m.right before state next token known one))
      (m.after before state next token known one)
      (sym (m.goes_on token tokens line state next one) ∙ h)))
      (λ fault stops.
      absurd (let so = m.stops token tokens line state fault stops in
      let both : Ok value ≡ Err fault = sym h ∙ so in cc))

  -- ---- what is answered so

  record ReadSo (before : List Token) : Type 0 where
    state : State
    known : m.Known before state
    goes_on : (later : List Token) (line : ℕ)
        → m.read (before ++ later) line m.start ≡ m.read later line state

  -- tokens of which none is wrong are read
  right_read : (before : List Token) → AreRight rules before → ReadSo before
  right_read before Nothing = record {
    state = m.start;
    known = m.at_start;
    goes_on = λ later line. refl;
  }
  right_read before (More others token rights right) =
      let read_on = right_read others rights in
      either (m.step read_on.state token)
      (λ next one. record {
        state = next;
        known = m.after others read_on.state next token read_on.known one;
        goes_on = λ later line.
            ap (λ (ts : List Token). m.read ts line m.start)
            (append_assoc others (token ∷ []) later)
            ∙ read_on.goes_on (token ∷ later) line
            ∙ m.goes_on token later line read_on.state next one;
      })
      (λ fault stops. let wrong = m.wrong others read_on.state token fault read_on.known stops in
      absurd (right_not_wrong rules others token.text wrong.0 right wrong.1))

  abbrev told : ReadFault → Result Value ReadFault
  told fault = Err fault

  -- a wrong token behind right ones is where the machine stops, with its fault
  refused_at : HasHeader rules → (before later : List Token) (token : Token) (line : ℕ)
      (kind : ReadKind)
      → AreRight rules before
      → IsWrong rules before token.text kind
      → m.read (before ++ token ∷ later) line m.start ≡ Err (fault_so kind token.line)
  refused_at long before later token line kind rights wrong =
      let read_on = right_read before rights in
      either (m.step read_on.state token)
      (λ next one. absurd (right_not_wrong rules before token.text kind
      (m.right before read_on.state next token read_on.known one) wrong))
      (λ fault stops.
      let so = m.wrong before read_on.state token fault read_on.known stops in
      let same : fault ≡ fault_so kind token.line = sym so.2
      ∙ ap (λ (k : ReadKind). fault_so k token.line)
      (wrong_once rules long before token.text so.0 kind so.1 wrong) in
      read_on.goes_on (token ∷ later) line
      ∙ m.stops token later line read_on.state fault stops
      ∙ ap (λ (f : ReadFault). told f) same)

  to_end : (all : List Token) (line : ℕ) (read_on : ReadSo all)
      → m.read all line m.start ≡ m.read [] line read_on.state
  to_end all line read_on =
      ap (λ (ts : List Token). m.read ts line m.start) (sym (append-nil all))
      ∙ read_on.goes_on [] line

  -- right tokens that end too early are refused for that alone
  refused_end : (all : List Token) (line : ℕ) (fault : ReadFault)
      → AreRight rules all
      → (rules.IsSentence (texts all) → ⊥)
      → EndsEarly rules all line fault
      → m.read all line m.start ≡ Err fault
  refused_end all line fault rights no_sentence early =
      let read_on = right_read all rights in
      let so = to_end all line read_on in
      either (m.read [] line read_on.state)
      (λ value h. absurd (no_sentence (m.whole all line read_on.state value read_on.known h)))
      (λ other h. so ∙ h ∙ ap (λ (f : ReadFault). told f) (ends_once rules all line other fault
      (m.early all line read_on.state other read_on.known h).1 early))

  refused_first : HasHeader rules → (tokens : List Token) (line : ℕ) (fault : ReadFault)
      → IsFirstFault rules tokens line fault
      → m.read tokens line m.start ≡ Err fault
  refused_first long tokens _ _ (AtToken before later token line kind rights wrong) =
      refused_at long before later token line kind rights wrong
  refused_first long _ _ _ (AtEnd tokens line fault rights no_sentence early) =
      refused_end tokens line fault rights no_sentence early

  -- ---- both ways

  -- what is refused has this first fault, and no other
  pub refused : HasHeader rules → (tokens : List Token) (line : ℕ) (fault : ReadFault)
      → (m.read tokens line m.start ≡ Err fault) ↔ IsFirstFault rules tokens line fault
  refused long tokens line fault = (
    λ h. fault_from tokens [] m.start line fault Nothing m.at_start h,
    λ first. refused_first long tokens line fault first,
  )

  -- what is read is a sentence of right tokens
  pub whole_read : (tokens : List Token) (line : ℕ) (value : Value)
      → m.read tokens line m.start ≡ Ok value
      → AreRightWhole rules tokens
  whole_read tokens line value h = whole_from tokens [] m.start line value Nothing m.at_start h

  -- and each such is read, to a state of which all is known
  pub ends_whole : (tokens : List Token) (line : ℕ)
      → AreRightWhole rules tokens
      → (state : State)
      × m.Known tokens state
      × (value : Value)
      × (m.read [] line state ≡ Ok value)
      × (m.read tokens line m.start ≡ Ok value)
  ends_whole tokens line w =
      let read_on = right_read tokens w.right in
      let so = to_end tokens line read_on in
      either (m.read [] line read_on.state)
      (λ value h. (read_on.state, read_on.known, value, h, so ∙ h))
      (λ fault h. absurd ((m.early tokens line read_on.state fault read_on.known h).0 w.sentence))

  pub read_whole : (tokens : List Token) (line : ℕ)
      → AreRightWhole rules tokens
      → (value : Value) × (m.read tokens line m.start ≡ Ok value)
  read_whole tokens line w =
      let ends = ends_whole tokens line w in
      (ends.2, ends.4)
