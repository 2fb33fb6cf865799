-- One token more: what was read keeps its meaning, and nothing is wrong with the token.
use Rattle.std.proofs.Common.{◌≡◌, ℕ, ◌+◌, ◌≤◌, Bool, true, false, cond, List, [], ◌∷◌}
use Rattle.std.proofs.Common.{◌++◌, length, Option, Some, None, Ok}
use Rattle.std.proofs.Common.{refl, sym, ap, subst, ◌∙◌, arith}
use Rattle.std.specs.Prelude.{drop}
use Rattle.std.proofs.lemmas.Bool.{not-false, ltb-false}
use Rattle.std.proofs.lemmas.List.{length-map}
use Rattle.std.proofs.Common.{length-append}
use Rattle.program_text.specs.declared.fault.ReadKind.{ReadKind}
use Rattle.program_text.specs.declared.limits.TheConstants.{MOST_WORK}
use Rattle.program_text.specs.Limits.{work_of, work_done}
use Rattle.program_text.specs.Marks.{Mark}
use Rattle.program_text.specs.Tokens.{Token, texts}
use Rattle.program_text.specs.Words.{is_number, value_of}
use Rattle.program_text.proofs.Bools.{bool_cases}
use Rattle.task_program.specs.declared.place.Place.{Place}
use Rattle.task_program.specs.Faults.{State, after_at, is_allowed, line_of_block}
use Rattle.task_program.specs.TokenCounts.{work_by, is_work_past, limit_fault_after}
use Rattle.task_program.specs.FirstFault.{IsRight}
use Rattle.task_program.specs.FirstFault.AreRight.{More}
use Rattle.task_program.proofs.Keeping.{Allows, with_one}
use Rattle.task_program.proofs.FoundPlaces.{Explains, Explained}
use Rattle.task_program.proofs.Found.{place_goes}
use Rattle.task_program.proofs.FoundWhole.{bytes_stay}
use Rattle.task_program.proofs.Shapes.{fits}
use Rattle.task_program.proofs.Begun.{Began, began_more, shape_of, fits_of}
use Rattle.task_program.proofs.Begun.{viable_next, closes_same, texts_more}
use Rattle.task_program.proofs.Tallies.{Tally, tally_of, tally_after, tally_now, tally_at}
use Rattle.task_program.proofs.Tallies.{NoItems, is_past_header, place_tallies, header_tallies}
use Rattle.task_program.proofs.FaultFound.{items_go, tally_goes}
use Rattle.large_text.specs.declared.limits.TheConstants.{MOST_LARGE_NESTING}
use Rattle.large_text.specs.declared.limits.TheConstants.{MOST_LARGE_ITEMS}
use Rattle.large_text.specs.declared.limits.TheConstants.{MOST_TASK_ITEMS}
use Rattle.large_text.specs.declared.marks.TextMark.{TextMark}
use Rattle.large_text.specs.declared.reader.MarkReader.{MarkReader}
use Rattle.large_text.specs.LargeFaults.{large_limit_by, is_inside_at}
use Rattle.large_text.specs.LargeFaults.{items_coming, large_form_fault}
use Rattle.large_text.specs.LargeReading.{state_of, with_bytes, marks_after, large_step}
use Rattle.large_text.specs.LargeReading.{mark_seen}
use Rattle.large_text.specs.LargeTrees.{large_rules, too_many_large, all_items_in}
use Rattle.large_text.proofs.Items.{AreCounted, counted_more}
use Rattle.large_text.proofs.Sound.{IsBehind, IsSound}
use Rattle.large_text.proofs.Open.{TreeOpen, place_open}
use Rattle.large_text.proofs.Steps.{Passed, passed, is_there, is_under, closes_so}
use Rattle.large_text.proofs.Steps.{number_fits, is_formed, names_grow, items_grow}

-- ---- the grammar

-- the grammar has the token there, and its number is not too large
allows : (work all_items : ℕ) (state : State) (token : Token) (next : State)
    → Passed work all_items state token next
    → Allows (with_bytes state (length token.text)) token.text
allows work all_items state token next p =
    let text = token.text in
    let there = is_there state.place state.head.has_if (length state.tree.blocks) text p.grammar in
    let under = is_under (is_inside_at state.place) work (all_items + items_coming state.place)
    (length state.head.items + items_coming state.place) (length state.tree.blocks) text p.limit in
    record {
      header = there.header;
      unopened = closes_same state.place state.tree.blocks text
          ∙ sym (closes_so state.place (length state.tree.blocks) text)
          ∙ there.unopened;
      allowed = there.allowed;
      number = number_fits state.place state.head.has_if text (not-false _ there.allowed)
          under.value;
    }

fits_there : (work all_items : ℕ) (state : State) (token : Token) (next : State)
    → Passed work all_items state token next
    → fits (shape_of state) token.text ≡ true
fits_there work all_items state token next p =
    let a = allows work all_items state token next p in
    fits_of (with_bytes state (length token.text)) token.text a.header a.unopened a.allowed

-- the bytes go on, and what was read keeps its meaning
explained_more : (before : List (List ℕ)) (work all_items : ℕ) (state next : State) (token : Token)
    → Explained before state
    → Passed work all_items state token next
    → Explained (before ++ token.text ∷ []) next
explained_more before work all_items state next token e p =
    let explains = e.1 in
    let inside : State = with_bytes state (length token.text) in
    let still : Explains before inside e.0 = record {
      spelled = explains.spelled;
      version = explains.version;
      means = explains.means;
      names_are = explains.names_are;
      items_are = explains.items_are;
      clauses = explains.clauses;
      head = explains.head;
    } in
    subst (Explained (before ++ token.text ∷ [])) p.next_is
    (place_goes inside state.place token.text token.line before e.0
    (allows work all_items state token next p) still)

-- ---- what is counted on the tokens

inside_so : (place : Place) (state : State)
    → (tally_at place state).inside ≡ is_inside_at place
inside_so _ state = refl

items_so : (place : Place) (state : State)
    → (tally_at place state).items ≡ length state.head.items + items_coming place
items_so _ state = refl

same_limit : (inside inside' : Bool) (work work' all all' items items' blocks blocks' : ℕ)
    (text : List ℕ)
    → inside ≡ inside'
    → work ≡ work'
    → all ≡ all'
    → items ≡ items'
    → blocks ≡ blocks'
    → large_limit_by inside work all items blocks text
    ≡ large_limit_by inside' work' all' items' blocks' text
same_limit inside inside' work work' all all' items items' blocks blocks' text a b c d e =
    rw (a, b, c, d, e) refl

abbrev limit_told : Tally → (all_items : ℕ) → List ℕ → Option ReadKind
limit_told t all_items text = large_limit_by t.inside t.work all_items t.items (length t.braces) text

-- the limits counted on the tokens are those that the reader tests
pub limits_so : (before : List Token) (state : State) (work all_items : ℕ) (text : List ℕ)
    → tally_of (drop 2 before) ≡ tally_now state
    → work ≡ work_of state.tree.marks
    → AreCounted before state.place all_items
    → limit_fault_after MOST_LARGE_NESTING MOST_TASK_ITEMS (too_many_large (drop 2 before) text) (drop 2 before) text
    ≡ large_limit_by (is_inside_at state.place) work (all_items + items_coming state.place)
    (length state.head.items + items_coming state.place) (length state.tree.blocks) text
limits_so before state work all_items text tally_is work_is counted =
    ap (λ (t : Tally). limit_told t (all_items_in (texts (drop 2 before))) text) tally_is
    ∙ same_limit _ _ _ _ _ _ _ _ _ _ text (inside_so state.place state) (sym work_is) (sym counted)
    (items_so state.place state) (length-map state.tree.blocks line_of_block)

-- ---- the whole state

work_more : (marks : List Mark) (mark : Option TextMark)
    → work_of (marks_after marks mark) ≡ work_of marks + work_of (marks_after [] mark)
work_more marks None = omega arith
work_more marks (Some mark) =
    omega (arith, with_one work_done marks (mark_seen mark), with_one work_done [] (mark_seen mark))

-- work outside parentheses is counted, and within the limit
work_fits : (inside : Bool) (work : ℕ) (text : List ℕ)
    → work ≤ MOST_WORK
    → is_work_past inside work text ≡ false
    → work + cond inside 0 (work_by text) ≤ MOST_WORK
work_fits true work text le h = omega (arith, le)
work_fits false work text le h =
    bool_cases (is_number text)
    (λ number. rw number (ltb-false MOST_WORK (work + value_of text) (rw number at h)))
    (λ other. rw other (omega (arith, le)))

-- with this token the work is still within its limit
work_within : (before : List Token) (state next : State) (token : Token)
    → Began (texts before) state
    → tally_of (drop 2 before) ≡ tally_now state
    → NoItems state.place state.head.items
    → is_allowed state.place state.head.has_if token.text ≡ true
    → after_at state.place (with_bytes state (length token.text)) token.text token.line ≡ next
    → work_of state.tree.marks ≤ MOST_WORK
    → is_work_past (is_inside_at state.place) (work_of state.tree.marks) token.text ≡ false
    → work_of next.tree.marks ≤ MOST_WORK
work_within before state next token began tally_is none allowed same le past_not =
    let inside : State = with_bytes state (length token.text) in
    bool_cases (is_past_header state.place)
    (λ past.
    let there = place_tallies state.place inside token.text token.line past none allowed in
    let on : (tally_after (tally_at state.place inside)
    (record { text = token.text; line = token.line })).work
    ≡ work_of next.tree.marks =
    ap (λ (t : Tally). t.work) there ∙ ap (λ (s : State). (tally_now s).work) same in
    let fits_so = work_fits (is_inside_at state.place) (work_of state.tree.marks) token.text le
    past_not in
    let inside_is = ap (λ (b : Bool). work_of state.tree.marks + cond b 0 (work_by token.text))
    (inside_so state.place inside) in
    omega (arith, sym on ∙ inside_is, fits_so))
    (λ here.
    let there = header_tallies state.place inside token.text token.line here in
    let on : work_of state.tree.marks ≡ work_of next.tree.marks =
    ap (λ (t : Tally). t.work) there ∙ ap (λ (s : State). (tally_now s).work) same in
    omega (arith, sym on, le))

-- nothing is wrong with a token that is taken
pub right_more : (before : List Token) (work all_items : ℕ) (state next : State) (token : Token)
    → IsBehind before state
    → work ≡ work_of state.tree.marks
    → AreCounted before state.place all_items
    → Passed work all_items state token next
    → IsRight large_rules before token.text
right_more before work all_items state next token b work_is counted p = record {
  formed = subst (λ (n : ℕ). large_form_fault n token.text ≡ None) b.began.bytes_are p.formed;
  viable = viable_next (texts before) state token.text b.began
      (fits_there work all_items state token next p);
  within = limits_so before state work all_items token.text b.tally_is work_is counted ∙ p.limit;
}

-- what is so behind one token more
pub behind_more : (before : List Token) (work all_items : ℕ) (state next : State) (token : Token)
    → IsBehind before state
    → Passed work all_items state token next
    → IsBehind (before ++ token ∷ []) next
behind_more before work all_items state next token b p =
    let inside : State = with_bytes state (length token.text) in
    let there =
    is_there state.place state.head.has_if (length state.tree.blocks) token.text p.grammar in
    let allowed = not-false _ there.allowed in
    let more = sym (texts_more before token) in
    record {
      explained = subst (λ (ts : List (List ℕ)). Explained ts next) more
          (explained_more (texts before) work all_items state next token b.explained p);
      began = subst (λ (ts : List (List ℕ)). Began ts next) more
          (began_more (texts before) state next token b.began
          (fits_there work all_items state token next p) p.next_is);
      tally_is = tally_goes before state (state.bytes + length token.text) next token b.began b.tally_is
          b.no_items allowed p.next_is;
      no_items = subst (λ (s : State). NoItems s.place s.head.items) p.next_is
          (items_go state.place inside token.text token.line b.no_items);
      open_are = subst (λ (s : State). TreeOpen s.tree) p.next_is
          (place_open state.place inside token.text token.line b.open_are);
    }

one_mark : (marks : List Mark) (mark : Option TextMark)
    → length (marks_after marks mark) ≤ length marks + 1
one_mark marks None = omega arith
one_mark marks (Some mark) = omega (arith, length-append marks (mark_seen mark ∷ []))

-- one token more is counted
pub counted_so : (before : List Token) (work all_items : ℕ) (state next : State) (token : Token)
    → IsBehind before state
    → AreCounted before state.place all_items
    → Passed work all_items state token next
    → AreCounted (before ++ token ∷ []) next.place (all_items + items_coming state.place)
counted_so before work all_items state next token b counted p =
    let there =
    is_there state.place state.head.has_if (length state.tree.blocks) token.text p.grammar in
    counted_more before state next (state.bytes + length token.text) all_items token b.began counted
    (not-false _ there.allowed) p.next_is

-- one token more
pub read_more : (before : List Token) (marks : List Mark) (old new : MarkReader) (token : Token)
    (mark : Option TextMark)
    → IsSound before marks old
    → large_step old.work old.all_items (state_of old marks) token
    ≡ Ok (state_of new (marks_after marks mark))
    → new.work ≡ old.work + work_of (marks_after [] mark)
    → new.all_items ≡ old.all_items + items_coming old.place
    → IsSound (before ++ token ∷ []) (marks_after marks mark) new
read_more before marks old new token mark r step work all_items =
    let state = state_of old marks in
    let b = r.behind in
    let next = state_of new (marks_after marks mark) in
    let inside : State = with_bytes state (length token.text) in
    let p = passed old.work old.all_items state token next step in
    let there =
    is_there state.place state.head.has_if (length state.tree.blocks) token.text p.grammar in
    let under = is_under (is_inside_at state.place) old.work (old.all_items + items_coming old.place)
    (length old.items + items_coming old.place) (length state.tree.blocks) token.text p.limit in
    let form = is_formed state.bytes token.text p.formed in
    let allowed = not-false _ there.allowed in
    let bytes_is : new.bytes ≡ old.bytes + length token.text =
    sym (ap (λ (s : State). s.bytes) p.next_is)
    ∙ bytes_stay state.place inside token.text token.line in
    let names_few : length new.names ≤ length old.names + items_coming old.place =
    subst (λ (s : State). length s.names ≤ length old.names + items_coming old.place) p.next_is
    (names_grow state.place inside token.text token.line) in
    let items_few : length new.items ≤ length old.items + items_coming old.place =
    subst (λ (s : State). length s.head.items ≤ length old.items + items_coming old.place)
    p.next_is (items_grow state.place inside token.text token.line) in
    let work_is : new.work ≡ work_of (marks_after marks mark) =
    omega (arith, work, r.work_is, work_more marks mark) in
    let work_few : work_of (marks_after marks mark) ≤ MOST_WORK = work_within before state next token
    b.began b.tally_is b.no_items allowed p.next_is (omega (arith, r.work_is, r.within.work))
    (subst (λ (n : ℕ). is_work_past (is_inside_at old.place) n token.text ≡ false) r.work_is
    under.work_fits) in
    record {
      behind = behind_more before old.work old.all_items state next token b p;
      right = More before token r.right
          (right_more before old.work old.all_items state next token b r.work_is r.counted p);
      work_is = work_is;
      counted = subst (AreCounted (before ++ token ∷ []) new.place) (sym all_items)
          (counted_so before old.work old.all_items state next token b r.counted p);
      few = omega (arith, one_mark marks mark, bytes_is, form.some, r.few);
      within = record {
        bytes = omega (arith, bytes_is, form.bytes_fit);
        all_items = omega (arith, all_items, ltb-false MOST_LARGE_ITEMS _ under.all_fit);
        names = omega (arith, names_few, all_items, r.within.names);
        items = omega (arith, items_few, ltb-false MOST_TASK_ITEMS _ under.items_fit);
        work = omega (arith, work_is, work_few);
      };
    }
