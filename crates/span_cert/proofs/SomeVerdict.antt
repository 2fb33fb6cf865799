-- Each document has a verdict: the claim holds, or some test is the first that fails.
use Rattle.std.proofs.Common.{ℕ, zero, suc, ◌+◌, ◌-◌, ◌<◌, ◌≡◌, ◌≢◌, ◌⊎◌, ◌∙◌, List, [], ◌∷◌}
use Rattle.std.proofs.Common.{Option, Some, None, Result, Ok, Err, length, get_or, take, refl, sym}
use Rattle.std.proofs.Common.{ap, subst, arith, inl, inr}
use Rattle.std.specs.List.{range_with_len}
use Rattle.std.proofs.lemmas.Bool.{cases_lt}
use Rattle.std.proofs.lemmas.List.{get_or_default, take_all}
use Rattle.std.proofs.lemmas.List.Elements.{Contains-get_or}
use Rattle.std.proofs.lemmas.Option.{none-some, same_Some}
use Rattle.task_program.proofs.ReadWhole.{found_tree_of, tree_is_program}
use Rattle.task_program.specs.Document.{program_part, rest_part}
use Rattle.task_program.specs.PlainWords.{all_steps, step_by, words_of}
use Rattle.task_program.specs.ProgramMarks.{ProgramMarks}
use Rattle.task_program.specs.ReadInVersion.{program_of}
use Rattle.task_program.proofs.Readings.{read_as}
use Rattle.task_program.specs.Trees.{HasTree}
use Rattle.program_text.specs.declared.fault.ReadFault.{ReadFault}
use Rattle.task_segments.specs.Precedence.{IsSegment, MustPrecede}
use Rattle.task_segments.specs.Schedule.{AreSegments, IsChain, at, chain_sum, end_of}
use Rattle.task_segments.specs.Table.{Table, costs_of, table_of}
use Rattle.dispatch_core.specs.Facts.{IsSoundTable}
use Rattle.span_cert.proofs.Broken.{legal_kept}
use Rattle.span_cert.proofs.Counting.{bad_step, count_of, length-moments, one_link, one_link_more}
use Rattle.span_cert.proofs.Spelling.{reads_spelled, spelled_reads}
use Rattle.span_cert.specs.Acceptance.{Claims, ClaimsOf, HasClaim, IsChecked}
use Rattle.span_cert.specs.Claims.{Claim, HasForm, Spells, moments_of_starts}
use Rattle.span_cert.specs.Claims.{segments_of_starts, word_says}
use Rattle.span_cert.specs.OneVerdict.{HasVerdict, HasVerdictOf}
use Rattle.span_cert.specs.Steps.{Progress, begin, step}
use Rattle.span_cert.specs.Tests.{Fails, FirstBadStep, FirstBroken, IsBroken, HasRightNumbers}
use Rattle.span_cert.specs.Tests.{NoneIsBroken, checked_of}
use Rattle.span_cert.specs.declared.checker.Checked.{Checked}
use Rattle.span_cert.specs.declared.claim.Expected.{Expected}
use Rattle.span_cert.specs.declared.claim.Expected.TheVariants as expected
use Rattle.span_cert.specs.declared.fault.CheckFault.{CheckFault}
use Rattle.span_cert.specs.declared.fault.CheckFault.TheVariants as fault
use Rattle.span_cert.specs.declared.claim.TheConstants.{MOST_BYTES}
use Rattle.dispatch_core.proofs.DecidedEdges.{decide_precedes}
use Rattle.dispatch_core.proofs.Decisions.{IsDecided, decided_by_equivalent, decide_below}
use Rattle.dispatch_core.proofs.Decisions.{decide_both, decide_each, decide_less, decide_same}
use Rattle.dispatch_core.proofs.Decisions.{find_first}
use Rattle.dispatch_core.proofs.SomeGraph.{whole_table}

-- ---- the form

decide_link : (next : Expected) → IsDecided (next ≡ expected.Link)
decide_link expected.Link = inl refl
decide_link _ = inr (λ e. cc)

abbrev SpellsOrNot : List ℕ → Type 0
SpellsOrNot text = ((claim : Claim) × Spells text claim) ⊎ ((claim : Claim) → ¬ Spells text claim)

abbrev FormOrNone : List ℕ → Type 0
FormOrNone text = ((claim : Claim) × HasForm text claim) ⊎ ((claim : Claim) → ¬ HasForm text claim)

abbrev next_in : Option Progress → Expected
next_in None = expected.EndWord
next_in (Some p) = p.next

abbrev claim_in : Option Progress → Claim
claim_in None = begin.claim
claim_in (Some p) = p.claim

spelled_by : (text : List ℕ) (read : Option Progress)
    → all_steps (step_by word_says step) begin (words_of text) ≡ read
    → SpellsOrNot text
spelled_by text None is = inr (λ claim form. none-some _ (sym is ∙ spelled_reads text claim form))
spelled_by text (Some p) is = elim (decide_link p.next) [
  | inr other ↦ inr (λ claim form. other (ap next_in (sym is ∙ spelled_reads text claim form)))
  | inl link ↦ elim (cases_lt 0 (length p.claim.chain)) [
    | inl some ↦ inl (
      p.claim,
      record { spelled = reads_spelled text p.next p.claim is link; some = some },
    )
    | inr none ↦ inr (λ claim form.
        let same : p.claim ≡ claim = ap claim_in (sym is ∙ spelled_reads text claim form) in
        absurd (omega (arith, none, form.some, ap (λ (c : Claim). length c.chain) same)))
  ]
]

pub spells_or_not : (text : List ℕ) → SpellsOrNot text
spells_or_not text =
    spelled_by text (all_steps (step_by word_says step) begin (words_of text)) refl

form_or_none : (text : List ℕ) → FormOrNone text
form_or_none text = elim (cases_lt MOST_BYTES (length text)) [
  | inl longer ↦ inr (λ claim form. let fits = form.fits in absurd (omega (arith, longer, fits)))
  | inr fits ↦ elim (spells_or_not text) [
    | inl spells ↦ inl (spells.0, record { fits = fits; spells = spells.1 })
    | inr none ↦ inr (λ claim form. none claim form.spells)
  ]
]

-- ---- the tests of a claim

same_lists : (xs ys : List ℕ) → IsDecided (xs ≡ ys)
same_lists [] [] = inl refl
same_lists [] (y ∷ ys) = inr (λ e. cc)
same_lists (x ∷ xs) [] = inr (λ e. cc)
same_lists (x ∷ xs) (y ∷ ys) = elim (decide_same x y) [
  | inr apart ↦ inr (λ e. apart (cc))
  | inl head ↦ elim (same_lists xs ys) [
    | inr apart ↦ inr (λ e. apart (cc))
    | inl tail ↦ inl (cc)
  ]
]

decide_inside : (costs chain : List ℕ) → IsDecided (AreSegments costs chain)
decide_inside costs chain =
    let P : ℕ → Type 0 = λ k. get_or chain k 0 < length costs in
    decided_by_equivalent ((k : ℕ) → k < length chain → P k) (AreSegments costs chain)
    (λ all s h.
    let same : get_or chain h.0 0 ≡ s = get_or_default chain h.0 0 s h.1 ∙ h.2 in
    subst (λ (n : ℕ). n < length costs) same (all h.0 h.1))
    (λ all k within. all (get_or chain k 0) (Contains-get_or chain k 0 within))
    (decide_each P (length chain) (λ k. decide_less (get_or chain k 0) (length costs)))

decide_counted : (table : Table) (claim : Claim) → IsDecided (HasRightNumbers table claim)
decide_counted table claim =
    let A : Type 0 = segments_of_starts claim.starts ≡ range_with_len 0 (length table.segments) in
    let B : Type 0 = AreSegments (costs_of table) claim.chain in
    decided_by_equivalent (A × B) (HasRightNumbers table claim)
    (λ h. record { starts = h.0; chain = h.1 }) (λ c. (c.starts, c.chain))
    (decide_both A B
    (same_lists (segments_of_starts claim.starts) (range_with_len 0 (length table.segments)))
    (decide_inside (costs_of table) claim.chain))

decide_broken : (table : Table) (starts : List ℕ) (s t : ℕ) → IsSoundTable table
    → IsDecided (IsBroken table starts s t)
decide_broken table starts s t sound =
    let A : Type 0 = IsSegment table t in
    let B : Type 0 = MustPrecede table s t in
    let C : Type 0 = at starts t < at starts s + at (costs_of table) s in
    decided_by_equivalent (A × (B × C)) (IsBroken table starts s t)
    (λ h. record { is_segment = h.0; precedes = h.1.0; too_soon = h.1.1 })
    (λ b. (b.is_segment, (b.precedes, b.too_soon)))
    (decide_both A (B × C) (decide_less t (length table.segments))
    (decide_both B C (decide_precedes table s t sound.in_place)
    (decide_less (at starts t) (at starts s + at (costs_of table) s))))

kept_or_broken : (table : Table) (starts : List ℕ) → IsSoundTable table
    → NoneIsBroken table starts ⊎ ((s : ℕ) × (t : ℕ) × FirstBroken table starts s t)
kept_or_broken table starts sound =
    let count : ℕ = length table.segments in
    let B : ℕ → ℕ → Type 0 = λ t s. IsBroken table starts s t in
    let known : (s t : ℕ) → IsBroken table starts s t → s < count = λ s t b.
    let up = sound.goes_up.ascending s t b.precedes in
    omega (arith, up, b.is_segment) in
    let decided : (t s : ℕ) → IsDecided (B t s) = λ t s. decide_broken table starts s t sound in
    elim (find_first (λ t. (s : ℕ) × (s < count) × B t s) count
    (λ t. decide_below (B t) count (decided t))) [
      | inl none ↦ inl (λ s t b. none t b.is_segment (s, known s t b, b))
      | inr to ↦ elim (find_first (B to.0) count (decided to.0)) [
        | inl nor ↦ let holds = to.1.holds in absurd (nor holds.0 holds.1 holds.2)
        | inr from ↦ inr (
          from.0,
          to.0,
          record {
            broken = from.1.holds;
            least_to = λ r u b. elim
                (cases_lt u to.0) [
                  | inl less ↦ absurd
                      (to.1.none_before u less (r, known r u b, b))
                  | inr more ↦ more
                ];
            least_from = λ r b. elim
                (cases_lt r from.0) [
                  | inl less ↦ absurd (from.1.none_before r less b)
                  | inr more ↦ more
                ];
          },
        )
      ]
    ]

linked_from : (table : Table) (chain : List ℕ) (d k : ℕ)
    → IsSoundTable table
    → 0 < k
    → k + d ≡ length chain
    → IsChain (MustPrecede table) (take k chain)
    → IsChain (MustPrecede table) chain ⊎ ((s : ℕ) × (t : ℕ) × FirstBadStep table chain s t)
linked_from table chain zero k sound some all linked =
    inl (subst (λ (xs : List ℕ). IsChain (MustPrecede table) xs)
    (take_all k chain (omega (arith, all))) linked)
linked_from table chain (suc d) k sound some all linked =
    let from : ℕ = get_or chain (k - 1) 0 in
    let to : ℕ = get_or chain k 0 in
    elim (decide_precedes table from to sound.in_place) [
      | inl edge ↦ linked_from table chain d (k + 1) sound (omega arith) (omega (arith, all))
          (one_link_more (MustPrecede table) chain k from to some (omega (arith, all)) linked refl
          refl edge)
      | inr apart ↦
          inr (
            from,
            to,
            bad_step table chain k from to some (omega (arith, all)) refl refl apart linked,
          )
    ]

-- ---- the verdict on a claim

abbrev Verdict : Table → Claim → Type 0
Verdict table claim =
    ((checked : Checked) × IsChecked checked table claim) ⊎
    ((why : CheckFault) × Fails table claim why × (why ≢ fault.OutOfMemory))

verdict_on : (table : Table) (claim : Claim) → IsSoundTable table → 0 < length claim.chain
    → Verdict table claim
verdict_on table claim sound some =
    let starts : List ℕ = moments_of_starts claim.starts in
    let costs : List ℕ = costs_of table in
    elim (decide_counted table claim) [
      | inr wrong ↦ inr (fault.WrongCount, wrong, λ e. cc)
      | inl counted ↦ elim (kept_or_broken table starts sound) [
        | inr pair ↦
            inr (fault.Broken pair.0 pair.1, record { counted = counted; first = pair.2 }, λ e. cc)
        | inl kept ↦ elim (decide_same (end_of costs starts) claim.end) [
          | inr elsewhere ↦ inr (
            fault.EndWrong,
            record { counted = counted; kept = kept; elsewhere = elsewhere },
            λ e. cc,
          )
          | inl ends ↦
              elim (linked_from table claim.chain (length claim.chain - 1) 1 sound (omega arith)
              (omega (arith, some)) (one_link (MustPrecede table) claim.chain some)) [
                | inr pair ↦ inr (
                  fault.ChainStep pair.0 pair.1,
                  record {
                    counted = counted;
                    kept = kept;
                    ends = ends;
                    first = pair.2;
                  },
                  λ e. cc,
                )
                | inl linked ↦ elim (decide_same (chain_sum costs claim.chain) claim.end) [
                  | inr elsewhere ↦ inr (
                    fault.ChainSum,
                    record {
                      counted = counted;
                      kept = kept;
                      ends = ends;
                      linked = linked;
                      elsewhere = elsewhere;
                    },
                    λ e. cc,
                  )
                  | inl reached ↦ inl (
                    checked_of table claim,
                    record {
                      holds = record {
                        counted = counted;
                        legal = legal_kept table starts
                            (length-moments claim.starts ∙ count_of claim.starts
                            (length table.segments) counted.starts) kept;
                        ends = ends;
                        linked = linked;
                        reached = reached;
                      };
                      told = refl;
                    },
                  )
                ]
              ]
        ]
      ]
    ]

-- ---- the verdict on a document

refuses_claim : (document : List ℕ) (why : CheckFault)
    → Claims document (λ table claim. Fails table claim why)
    → why ≢ fault.OutOfMemory
    → HasVerdict document
refuses_claim document fault.OutOfMemory h other = absurd (other refl)
refuses_claim document fault.BadForm h other = absurd h.says
refuses_claim document (fault.BadProgram read) h other = absurd h.says
refuses_claim document why h other = (Err why, refl, h)

checks_claim : (document : List ℕ) (program : ProgramMarks) (claim : Claim)
    → HasTree (program_part document) program
    → HasClaim document claim
    → HasVerdict document
checks_claim document program claim tree has =
    let table : Table = table_of program.marks in
    let whole = whole_table program (tree_is_program (program_part document) program tree) in
    elim (verdict_on table claim whole.sound has.has_form.spells.some) [
      | inl good ↦ (
        Ok good.0,
        refl,
        record {
          program = program;
          tree = tree;
          claim = claim;
          has_claim = has;
          says = good.1;
        },
      )
      | inr bad ↦ refuses_claim document bad.0
          (record { program = program; tree = tree; claim = claim; has_claim = has; says = bad.1 })
          bad.2
    ]

checks_rest : (document : List ℕ) (program : ProgramMarks) (rest : Option (List ℕ))
    → rest_part document ≡ rest
    → HasTree (program_part document) program
    → HasVerdict document
checks_rest document program None is tree = (
  Err fault.BadForm,
  refl,
  record {
    program = program;
    tree = tree;
    none = λ claim h. none-some h.text (sym is ∙ h.is_text);
  },
)
checks_rest document program (Some text) is tree = elim (form_or_none text) [
  | inl form ↦ checks_claim document program form.0 tree
      (record { text = text; is_text = is; has_form = form.1 })
  | inr none ↦
      let other : (claim : Claim) → ¬ HasClaim document claim = λ claim h.
      let same : h.text ≡ text = same_Some h.text text (sym h.is_text ∙ is) in
      none claim (subst (λ (t : List ℕ). HasForm t claim) same h.has_form) in
      (Err fault.BadForm, refl, record { program = program; tree = tree; none = other })
]

checks_read : (document : List ℕ) (read : Result ProgramMarks ReadFault)
    → program_of (program_part document) ≡ read
    → HasVerdict document
checks_read document (Ok program) is =
    checks_rest document program (rest_part document) refl
    (found_tree_of (program_part document) program is)
checks_read document (Err why) is =
    (Err (fault.BadProgram why), refl, read_as (program_part document) (Err why) is)

pub some_verdict : (document : List ℕ) → HasVerdict document
some_verdict document = checks_read document (program_of (program_part document)) refl

-- ---- the verdict on a text about a table

refuses_of : (table : Table) (text : List ℕ) (why : CheckFault)
    → ClaimsOf text (λ claim. Fails table claim why)
    → why ≢ fault.OutOfMemory
    → HasVerdictOf table text
refuses_of table text fault.OutOfMemory h other = absurd (other refl)
refuses_of table text fault.BadForm h other = absurd h.says
refuses_of table text (fault.BadProgram read) h other = absurd h.says
refuses_of table text why h other = (Err why, refl, h)

pub some_verdict_of : (table : Table) (text : List ℕ) → IsSoundTable table → HasVerdictOf table text
some_verdict_of table text sound = elim (spells_or_not text) [
  | inr none ↦ (Err fault.BadForm, refl, none)
  | inl spells ↦ elim (verdict_on table spells.0 sound spells.1.some) [
    | inl good ↦
        (Ok good.0, refl, record { claim = spells.0; spells = spells.1; says = good.1 })
    | inr bad ↦ refuses_of table text bad.0
        (record { claim = spells.0; spells = spells.1; says = bad.1 }) bad.2
  ]
]
