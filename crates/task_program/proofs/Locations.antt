-- The tokens of a location, and of text that is given by its tokens' texts.
use Rattle.std.proofs.Common.{◌≡◌, ℕ, zero, suc, ◌+◌, ◌≤◌, Bool, true, false, cond, List, [], ◌∷◌}
use Rattle.std.proofs.Common.{◌++◌, append_assoc, Some, None, refl, sym, ap, subst, ◌∙◌, arith}
use Rattle.std.proofs.Common.{codes}
use Rattle.std.specs.Prelude.{nat_lt, min}
use Rattle.std.specs.Fmt.{decimal}
use Rattle.std.proofs.lemmas.Bool.{le-leb, lt-ltb}
use Rattle.std.proofs.lemmas.List.{append-nil}
use Rattle.program_text.specs.declared.statement.DependKind.{DependKind}
use Rattle.loop_text.specs.declared.loops.LoopItem.{LoopItem}
use Rattle.task_program.specs.Programs.{IsLocation, IsNameIn}
use Rattle.task_program.specs.Programs.IsLocation.{Plain, Indexed}
use Rattle.task_program.specs.Subscripts.{subscript}
use Rattle.program_text.specs.declared.limits.TheConstants.{LARGEST_INDEX, LARGEST_STEP}
use Rattle.program_text.specs.Tokens.{Token, texts, starts_with_run_byte}
use Rattle.program_text.specs.Words.{is_word}
use Rattle.task_program.specs.Expansion.{subscript_of, index_fits}
use Rattle.loop_text.specs.Parts.{step_of}
use Rattle.task_program.specs.declared.version.Version.{Version}
use Rattle.task_program.specs.declared.version.Version.TheVariants.{One, Two}
use Rattle.task_program.specs.Grammar as grammar
use Rattle.task_program.specs.Grammar.{index_of, ItemSpelled}
use Rattle.task_program.proofs.Spelled.{spell, word_then, number_then, decimal_value}
use Rattle.task_program.proofs.Spelled.{decimal_number, IsWritten}
use Rattle.task_program.proofs.ReadBack.{AllShort, none_short, cons_short, number_short, is_short}

-- ---- tokens with these texts, whatever their lines

unfoldable pub with_lines : List (List ℕ) → (ℕ → ℕ) → List Token
with_lines [] lines = []
with_lines (text ∷ later) lines = record { text = text; line = lines 0 }
    ∷ with_lines later (λ i. lines (suc i))

lines_from : ℕ → (ℕ → ℕ) → ℕ → ℕ
lines_from line later zero = line
lines_from line later (suc i) = later i

-- all tokens are such
pub have_lines : (tokens : List Token)
    → (lines : ℕ → ℕ) × (with_lines (texts tokens) lines ≡ tokens)
unfolding with_lines lines_from
have_lines [] = (λ i. i, refl)
have_lines (token ∷ tokens) =
    let later = have_lines tokens in
    (lines_from token.line later.0, ap (λ (ts : List Token). token ∷ ts) later.1)

pub lines_apart : (one other : List (List ℕ)) (lines : ℕ → ℕ)
    → (later : ℕ → ℕ)
    × (with_lines (one ++ other) lines ≡ with_lines one lines ++ with_lines other later)
unfolding with_lines
lines_apart [] other lines = (lines, refl)
lines_apart (text ∷ one) other lines =
    let rest = lines_apart one other (λ i. lines (suc i)) in
    (rest.0, ap (λ (ts : List Token). record { text = text; line = lines 0 } ∷ ts) rest.1)

-- ---- the tokens of a location

abbrev pub sign_texts : Bool → List (List ℕ)
sign_texts is_negative = cond is_negative (codes "-" ∷ []) []

abbrev pub subscript_texts : Bool → ℕ → List (List ℕ)
subscript_texts is_negative size =
    codes "[" ∷ (sign_texts is_negative ++ decimal size ∷ codes "]" ∷ [])

closes_spelled : (rest : List ℕ) → spell false (codes "]" ++ rest) ≡ codes "]" ∷ spell false rest
unfolding spell
closes_spelled rest = refl

size_spelled : (size : ℕ) (rest : List ℕ)
    → size ≤ LARGEST_INDEX
    → spell false ((decimal size ++ codes "]") ++ rest)
    ≡ decimal size ∷ codes "]" ∷ spell false rest
size_spelled size rest fits =
    ap (spell false) (append_assoc (decimal size) (codes "]") rest)
    ∙ number_then (decimal size) (codes "]" ++ rest) (decimal_number size (omega (arith, fits)))
    refl
    ∙ ap (λ (ts : List (List ℕ)). decimal size ∷ ts) (closes_spelled rest)

plus_spelled : (size : ℕ) (rest : List ℕ)
    → spell false (subscript false size ++ rest)
    ≡ codes "[" ∷ spell false ((decimal size ++ codes "]") ++ rest)
unfolding spell
plus_spelled size rest = refl

minus_spelled : (size : ℕ) (rest : List ℕ)
    → spell false (subscript true size ++ rest)
    ≡ codes "[" ∷ codes "-" ∷ spell false ((decimal size ++ codes "]") ++ rest)
unfolding spell
minus_spelled size rest = refl

subscript_spelled : (is_negative : Bool) (size : ℕ) (rest : List ℕ)
    → size ≤ LARGEST_INDEX
    → spell false (subscript is_negative size ++ rest)
    ≡ subscript_texts is_negative size ++ spell false rest
subscript_spelled false size rest fits =
    plus_spelled size rest
    ∙ ap (λ (ts : List (List ℕ)). codes "[" ∷ ts) (size_spelled size rest fits)
subscript_spelled true size rest fits =
    minus_spelled size rest
    ∙ ap (λ (ts : List (List ℕ)). codes "[" ∷ codes "-" ∷ ts) (size_spelled size rest fits)

nothing_spelled : spell false [] ≡ []
unfolding spell
nothing_spelled = refl

stops : (is_negative : Bool) (size : ℕ) (rest : List ℕ)
    → starts_with_run_byte (subscript is_negative size ++ rest) ≡ false
stops is_negative size rest = refl

indexed_spelled : (word : List ℕ) (is_negative : Bool) (size : ℕ) (rest : List ℕ)
    → is_word word ≡ true
    → size ≤ LARGEST_INDEX
    → spell false ((word ++ subscript is_negative size) ++ rest)
    ≡ (word ∷ subscript_texts is_negative size) ++ spell false rest
indexed_spelled word is_negative size rest h fits =
    ap (spell false) (append_assoc word (subscript is_negative size) rest)
    ∙ word_then word (subscript is_negative size ++ rest) h (stops is_negative size rest)
    ∙ ap (λ (ts : List (List ℕ)). word ∷ ts) (subscript_spelled is_negative size rest fits)

-- with nothing behind it
pub word_alone : (word : List ℕ) → is_word word ≡ true → spell false word ≡ word ∷ []
word_alone word h =
    ap (spell false) (sym (append-nil word))
    ∙ word_then word [] h refl
    ∙ ap (λ (ts : List (List ℕ)). word ∷ ts) nothing_spelled

pub indexed_alone : (word : List ℕ) (is_negative : Bool) (size : ℕ)
    → is_word word ≡ true
    → size ≤ LARGEST_INDEX
    → spell false (word ++ subscript is_negative size) ≡ word ∷ subscript_texts is_negative size
indexed_alone word is_negative size h fits =
    ap (spell false) (sym (append-nil (word ++ subscript is_negative size)))
    ∙ indexed_spelled word is_negative size [] h fits
    ∙ ap (λ (ts : List (List ℕ)). (word ∷ subscript_texts is_negative size) ++ ts) nothing_spelled
    ∙ append-nil (word ∷ subscript_texts is_negative size)

pub location_written : (name : List ℕ) → IsLocation name → IsWritten (spell false) name
location_written _ (Plain word is) = record {
  so = λ rest h. word_then word rest is.0 h
      ∙ ap (λ (ts : List (List ℕ)). ts ++ spell false rest) (sym (word_alone word is.0));
}
location_written _ (Indexed word is_negative size is fits some) = record {
  so = λ rest h. indexed_spelled word is_negative size rest is.0 fits
      ∙ ap (λ (ts : List (List ℕ)). ts ++ spell false rest)
      (sym (indexed_alone word is_negative size is.0 fits));
}

subscript_short : (is_negative : Bool) (size : ℕ)
    → size ≤ LARGEST_INDEX
    → AllShort (subscript_texts is_negative size)
subscript_short false size fits =
    cons_short (codes "[") _ (is_short (codes "[") (omega arith)) (cons_short (decimal size) _
    (number_short (decimal size) (decimal_number size (omega (arith, fits))))
    (cons_short (codes "]") [] (is_short (codes "]") (omega arith)) none_short))
subscript_short true size fits =
    cons_short (codes "[") _ (is_short (codes "[") (omega arith))
    (cons_short (codes "-") _ (is_short (codes "-") (omega arith))
    (cons_short (decimal size) _
    (number_short (decimal size) (decimal_number size (omega (arith, fits))))
    (cons_short (codes "]") [] (is_short (codes "]") (omega arith)) none_short)))

pub location_short : (name : List ℕ) → IsLocation name → AllShort (spell false name)
location_short _ (Plain word is) =
    subst AllShort (sym (word_alone word is.0)) (cons_short word [] (is_short word is.1) none_short)
location_short _ (Indexed word is_negative size is fits some) =
    subst AllShort (sym (indexed_alone word is_negative size is.0 fits)) (cons_short word
    (subscript_texts is_negative size) (is_short word is.1) (subscript_short is_negative size fits))

-- ---- a location as it is spelled

-- the item is of this type and stands for this location, outside all loops
pub record StandsFor (kind : DependKind) (name : List ℕ) (item : LoopItem) : Type 0 where
  pub kind_is : item.kind ≡ kind
  pub location_is : item.name ++ subscript_of [] item.index ≡ name
  pub in_range : index_fits [] item.index ≡ true

pub record ItemIs (version : Version) (kind : DependKind) (name : List ℕ) (tokens : List Token) : Type 0 where
  pub item : LoopItem
  pub spelled : ItemSpelled version [] kind tokens item
  pub stands : StandsFor kind name item

step_is : (size : ℕ) → size ≤ LARGEST_INDEX → step_of (decimal size) ≡ size
step_is size fits =
    ap (λ (n : ℕ). min n LARGEST_STEP) (decimal_value size (omega (arith, fits)))
    ∙ omega (arith, fits)

plain_item : (version : Version) (kind : DependKind) (word : List ℕ) (line : ℕ)
    → is_word word ≡ true
    → ItemIs version kind word (record { text = word; line = line } ∷ [])
plain_item version kind word line h =
    let token : Token = record { text = word; line = line } in
    record {
      item = grammar.item_of kind token None;
      spelled = grammar.ItemSpelled.Plain [] kind token h;
      stands = record { kind_is = refl; location_is = append-nil word; in_range = refl };
    }

-- a location whose index is 0 or more is spelled as an item
positive_item : (kind : DependKind) (word : List ℕ) (size a b c d : ℕ)
    → is_word word ≡ true
    → size ≤ LARGEST_INDEX
    → ItemIs Two kind (word ++ subscript false size) (record { text = word; line = a }
    ∷ record { text = codes "["; line = b } ∷ record { text = decimal size; line = c }
    ∷ record { text = codes "]"; line = d } ∷ [])
positive_item kind word size a b c d h fits =
    let token : Token = record { text = word; line = a } in
    let number : Token = record { text = decimal size; line = c } in
    let is : step_of (decimal size) ≡ size = step_is size fits in
    record {
      item = grammar.item_of kind token (Some (index_of None false (step_of (decimal size)) c));
      spelled = grammar.ItemSpelled.Indexed [] kind token (record { text = codes "["; line = b })
          (record { text = codes "]"; line = d }) (number ∷ [])
          (index_of None false (step_of (decimal size)) c) refl h refl
          (grammar.IndexSpelled.Number [] number (decimal_number size (omega (arith, fits)))) refl;
      stands = record {
        kind_is = refl;
        location_is = ap (λ (n : ℕ). word ++ subscript false n) (omega (arith, is));
        in_range = le-leb (0 + step_of (decimal size)) LARGEST_INDEX (omega (arith, is, fits));
      };
    }

-- a location whose index is less than 0 is spelled as an item
negative_item : (kind : DependKind) (word : List ℕ) (size a b c d e : ℕ)
    → is_word word ≡ true
    → size ≤ LARGEST_INDEX
    → 1 ≤ size
    → ItemIs Two kind (word ++ subscript true size) (record { text = word; line = a }
    ∷ record { text = codes "["; line = b } ∷ record { text = codes "-"; line = c }
    ∷ record { text = decimal size; line = d } ∷ record { text = codes "]"; line = e } ∷ [])
negative_item kind word size a b c d e h fits some =
    let token : Token = record { text = word; line = a } in
    let minus : Token = record { text = codes "-"; line = c } in
    let number : Token = record { text = decimal size; line = d } in
    let by : ℕ = step_of (decimal size) in
    let is : by ≡ size = step_is size fits in
    let below : nat_lt 0 by ≡ true = lt-ltb 0 by (omega (arith, is, some)) in
    record {
      item = grammar.item_of kind token (Some (index_of None true by c));
      spelled = grammar.ItemSpelled.Indexed [] kind token (record { text = codes "["; line = b })
          (record { text = codes "]"; line = e }) (minus ∷ number ∷ []) (index_of None true by c) refl h
          refl
          (grammar.IndexSpelled.Minus [] minus number refl
          (decimal_number size (omega (arith, fits))))
          refl;
      stands = record {
        kind_is = refl;
        location_is = rw below (ap (λ (n : ℕ). word ++ subscript true n) (omega (arith, is)));
        in_range = rw below (le-leb _ LARGEST_INDEX (omega (arith, is, fits)));
      };
    }

-- every location is spelled as an item
location_item : (kind : DependKind) (name : List ℕ) (lines : ℕ → ℕ)
    → IsLocation name
    → ItemIs Two kind name (with_lines (spell false name) lines)
unfolding with_lines
location_item kind _ lines (Plain word is) =
    let P : List (List ℕ) → Type 0 = λ ts. ItemIs Two kind word (with_lines ts lines) in
    subst P (sym (word_alone word is.0)) (plain_item Two kind word (lines 0) is.0)
location_item kind _ lines (Indexed word false size is fits some) =
    let P : List (List ℕ) → Type 0 = λ ts.
    ItemIs Two kind (word ++ subscript false size) (with_lines ts lines) in
    subst P (sym (indexed_alone word false size is.0 fits))
    (positive_item kind word size (lines 0) (lines 1) (lines 2) (lines 3) is.0 fits)
location_item kind _ lines (Indexed word true size is fits some) =
    let P : List (List ℕ) → Type 0 = λ ts.
    ItemIs Two kind (word ++ subscript true size) (with_lines ts lines) in
    subst P (sym (indexed_alone word true size is.0 fits)) (negative_item kind word size (lines 0)
    (lines 1) (lines 2) (lines 3) (lines 4) is.0 fits (some refl))

pub version_item : (version : Version) (kind : DependKind) (name : List ℕ) (lines : ℕ → ℕ)
    → IsNameIn version name
    → ItemIs version kind name (with_lines (spell false name) lines)
unfolding with_lines
version_item One kind name lines is =
    let P : List (List ℕ) → Type 0 = λ ts. ItemIs One kind name (with_lines ts lines) in
    subst P (sym (word_alone name is.0)) (plain_item One kind name (lines 0) is.0)
version_item Two kind name lines is = location_item kind name lines is
