-- A tree without loops expands to its marks and names.
use Rattle.std.proofs.Common.{◌≡◌, ℕ, ◌+◌, ◌<◌, Bool, false, ◌||◌, List, [], ◌∷◌, ◌++◌}
use Rattle.std.proofs.Common.{length, map, append_assoc, Some, refl, sym, ap, subst, ◌∙◌, arith}
use Rattle.std.specs.Prelude.{All, fold, slice_get}
use Rattle.std.specs.List.{flat_map, AllZip}
use Rattle.std.proofs.lemmas.List.{append-nil}
use Rattle.std.proofs.lemmas.Option.{slice_get-get_or, slice_get_within}
use Rattle.std.proofs.lemmas.List.Sums.{fold-append, sum_by-append}
use Rattle.std.proofs.lemmas.List.Concat.{flat_map-append}
use Rattle.std.proofs.lemmas.List.Elements.{All-head, All-tail, All-nil, All-cons, All-append}
use Rattle.std.proofs.Math.Bool.{or-false}
use Rattle.program_text.specs.declared.statement.DependKind.{DependKind}
use Rattle.program_text.specs.declared.statement.Item.{Item}
use Rattle.loop_text.specs.declared.loops.LoopItem.{LoopItem}
use Rattle.loop_text.specs.declared.loops.LoopTask.{LoopTask}
use Rattle.task_program.specs.declared.version.Version.TheVariants.{Two}
use Rattle.program_text.specs.Marks.{Mark}
use Rattle.program_text.specs.Marks.Mark.{Begins, Ends, Works, Waits, GroupBegins, GroupEnds}
use Rattle.program_text.proofs.FrontsAndBacks.{all_front, all_back}
use Rattle.task_program.specs.Names.{number_of_name, with_name}
use Rattle.task_program.specs.Canonical.{name_of, line_of_mark, header_line, solid_bytes}
use Rattle.task_program.specs.Programs.{IsNamed, names_of_mark}
use Rattle.task_program.specs.TreeSoFar.{Block, after_end_of, end_mark_of}
use Rattle.task_program.specs.TreeSoFar.Block.{TaskBlock, GroupBlock}
use Rattle.loop_text.specs.Loops as loops
use Rattle.task_program.specs.Expansion.{Piece, subscript_of, item_comes, task_pieces, expansion}
use Rattle.task_program.specs.Expansion.Piece.{TaskComes, TaskOpens, GroupComes, GroupOpens}
use Rattle.task_program.specs.Expansion.Piece.{BlockEnds, WorkIs, WaitIs}
use Rattle.task_program.specs.Expanded.{ExpansionState, after_piece, bytes_after}
use Rattle.task_program.specs.ExpandsTo.{HasIndexInRange}
use Rattle.task_program.specs.Expanded.{after_pieces}
use Rattle.task_program.proofs.FoundPlaces.{own_number}
use Rattle.task_program.proofs.Sound.{kept_names}
use Rattle.task_program.proofs.KeptNames.{HasNames, has_names_more, line_stays}
use Rattle.task_program.proofs.NamesOnce.{AreOnce, number_is, names_stay}
use Rattle.task_program.proofs.LinesSpelled as lines
use Rattle.task_program.proofs.LinesSpelled.{IsItemOf, Stands}

-- ---- each index is in range

items_in_range : (names : List (List ℕ)) (items : List Item) (loop_items : List LoopItem)
    → AllZip (IsItemOf names) items loop_items
    → All HasIndexInRange (map (item_comes []) loop_items)
items_in_range names [] [] all = All-nil HasIndexInRange
items_in_range names [] (loop ∷ loop_items) all = absurd all
items_in_range names (item ∷ items) [] all = absurd all
items_in_range names (item ∷ items) (loop ∷ loop_items) all =
    All-cons HasIndexInRange (item_comes [] loop) (map (item_comes []) loop_items) all.0.in_range
    (items_in_range names items loop_items all.1)

one_more : (pieces : List Piece) (piece : Piece)
    → All HasIndexInRange pieces
    → HasIndexInRange piece
    → All HasIndexInRange (pieces ++ piece ∷ [])
one_more pieces piece all one =
    All-append HasIndexInRange pieces (piece ∷ []) all
    (All-cons HasIndexInRange piece [] one (All-nil HasIndexInRange))

-- trees of marks have no loops, so each index is in range
pub in_range : (names : List (List ℕ)) (in_final : Bool) (marks : List Mark) (tree : loops.Tree)
    → Stands names marks tree
    → All HasIndexInRange (expansion [] in_final tree)
unfolding expansion
in_range _ in_final _ _ (lines.Stands.Nothing names) = All-nil HasIndexInRange
in_range _ in_final _ _ (lines.Stands.Work names marks tree cost line s) =
    one_more (expansion [] in_final tree) (WorkIs cost line) (in_range names in_final marks tree s)
    tt
in_range _ in_final _ _ (lines.Stands.Wait names marks tree line s) =
    one_more (expansion [] in_final tree) (WaitIs line) (in_range names in_final marks tree s) tt
in_range _ in_final _ _
    (lines.Stands.Task names marks inside tree body task items s b not_final all) =
    let within : List Piece = expansion [] (task.is_final || in_final) body in
    All-append HasIndexInRange (expansion [] in_final tree)
    (task_pieces [] in_final task ++ (within ++ BlockEnds ∷ []))
    (in_range names in_final marks tree s)
    (All-append HasIndexInRange (task_pieces [] in_final task) (within ++ BlockEnds ∷ [])
    (All-cons HasIndexInRange (TaskComes task.line)
    (map (item_comes []) task.items ++ TaskOpens (task.undeferred || in_final) task.brace_line ∷ [])
    tt
    (one_more (map (item_comes []) task.items)
    (TaskOpens (task.undeferred || in_final) task.brace_line)
    (items_in_range names items task.items all) tt))
    (one_more within BlockEnds (in_range names (task.is_final || in_final) inside body b) tt))
in_range _ in_final _ _ (lines.Stands.Group names marks inside tree body line brace_line s b) =
    let within : List Piece = expansion [] in_final body in
    All-append HasIndexInRange (expansion [] in_final tree)
    ((GroupComes line ∷ GroupOpens brace_line ∷ []) ++ (within ++ BlockEnds ∷ []))
    (in_range names in_final marks tree s)
    (All-cons HasIndexInRange (GroupComes line) (GroupOpens brace_line ∷ (within ++ BlockEnds ∷ []))
    tt
    (All-cons HasIndexInRange (GroupOpens brace_line) (within ++ BlockEnds ∷ []) tt
    (one_more within BlockEnds (in_range names in_final inside body b) tt)))

-- ---- names

-- the line is the same with names that came later
line_grows : (names later : List (List ℕ)) (mark : Mark)
    → HasNames (length names) mark
    → line_of_mark (fold with_name names later) mark ≡ line_of_mark names mark
line_grows names [] mark h = refl
line_grows names (name ∷ later) mark h =
    line_grows (with_name names name) later mark
    (has_names_more (length names) (length (with_name names name)) (kept_names names name) mark h)
    ∙ line_stays names name mark h

-- the names and items of a state after these items
abbrev with_items : ExpansionState → List (List ℕ) → List Item → ExpansionState
with_items state more
    items = record state { names = fold with_name state.names more; items = state.items ++ items }

record AfterItems (whole : List (List ℕ)) (state next : ExpansionState) (items : List Item) : Type
    0 where
  next_is : next ≡ with_items state (map (name_of whole) items) items
  below : All (IsNamed (length (fold with_name state.names (map (name_of whole) items)))) items

-- the items of a task expand to themselves, and name what they named
items_expand : (whole : List (List ℕ))
    → AreOnce whole
    → (items : List Item) (loop_items : List LoopItem)
    → AllZip (IsItemOf whole) items loop_items
    → All (IsNamed (length whole)) items
    → (later : List (List ℕ)) (state : ExpansionState)
    → whole ≡ fold with_name state.names (map (name_of whole) items ++ later)
    → AfterItems whole state (after_pieces state (map (item_comes []) loop_items)) items
items_expand whole once [] [] all below later state
    whole_is = record {
      next_is = ap (λ (is : List Item). record state { items = is }) (sym (append-nil state.items));
      below = All-nil (IsNamed (length state.names));
    }
items_expand whole once [] (loop ∷ loop_items) all below later state whole_is = absurd all
items_expand whole once (item ∷ items) [] all below later state whole_is = absurd all
items_expand whole once (item ∷ items) (loop ∷ loop_items) all below later state whole_is =
    let name : List ℕ = name_of whole item in
    let more : List (List ℕ) = map (name_of whole) items in
    let at : slice_get whole item.name ≡ Some name =
    slice_get-get_or whole item.name [] (All-head (IsNamed (length whole)) item items below) in
    let number : number_of_name state.names name ≡ item.name =
    number_is state.names (more ++ later) name item.name whole once whole_is at in
    let named : List (List ℕ) = with_name state.names name in
    let next : ExpansionState = record state { names = named; items = state.items ++ item ∷ [] } in
    let location_is : loop.name ++ subscript_of [] loop.index ≡ name = all.0.location_is in
    let next_is : after_piece state (item_comes [] loop) ≡ next =
    ap
    (λ (l : List ℕ). record state {
      names = with_name state.names l;
      items = state.items ++ record { kind = loop.kind; name = number_of_name state.names l } ∷ [];
    })
    location_is
    ∙ ap
    (λ (k : DependKind). record state {
      names = named;
      items = state.items ++ record { kind = k; name = number_of_name state.names name } ∷ [];
    })
    all.0.kind_is
    ∙ ap
    (λ (n : ℕ). record state {
      names = named;
      items = state.items ++ record { kind = item.kind; name = n } ∷ [];
    })
    number in
    let rest = items_expand whole once items loop_items all.1
    (All-tail (IsNamed (length whole)) item items below) later next whole_is in
    let whole_named : List (List ℕ) = fold with_name named more in
    let own : slice_get named item.name ≡ Some name =
    subst (λ (n : ℕ). slice_get named n ≡ Some name) number (own_number state.names name) in
    let here : item.name < length whole_named =
    slice_get_within whole_named item.name name (names_stay named more name item.name own) in
    record {
      next_is = ap (λ (s : ExpansionState). after_pieces s (map (item_comes []) loop_items)) next_is
          ∙ rest.next_is
          ∙ ap (λ (is : List Item). record state { names = whole_named; items = is })
          (append_assoc state.items (item ∷ []) items);
      below = All-cons (IsNamed (length whole_named)) item items here rest.below;
    }

-- ---- what was expanded so far is these marks

pub record Prints (whole : List (List ℕ)) (done : List Mark) (state : ExpansionState) : Type 0 where
  pub marks_are : state.tree.marks ≡ done
  pub names_are : state.names ≡ fold with_name [] (flat_map (names_of_mark whole) done)
  pub no_items : state.items ≡ []
  pub no_turns : state.turns ≡ 0
  pub bytes_are : state.bytes
      ≡ (solid_bytes (header_line Two) + solid_bytes (flat_map (line_of_mark whole) done))
      + length state.tree.blocks

pub record Goes (whole : List (List ℕ)) (done : List Mark) (blocks : List Block)
    (next : ExpansionState)
    : Type 0 where
  pub prints : Prints whole done next
  pub blocks_are : next.tree.blocks ≡ blocks

flat_one : {A : Type 0} (f : Mark → List A) (done : List Mark) (mark : Mark)
    → flat_map f (done ++ mark ∷ []) ≡ flat_map f done ++ f mark
flat_one f done mark =
    flat_map-append f done (mark ∷ []) ∙ ap (λ xs. flat_map f done ++ xs) (append-nil (f mark))

-- one mark more
mark_printed : (whole : List (List ℕ)) (done : List Mark) (mark : Mark) (state : ExpansionState)
    (names : List (List ℕ)) (items : List Item) (bytes : ℕ) (blocks : List Block)
    → Prints whole done state
    → names ≡ fold with_name state.names (names_of_mark whole mark)
    → items ≡ []
    → bytes + length state.tree.blocks
    ≡ (state.bytes + solid_bytes (line_of_mark whole mark)) + length blocks
    → Prints whole (done ++ mark
    ∷ []) (record {
      turns = state.turns;
      bytes = bytes;
      names = names;
      items = items;
      tree = record { blocks = blocks; marks = state.tree.marks ++ mark ∷ [] };
    })
mark_printed whole done mark state names items bytes blocks p named none bytes_are =
    let before : List ℕ = flat_map (line_of_mark whole) done in
    let lines : solid_bytes (flat_map (line_of_mark whole) (done ++ mark ∷ []))
    ≡ solid_bytes before + solid_bytes (line_of_mark whole mark) = ap
    solid_bytes (flat_one (line_of_mark whole) done mark)
    ∙ sum_by-append _ before (line_of_mark whole mark) in
    let so_far = p.bytes_are in
    record {
      marks_are = ap (λ (ms : List Mark). ms ++ mark ∷ []) p.marks_are;
      names_are = named
          ∙ ap (λ (ns : List (List ℕ)). fold with_name ns (names_of_mark whole mark)) p.names_are
          ∙ sym (fold-append with_name [] (flat_map (names_of_mark whole) done)
          (names_of_mark whole mark))
          ∙ ap (λ (ms : List (List ℕ)). fold with_name [] ms)
          (sym (flat_one (names_of_mark whole) done mark));
      no_items = none;
      no_turns = p.no_turns;
      bytes_are = omega (arith, lines, so_far, bytes_are);
    }

-- a block ends
end_printed : (whole : List (List ℕ)) (done : List Mark) (turns bytes : ℕ) (names : List (List ℕ))
    (items : List Item) (marks : List Mark) (block : Block) (blocks : List Block)
    → Prints whole done (record {
      turns = turns;
      bytes = bytes;
      names = names;
      items = items;
      tree = record { blocks = block ∷ blocks; marks = marks };
    })
    → Goes whole (done ++ end_mark_of block
    ∷ []) blocks (record {
      turns = turns;
      bytes = bytes;
      names = names;
      items = items;
      tree = after_end_of (block ∷ blocks) marks;
    })
end_printed whole done turns bytes names items marks (TaskBlock line) blocks p =
    record {
      prints =
          mark_printed whole done Ends _ names items bytes blocks p refl p.no_items (omega arith);
      blocks_are = refl;
    }
end_printed whole done turns bytes names items marks (GroupBlock line) blocks p =
    record {
      prints =
          mark_printed whole done GroupEnds _ names items bytes blocks p refl p.no_items
          (omega arith);
      blocks_are = refl;
    }

-- a `}` expands to the mark that ends the block
block_ends : (whole : List (List ℕ)) (done : List Mark) (block : Block) (blocks : List Block)
    (turns bytes : ℕ) (names : List (List ℕ)) (items : List Item) (marks : List Mark)
    (opened_now : List Block)
    → opened_now ≡ block ∷ blocks
    → Prints whole done (record {
      turns = turns;
      bytes = bytes;
      names = names;
      items = items;
      tree = record { blocks = opened_now; marks = marks };
    })
    → Goes whole (done ++ end_mark_of block
    ∷ []) blocks (record {
      turns = turns;
      bytes = bytes;
      names = names;
      items = items;
      tree = after_end_of opened_now marks;
    })
block_ends whole done block blocks turns bytes names items marks opened_now same p =
    subst
    (λ (bs : List Block). Goes whole (done ++ end_mark_of block ∷ []) blocks
    (record {
      turns = turns;
      bytes = bytes;
      names = names;
      items = items;
      tree = after_end_of bs marks;
    }))
    (sym same)
    (end_printed whole done turns bytes names items marks block blocks
    (subst
    (λ (bs : List
    Block). Prints whole done (record {
      turns = turns;
      bytes = bytes;
      names = names;
      items = items;
      tree = record { blocks = bs; marks = marks };
    }))
    same p))

-- ---- a task up to its `{`

-- all names are those of a state and of what is mentioned later
names_left : (whole : List (List ℕ)) (done later : List Mark) (state : ExpansionState)
    → Prints whole done state
    → whole ≡ fold with_name [] (flat_map (names_of_mark whole) (done ++ later))
    → whole ≡ fold with_name state.names (flat_map (names_of_mark whole) later)
names_left whole done later state p whole_is =
    whole_is
    ∙ ap (λ (ms : List (List ℕ)). fold with_name [] ms)
    (flat_map-append (names_of_mark whole) done later)
    ∙ fold-append with_name [] (flat_map (names_of_mark whole) done)
    (flat_map (names_of_mark whole) later)
    ∙ ap (λ (ns : List (List ℕ)). fold with_name ns (flat_map (names_of_mark whole) later))
    (sym p.names_are)

-- a task up to its `{` expands to the mark that begins it
task_opens : (whole : List (List ℕ))
    → AreOnce whole
    → (done later : List Mark) (task : LoopTask) (items : List Item) (state : ExpansionState)
    → AllZip (IsItemOf whole) items task.items
    → HasNames (length whole) (Begins task.undeferred items)
    → whole
    ≡ fold with_name []
    (flat_map (names_of_mark whole) (done ++ Begins task.undeferred items ∷ later))
    → Prints whole done state
    → Goes whole (done ++ Begins task.undeferred items ∷ [])
    (TaskBlock task.brace_line ∷ state.tree.blocks) (after_pieces state (task_pieces [] false task))
task_opens whole once done later task items state all fits whole_is p =
    let mark : Mark = Begins task.undeferred items in
    let mentions : List (List ℕ) = map (name_of whole) items in
    let after : List (List ℕ) = flat_map (names_of_mark whole) later in
    let left : whole ≡ fold with_name state.names (mentions ++ after) =
    names_left whole done (mark ∷ later) state p whole_is in
    let expanded = items_expand whole once items task.items all fits after state left in
    let middle : ExpansionState = with_items state mentions items in
    let named : List (List ℕ) = middle.names in
    let whole_named : fold with_name named after ≡ whole =
    sym (left ∙ fold-append with_name state.names mentions after) in
    let line : line_of_mark named mark ≡ line_of_mark whole mark = sym
    (line_grows named after mark expanded.below)
    ∙ ap (λ (ns : List (List ℕ)). line_of_mark ns mark) whole_named in
    let solids : solid_bytes (line_of_mark named mark) ≡ solid_bytes (line_of_mark whole mark) =
    ap solid_bytes line in
    let opens : Piece = TaskOpens (task.undeferred || false) task.brace_line in
    let so : Bool → List Item → ExpansionState = λ u is. record {
      turns = state.turns;
      bytes = (state.bytes + solid_bytes (line_of_mark named (Begins u is))) + 1;
      names = named;
      items = [];
      tree = record {
        blocks = TaskBlock task.brace_line ∷ state.tree.blocks;
        marks = state.tree.marks ++ Begins u is ∷ [];
      };
    } in
    let next_is : after_pieces state (task_pieces [] false task) ≡ so task.undeferred items =
    fold-append after_piece state (map (item_comes []) task.items) (opens ∷ [])
    ∙ ap (λ (s : ExpansionState). after_piece s opens) expanded.next_is
    ∙ ap (λ (u : Bool). so u (state.items ++ items)) (or-false task.undeferred)
    ∙ ap (λ (is : List Item). so task.undeferred (is ++ items)) p.no_items in
    subst
    (λ (s : ExpansionState).
    Goes whole (done ++ mark ∷ []) (TaskBlock task.brace_line ∷ state.tree.blocks) s)
    (sym next_is) (record {
      prints = mark_printed whole done mark state named [] _
          (TaskBlock task.brace_line ∷ state.tree.blocks) p refl refl (omega (arith, solids));
      blocks_are = refl;
    })

-- ---- whole trees

abbrev AllNames : List (List ℕ) → List Mark → Type 0
AllNames whole marks = whole ≡ fold with_name [] (flat_map (names_of_mark whole) marks)

append_of_block : (whole : List (List ℕ)) (some other : List Mark) → some ≡ other
    → AllNames whole some → AllNames whole other
append_of_block whole some other same h = subst (λ (ms : List Mark). AllNames whole ms) same h

goes_so : (whole : List (List ℕ)) (done other : List Mark) (blocks : List Block)
    (state next : ExpansionState)
    → done ≡ other
    → state ≡ next
    → Goes whole done blocks state
    → Goes whole other blocks next
goes_so whole done other blocks state next same equal g =
    subst (λ (s : ExpansionState). Goes whole other blocks s) equal
    (subst (λ (ms : List Mark). Goes whole ms blocks state) same g)

pub in_four : (state : ExpansionState) (one two three four : List Piece)
    → after_pieces (after_pieces (after_pieces (after_pieces state one) two) three) four
    ≡ after_pieces state (one ++ (two ++ (three ++ four)))
in_four state one two three four =
    sym (fold-append after_piece state one (two ++ (three ++ four))
    ∙ fold-append after_piece (after_pieces state one) two (three ++ four)
    ∙ fold-append after_piece (after_pieces (after_pieces state one) two) three four)

all_but_last : (done marks more later : List Mark)
    → done ++ ((marks ++ more) ++ later) ≡ done ++ (marks ++ (more ++ later))
all_but_last done marks more later =
    ap (λ (ms : List Mark). done ++ ms) (append_assoc marks more later)

at_block : (done marks inside later : List Mark) (begins ends : Mark)
    → done ++ ((marks ++ (begins ∷ (inside ++ ends ∷ []))) ++ later)
    ≡ (done ++ marks) ++ (begins ∷ (inside ++ ends ∷ later))
at_block done marks inside later begins ends =
    all_but_last done marks (begins ∷ (inside ++ ends ∷ [])) later
    ∙ sym (append_assoc done marks ((begins ∷ (inside ++ ends ∷ [])) ++ later))
    ∙ ap (λ (ms : List Mark). (done ++ marks) ++ begins ∷ ms)
    (append_assoc inside (ends ∷ []) later)

past_block : (done marks inside : List Mark) (begins ends : Mark)
    → (((done ++ marks) ++ begins ∷ []) ++ inside) ++ ends ∷ []
    ≡ done ++ (marks ++ (begins ∷ (inside ++ ends ∷ [])))
past_block done marks inside begins ends =
    append_assoc ((done ++ marks) ++ begins ∷ []) inside (ends ∷ [])
    ∙ append_assoc (done ++ marks) (begins ∷ []) (inside ++ ends ∷ [])
    ∙ append_assoc done marks (begins ∷ (inside ++ ends ∷ []))

-- the expansion goes on by these marks
pub expands : (whole : List (List ℕ))
    → AreOnce whole
    → (marks : List Mark) (tree : loops.Tree)
    → Stands whole marks tree
    → All (HasNames (length whole)) marks
    → (done later : List Mark) (state : ExpansionState)
    → AllNames whole (done ++ (marks ++ later))
    → Prints whole done state
    → Goes whole (done ++ marks) state.tree.blocks (after_pieces state (expansion [] false tree))
unfolding expansion
expands _ once _ _ (lines.Stands.Nothing whole) fits done later state whole_is p =
    goes_so whole done (done ++ []) state.tree.blocks state state (sym (append-nil done)) refl
    (record { prints = p; blocks_are = refl })
expands _ once _ _ (lines.Stands.Work whole marks tree cost line s) fits done later state whole_is
    p =
    let middle : ExpansionState = after_pieces state (expansion [] false tree) in
    let before : Goes whole (done ++ marks) state.tree.blocks middle = expands whole once marks tree
    s (all_front (HasNames (length whole)) marks (Works cost ∷ []) fits) done
    (Works cost ∷ later) state
    (append_of_block whole (done ++ ((marks ++ Works cost ∷ []) ++ later))
    (done ++ (marks ++ Works cost ∷ later)) (all_but_last done marks (Works cost ∷ []) later)
    whole_is)
    p in
    let bytes : ℕ = bytes_after middle (Works cost) 0 in
    goes_so whole ((done ++ marks) ++ Works cost ∷ []) (done ++ (marks ++ Works cost ∷ []))
    state.tree.blocks (after_piece middle (WorkIs cost line)) _
    (append_assoc done marks (Works cost ∷ []))
    (sym (fold-append after_piece state (expansion [] false tree) (WorkIs cost line ∷ [])))
    (record {
      prints =
          mark_printed whole (done ++ marks) (Works cost) middle middle.names middle.items bytes
          middle.tree.blocks before.prints refl before.prints.no_items (omega arith);
      blocks_are = before.blocks_are;
    })
expands _ once _ _ (lines.Stands.Wait whole marks tree line s) fits done later state whole_is p =
    let middle : ExpansionState = after_pieces state (expansion [] false tree) in
    let before : Goes whole (done ++ marks) state.tree.blocks middle = expands whole once marks tree
    s (all_front (HasNames (length whole)) marks (Waits ∷ []) fits) done (Waits ∷ later) state
    (append_of_block whole (done ++ ((marks ++ Waits ∷ []) ++ later))
    (done ++ (marks ++ Waits ∷ later)) (all_but_last done marks (Waits ∷ []) later) whole_is)
    p in
    let bytes : ℕ = bytes_after middle Waits 0 in
    goes_so whole ((done ++ marks) ++ Waits ∷ []) (done ++ (marks ++ Waits ∷ [])) state.tree.blocks
    (after_piece middle (WaitIs line)) _ (append_assoc done marks (Waits ∷ []))
    (sym (fold-append after_piece state (expansion [] false tree) (WaitIs line ∷ [])))
    (record {
      prints = mark_printed whole (done ++ marks) Waits middle middle.names middle.items bytes
          middle.tree.blocks before.prints refl before.prints.no_items (omega arith);
      blocks_are = before.blocks_are;
    })
expands _ once _ _ (lines.Stands.Task whole marks inside tree body task items s b not_final all)
    fits done later state whole_is p =
    let F : Mark → Type 0 = HasNames (length whole) in
    let begins : Mark = Begins task.undeferred items in
    let block : List Mark = begins ∷ (inside ++ Ends ∷ []) in
    let fits_block : All F block = all_back F marks block fits in
    let fits_inside : All F inside =
    all_front F inside (Ends ∷ []) (All-tail F begins (inside ++ Ends ∷ []) fits_block) in
    let outer : List Piece = expansion [] false tree in
    let front : List Piece = task_pieces [] false task in
    let inner : List Piece = expansion [] false body in
    let first : ExpansionState = after_pieces state outer in
    let second : ExpansionState = after_pieces first front in
    let third : ExpansionState = after_pieces second inner in
    let names_one : AllNames whole
    ((done ++ marks) ++ begins ∷ (inside ++ Ends ∷ later)) = append_of_block
    whole (done ++ ((marks ++ block) ++ later))
    ((done ++ marks) ++ begins ∷ (inside ++ Ends ∷ later))
    (at_block done marks inside later begins Ends) whole_is in
    let one : Goes whole (done ++ marks) state.tree.blocks first = expands whole once marks tree s
    (all_front F marks block fits) done (begins ∷ (inside ++ Ends ∷ later)) state
    (append_of_block whole _ (done ++ (marks ++ begins ∷ (inside ++ Ends ∷ later)))
    (append_assoc done marks (begins ∷ (inside ++ Ends ∷ later))) names_one)
    p in
    let two : Goes whole ((done ++ marks) ++ begins ∷ [])
    (TaskBlock task.brace_line ∷ first.tree.blocks) second =
    task_opens whole once (done ++ marks) (inside ++ Ends ∷ later) task items first all
    (All-head F begins (inside ++ Ends ∷ []) fits_block) names_one one.prints in
    let three : Goes whole (((done ++ marks) ++ begins ∷ []) ++ inside) second.tree.blocks
    third = expands
    whole once inside body b fits_inside ((done ++ marks) ++ begins ∷ []) (Ends ∷ later) second
    (append_of_block whole _ (((done ++ marks) ++ begins ∷ []) ++ (inside ++ Ends ∷ later))
    (sym (append_assoc (done ++ marks) (begins ∷ []) (inside ++ Ends ∷ later))) names_one)
    two.prints in
    let blocks : third.tree.blocks
    ≡ TaskBlock task.brace_line ∷ state.tree.blocks = three.blocks_are
    ∙ two.blocks_are
    ∙ ap (λ (bs : List Block). TaskBlock task.brace_line ∷ bs) one.blocks_are in
    let four = block_ends whole (((done ++ marks) ++ begins ∷ []) ++ inside)
    (TaskBlock task.brace_line) state.tree.blocks third.turns third.bytes third.names third.items
    third.tree.marks third.tree.blocks blocks three.prints in
    let pieces_are : outer ++ (front ++ (inner ++ BlockEnds ∷ []))
    ≡ outer ++ (front ++ (expansion [] (task.is_final || false) body ++ BlockEnds ∷ [])) =
    ap (λ (f : Bool). outer ++ (front ++ (expansion [] (f || false) body ++ BlockEnds ∷ [])))
    (sym not_final) in
    goes_so whole _ (done ++ (marks ++ block)) state.tree.blocks (after_piece third BlockEnds) _
    (past_block done marks inside begins Ends)
    (in_four state outer front inner (BlockEnds ∷ [])
    ∙ ap (λ (ps : List Piece). after_pieces state ps) pieces_are)
    four
expands _ once _ _ (lines.Stands.Group whole marks inside tree body line brace_line s b) fits done
    later state whole_is p =
    let F : Mark → Type 0 = HasNames (length whole) in
    let block : List Mark = GroupBegins ∷ (inside ++ GroupEnds ∷ []) in
    let fits_block : All F block = all_back F marks block fits in
    let fits_inside : All F inside = all_front F inside (GroupEnds ∷ [])
    (All-tail F GroupBegins (inside ++ GroupEnds ∷ []) fits_block) in
    let outer : List Piece = expansion [] false tree in
    let front : List Piece = GroupComes line ∷ GroupOpens brace_line ∷ [] in
    let inner : List Piece = expansion [] false body in
    let first : ExpansionState = after_pieces state outer in
    let second : ExpansionState = after_pieces first front in
    let third : ExpansionState = after_pieces second inner in
    let names_one : AllNames whole
    ((done ++ marks) ++ GroupBegins ∷ (inside ++ GroupEnds ∷ later)) = append_of_block
    whole (done ++ ((marks ++ block) ++ later))
    ((done ++ marks) ++ GroupBegins ∷ (inside ++ GroupEnds ∷ later))
    (at_block done marks inside later GroupBegins GroupEnds) whole_is in
    let one : Goes whole (done ++ marks) state.tree.blocks first = expands whole once marks tree s
    (all_front F marks block fits) done (GroupBegins ∷ (inside ++ GroupEnds ∷ later)) state
    (append_of_block whole _ (done ++ (marks ++ GroupBegins ∷ (inside ++ GroupEnds ∷ later)))
    (append_assoc done marks (GroupBegins ∷ (inside ++ GroupEnds ∷ later))) names_one)
    p in
    let bytes : ℕ = bytes_after first GroupBegins 1 in
    let two : Prints whole ((done ++ marks) ++ GroupBegins ∷ []) second =
    mark_printed whole (done ++ marks) GroupBegins first first.names first.items bytes
    (GroupBlock brace_line ∷ first.tree.blocks) one.prints refl one.prints.no_items (omega arith) in
    let three : Goes whole (((done ++ marks) ++ GroupBegins ∷ []) ++ inside) second.tree.blocks
    third = expands
    whole once inside body b fits_inside ((done ++ marks) ++ GroupBegins ∷ []) (GroupEnds ∷ later)
    second
    (append_of_block whole _
    (((done ++ marks) ++ GroupBegins ∷ []) ++ (inside ++ GroupEnds ∷ later))
    (sym (append_assoc (done ++ marks) (GroupBegins ∷ []) (inside ++ GroupEnds ∷ later))) names_one)
    two in
    let blocks : third.tree.blocks ≡ GroupBlock brace_line ∷ state.tree.blocks =
    three.blocks_are ∙ ap (λ (bs : List Block). GroupBlock brace_line ∷ bs) one.blocks_are in
    let four = block_ends whole (((done ++ marks) ++ GroupBegins ∷ []) ++ inside)
    (GroupBlock brace_line) state.tree.blocks third.turns third.bytes third.names third.items
    third.tree.marks third.tree.blocks blocks three.prints in
    goes_so whole _ (done ++ (marks ++ block)) state.tree.blocks (after_piece third BlockEnds) _
    (past_block done marks inside GroupBegins GroupEnds)
    (in_four state outer front inner (BlockEnds ∷ [])) four
