-- The places of siblings: how many were created before each.
use Rattle.std.proofs.Common.{ℕ, ◌+◌, ◌<◌, ◌≡◌, Bool, true, false, cond, List, [], ◌∷◌, ◌++◌}
use Rattle.std.proofs.Common.{map, reverse, length, get_or, Option, All, Contains, refl, sym, ◌∙◌}
use Rattle.std.proofs.Common.{ap, subst, arith}
use Rattle.std.specs.List.{flat_map}
use Rattle.std.specs.List.Sorted.{IsStrictlyIncreasing}
use Rattle.std.proofs.lemmas.List.{length-reverse, length-map, reverse-append, map-append}
use Rattle.std.proofs.lemmas.List.{get_or_append_left, append-nil, get_or-map}
use Rattle.std.proofs.lemmas.List.Elements.{Contains-get_or}
use Rattle.std.proofs.lemmas.List.Kept.{AllPairs-from_increasing}
use Rattle.std.proofs.Math.Seq.{get_or-append_seam}
use Rattle.program_text.specs.declared.statement.DependKind.{DependKind}
use Rattle.program_text.specs.declared.statement.Item.{Item}
use Rattle.depend_table.specs.declared.table.Call.{Call}
use Rattle.depend_table.specs.Lists.{Lists}
use Rattle.depend_table.specs.MarkedPlaces.{IsNumberAmong}
use Rattle.depend_table.specs.Siblings.{Sibling, IsAmong, IsKept}
use Rattle.depend_table.specs.Siblings.IsAmong.{Newest, Below}
use Rattle.depend_table.specs.Generations.{HasRank, AreGenerations, mentions, sharing_at}
use Rattle.depend_table.specs.Entries.{Names, Entry, entry_at, entry_after, entry_with, joins_to}
use Rattle.depend_table.specs.Entries.{predecessors_of, predecessors_for, sibling_of, newest_first}
use Rattle.depend_table.specs.Entries.{items_of, tasks_of, AreTied, IsInOrder, IsTableOf}
use Rattle.depend_table.proofs.Entered.{IsKeptPlace, predecessors_are_kept, kept_are_predecessors}
use Rattle.depend_table.proofs.Entered.{tied_after, newest_first-push}
use Rattle.depend_table.proofs.Lists.{increasing_push, lists_same}
use Rattle.depend_table.proofs.Members.{reverse-cons, contains_member, member_contains, member_map}
use Rattle.depend_table.proofs.Members.{member_of_map, member_reverse}

-- the tasks of siblings, the newest last
abbrev pub oldest_first : List Sibling → List ℕ
oldest_first siblings = reverse (map (λ sibling. sibling.task) siblings)

pub length-oldest : (siblings : List Sibling) → length (oldest_first siblings) ≡ length siblings
length-oldest siblings =
    length-reverse (map (λ (sibling : Sibling). sibling.task) siblings)
    ∙ length-map siblings (λ (sibling : Sibling). sibling.task)

-- a sibling's task stands at its place
pub record IsPlaced (siblings : List Sibling) (x : Sibling) (older : List Sibling) : Type 0 where
  pub below : length older < length siblings
  pub found : get_or (oldest_first siblings) (length older) 0 ≡ x.task

-- a sibling's place is how many are older
pub place_counts_older : (siblings : List Sibling) (x : Sibling) (older : List Sibling)
    → IsAmong siblings x older
    → IsPlaced siblings x older
place_counts_older siblings x older Newest = grind (arith, reverse-cons, map, length-oldest, get_or-append_seam)
place_counts_older siblings x older (Below {x = z} {y} {siblings = rest} {older = before} among) =
    let counted = place_counts_older rest x older among in
    let below = counted.below in
    let one_more : length siblings ≡ length rest + 1 = omega arith in
    record {
      below = omega arith;
      found =
          ap (λ (xs : List ℕ). get_or xs (length older) 0)
          (reverse-cons y.task (map (λ (sibling : Sibling). sibling.task) rest))
          ∙ get_or_append_left (oldest_first rest) (y.task ∷ []) 0 (length older)
          (omega (arith, length-oldest rest))
          ∙ counted.found;
    }

-- the accepted calls, as siblings
pub oldest_first-calls : (calls : List Call) → oldest_first (newest_first calls) ≡ tasks_of calls
oldest_first-calls [] = refl
oldest_first-calls (call ∷ calls) = grind (arith, map, reverse-cons, map-append, reverse, reverse-append, oldest_first-calls calls)

pub length-newest : (calls : List Call) → length (newest_first calls) ≡ length calls
length-newest calls = length-map (reverse calls) sibling_of ∙ length-reverse calls

-- the generations are of places of siblings
ranked_within : (name : ℕ) (siblings : List Sibling) (level place : ℕ)
    → HasRank name siblings level place
    → place < length siblings
ranked_within name siblings level place r =
    let below = (place_counts_older siblings r.sibling r.older r.among).below in
    let at_place = r.placed in
    omega arith

-- what an entry names are places of siblings
pub predecessors_within : (names : Names) (siblings : List Sibling) (name : ℕ)
    (sharing : Option DependKind) (place : ℕ)
    → AreTied names siblings → Contains (predecessors_of (entry_at names name) sharing) place
    → place < length siblings
predecessors_within names siblings name sharing place tied =
    by_join (joins_to (entry_at names name).sharing sharing)
  where
    by_join : (test : Bool)
        → Contains (cond test (entry_at names name).previous (entry_at names name).current) place
        → place < length siblings
    by_join true c =
        let ranked = ((tied name).is_previous place).0 c in
        ranked_within name siblings ranked.0 place ranked.2
    by_join false c =
        ranked_within name siblings (tied name).top place (((tied name).is_current place).0 c)

-- and so they are below the count of calls
pub predecessors_below : (names : Names) (calls : List Call) (name : ℕ)
    (sharing : Option DependKind)
    → IsTableOf names calls
    → All (λ place. place < length calls) (predecessors_of (entry_at names name) sharing)
predecessors_below names calls name sharing table k d h =
    let places = predecessors_of (entry_at names name) sharing in
    let below = predecessors_within names (newest_first calls) name sharing (get_or places k d)
    table.tied (Contains-get_or places k d h) in
    omega (arith, length-newest calls)

-- a place among these is of a kept task
kept_at_place : (names : Names) (calls : List Call) (items : List Item) (place task : ℕ)
    → IsTableOf names calls → Contains (flat_map (predecessors_for names items) items) place
    → get_or (tasks_of calls) place 0 ≡ task
    → IsKept (newest_first calls) items task
kept_at_place names calls items place task table among found =
    let at_place = predecessors_are_kept names (newest_first calls) items place table.tied among in
    let counted = place_counts_older (newest_first calls) at_place.kept.earlier at_place.kept.older
    at_place.kept.among in
    record {
      earlier = at_place.kept.earlier;
      older = at_place.kept.older;
      among = at_place.kept.among;
      number = sym counted.found
          ∙ ap (λ (xs : List ℕ). get_or xs (length at_place.kept.older) 0)
          (oldest_first-calls calls)
          ∙ ap (λ n. get_or (tasks_of calls) n 0) at_place.kept.placed ∙ found;
      name = at_place.name;
      conflicts = at_place.kept.conflicts;
      one_less = at_place.kept.one_less;
    }

-- a kept task has a place among these
place_of_kept : (names : Names) (calls : List Call) (items : List Item) (task : ℕ)
    → IsTableOf names calls → IsKept (newest_first calls) items task → (place : ℕ)
    × Contains (flat_map (predecessors_for names items) items) place
    × (get_or (tasks_of calls) place 0 ≡ task)
place_of_kept names calls items task table k =
    let counted = place_counts_older (newest_first calls) k.earlier k.older k.among in
    let at_place : IsKeptPlace (newest_first calls) items (length k.older) = record {
      name = k.name;
      kept = record {
        earlier = k.earlier;
        older = k.older;
        among = k.among;
        placed = refl;
        conflicts = k.conflicts;
        one_less = k.one_less;
      };
    } in (
      length k.older,
      kept_are_predecessors names (newest_first calls) items (length k.older) table.tied at_place,
      ap (λ (xs : List ℕ). get_or xs (length k.older) 0) (sym (oldest_first-calls calls))
          ∙ counted.found
          ∙ k.number,
    )

-- the tasks at these places are the kept ones
pub kept_among : (names : Names) (calls : List Call) (items : List Item) (kept : List ℕ)
    → IsTableOf names calls
    → Lists (IsNumberAmong (flat_map (predecessors_for names items) items) (tasks_of calls)) kept
    → Lists (IsKept (newest_first calls) items) kept
kept_among names calls items kept table lists =
    lists_same (IsNumberAmong (flat_map (predecessors_for names items) items) (tasks_of calls))
    (IsKept (newest_first calls) items) kept lists
    (λ s m. kept_at_place names calls items m.place s table m.among m.found)
    (λ s k.
    let at_place = place_of_kept names calls items s table k in
    record { place = at_place.0; among = at_place.1; found = at_place.2 })

-- the places stay in order
one_in_order : (place : ℕ) → IsStrictlyIncreasing (place ∷ [])
one_in_order place k h = absurd (omega arith)

-- an entry with a new task is in order
entered_in_order : (name : ℕ) (siblings : List Sibling) (sharing : Option DependKind)
    (entry : Entry)
    → AreGenerations name siblings entry.sharing entry.current entry.previous → IsInOrder entry
    → IsInOrder (entry_with (length siblings) sharing entry)
entered_in_order name siblings sharing entry generations in_order =
    by_join (joins_to entry.sharing sharing)
  where
    joined : Entry
    joined = record entry { current = entry.current ++ length siblings ∷ [] }

    begun : Entry
    begun = record { sharing = sharing; current = length siblings ∷ []; previous = entry.current }

    by_join : (test : Bool) → IsInOrder (cond test joined begun)
    by_join true = record {
      current = increasing_push entry.current (length siblings) in_order.current
          (λ place c.
          ranked_within name siblings generations.top place ((generations.is_current place).0 c));
      previous = in_order.previous;
    }
    by_join false = record { current = one_in_order (length siblings); previous = in_order.current }

-- and so is the entry after the task, whether its items mention the name or not
after_in_order : (name : ℕ) (siblings : List Sibling) (items : List Item) (entry : Entry)
    → AreGenerations name siblings entry.sharing entry.current entry.previous → IsInOrder entry
    → IsInOrder (entry_after (length siblings) items items name entry)
after_in_order name siblings items entry generations in_order = by_test (mentions name items)
  where
    by_test : (test : Bool)
        → IsInOrder (cond test (entry_with (length siblings) (sharing_at name items) entry) entry)
    by_test true = entered_in_order name siblings (sharing_at name items) entry generations in_order
    by_test false = in_order

-- what an entry names ascends
pub predecessors_in_order : (names : Names) (calls : List Call) (name : ℕ)
    (sharing : Option DependKind)
    → IsTableOf names calls → IsStrictlyIncreasing (predecessors_of (entry_at names name) sharing)
predecessors_in_order names calls name sharing table =
    by_join (joins_to (entry_at names name).sharing sharing)
  where
    by_join : (test : Bool)
        → IsStrictlyIncreasing
        (cond test (entry_at names name).previous (entry_at names name).current)
    by_join true = (table.in_order name).previous
    by_join false = (table.in_order name).current

-- of one item the tasks at the places that it names are the kept ones
kept_listed_at : (names : Names) (calls : List Call) (item : Item) (kept : List ℕ)
    → IsTableOf names calls
    → kept ≡ map (λ place. get_or (tasks_of calls) place 0)
    (predecessors_for names (item ∷ []) item)
    → Lists (IsKept (newest_first calls) (item ∷ [])) kept
kept_listed_at names calls item kept table is =
    subst (Lists (IsKept (newest_first calls) (item ∷ []))) (sym is)
    (record { ascending = ascending; each = λ s. (there s, back s) })
  where
    places : List ℕ
    places = predecessors_for names (item ∷ []) item

    task_at : ℕ → ℕ
    task_at place = get_or (tasks_of calls) place 0

    same : flat_map (predecessors_for names (item ∷ [])) (item ∷ []) ≡ places
    same = append-nil places

    length-tasks : length (map task_at places) ≡ length places
    length-tasks = length-map places task_at

    below : (k : ℕ) → k < length places → get_or places k 0 < length (tasks_of calls)
    below k h =
        let less : get_or places k 0 < length calls = predecessors_below names calls item.name
        (sharing_at item.name (item ∷ [])) table k 0 h in
        omega (arith, length-map calls (λ (c : Call). c.task))

    ascending : IsStrictlyIncreasing (map task_at places)
    ascending k h =
        let next : k + 1 < length places = omega (arith, length-tasks) in
        let up : get_or places k 0 < get_or places (k + 1) 0 = predecessors_in_order names calls
        item.name (sharing_at item.name (item ∷ [])) table k next in
        let one : get_or (map task_at places) k 0 ≡ task_at (get_or places k 0) =
        get_or-map task_at places k 0 0 (omega arith) in
        let other : get_or (map task_at places) (k + 1) 0 ≡ task_at (get_or places (k + 1) 0) =
        get_or-map task_at places (k + 1) 0 0 next in
        let less : task_at (get_or places k 0) < task_at (get_or places (k + 1) 0) =
        AllPairs-from_increasing (tasks_of calls) table.ascending (get_or places k 0)
        (get_or places (k + 1) 0) 0 up (below (k + 1) next) in
        omega arith

    there : (s : ℕ)
        → Contains (map task_at places) s
        → IsKept (newest_first calls) (item ∷ []) s
    there s c =
        let found =
        member_of_map task_at places s (member_contains (map task_at places) s c) in
        kept_at_place names calls (item ∷ []) found.0 s table
        (subst (λ (xs : List ℕ). Contains xs found.0) (sym same) (contains_member found.1)) found.2

    back : (s : ℕ)
        → IsKept (newest_first calls) (item ∷ []) s
        → Contains (map task_at places) s
    back s k =
        let at_place = place_of_kept names calls (item ∷ []) s table k in
        let among : Contains places at_place.0 =
        subst (λ (xs : List ℕ). Contains xs at_place.0) same at_place.1 in
        subst (Contains (map task_at places)) at_place.2
        (contains_member (member_map task_at (member_contains places at_place.0 among)))

-- the same, of a list of one item
pub kept_listed_at_one : (names : Names) (calls : List Call) (items : List Item) (d : Item)
    (kept : List ℕ)
    → IsTableOf names calls → length items ≡ 1
    → kept ≡ map (λ place. get_or (tasks_of calls) place 0)
    (predecessors_for names items (get_or items 0 d))
    → Lists (IsKept (newest_first calls) items) kept
kept_listed_at_one names calls [] d kept table one is = absurd (omega (arith, one))
kept_listed_at_one names calls (item ∷ []) d kept table one is =
    kept_listed_at names calls item kept table is
kept_listed_at_one names calls (item ∷ other ∷ items) d kept table one is =
    absurd (omega (arith, one))

-- the same entries in lists of other capacities
pub table_same : (names later : Names) (calls : List Call) → IsTableOf names calls
    → ((name : ℕ) → entry_at later name ≡ entry_at names name) → IsTableOf later calls
table_same names later calls table same = record {
  ascending = table.ascending;
  tied = λ name. subst
      (λ (e : Entry). AreGenerations name (newest_first calls) e.sharing e.current e.previous)
      (sym (same name)) (table.tied name);
  in_order = λ name. subst IsInOrder (sym (same name)) (table.in_order name);
}

-- one more call
pub table_after : (names later : Names) (calls : List Call) (call : Call) → IsTableOf names calls
    → ((s : Sibling) → Contains (newest_first calls) s → s.task < call.task)
    → ((name : ℕ)
    → entry_at later name
    ≡ entry_after (length calls) (items_of call.items) (items_of call.items) name (entry_at names name))
    → IsTableOf later (calls ++ call ∷ [])
table_after names later calls call table above same = record {
  ascending = subst IsStrictlyIncreasing (sym (map-append (λ (c : Call). c.task) calls (call ∷ [])))
      (increasing_push (tasks_of calls) call.task table.ascending below);
  tied = subst (AreTied later) (sym (newest_first-push calls call)) (tied_after names later
      (newest_first calls) (sibling_of
      call) table.tied (λ name. same name
      ∙ ap (λ n. entry_after n (items_of call.items) (items_of call.items) name (entry_at names name))
      (sym (length-newest calls))));
  in_order = λ name.
      subst IsInOrder (ap
      (λ n. entry_after n (items_of call.items) (items_of call.items) name (entry_at names name))
      (length-newest calls)
      ∙ sym (same name))
      (after_in_order name (newest_first calls) (items_of call.items) (entry_at names name)
      (table.tied name) (table.in_order name));
}
  where
    below : (n : ℕ) → Contains (tasks_of calls) n → n < call.task
    below n c =
        let found =
        member_of_map (λ (c : Call). c.task) calls n (member_contains (tasks_of calls) n c) in
        let is : found.0.task ≡ n = found.2 in
        let less : found.0.task < call.task =
        above (sibling_of found.0)
        (contains_member (member_map sibling_of (member_reverse calls found.0 found.1))) in
        omega arith
