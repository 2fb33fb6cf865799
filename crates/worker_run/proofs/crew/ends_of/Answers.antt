use Rattle.std.proofs.Common.{ℕ, ◌≡◌, ◌≤◌, ◌<◌, ◌+◌, get_or, ◌++◌, ◌∷◌, [], List, All, drop, length, sym, ap, subst, arith, ◌∙◌}
use Rattle.std.proofs.lemmas.List.{drop-append-le, drop-drop, drop_all, drop_more, length-drop}
use Rattle.std.proofs.lemmas.List.Elements.{All-push}
use Rattle.worker_run.specs.declared.worker.Ending.TheVariants.{NoMemory}
use Rattle.worker_run.proofs.Sharing.{each_pushed_at}
use Rattle.worker_run.proofs.crew.ends_of.Goals as goal
use Rattle.worker_run.proofs.crew.ends_of.Goals.{in-Some, in-None}

-- one more behind a place of which each is so
one_behind : {A : Type 0} (P : A → Type 0) (n : ℕ) (xs : List A) (x : A) → n ≤ length xs
    → All P (drop n xs) → P x → All P (drop n (xs ++ x ∷ []))
one_behind P n xs x less each this =
    subst (All P) (sym (drop-append-le n xs (x ∷ []) less)) (All-push P (drop n xs) x each this)

-- what is left behind a place, and behind the next one
one_less : {A : Type 0} (n : ℕ) (xs : List A) (x : A) (rest : List A) → x ∷ rest ≡ drop n xs → rest ≡ drop (n + 1) xs
one_less n xs x rest all = ap (λ ys. drop 1 ys) all ∙ drop-drop 1 n xs

-- there is an item at a place behind which not all is left
has_place : {A : Type 0} (n : ℕ) (xs : List A) (x : A) (rest : List A) → x ∷ rest ≡ drop n xs → n + 1 ≤ length xs
has_place n xs x rest all =
    let long : length (x ∷ rest) ≡ length (drop n xs) = ap (λ ys. length ys) all in
    omega (arith, long, length-drop n xs)

-- what holds of each item and its place holds of the next one of those that are left
next_left : {A : Type 0} (P : ℕ → A → Type 0) (n : ℕ) (xs : List A) (x : A) (rest : List A) → x ∷ rest ≡ drop n xs
    → ((i : ℕ) → i < length xs → (d : A) → P i (get_or xs i d)) → P n x
next_left P n xs x rest all each =
    let less : n < length xs = omega (arith, has_place n xs x rest all) in
    subst (P n) (sym (ap (λ ys. get_or ys 0 x) (all ∙ drop_more xs n x less))) (each n less x)

-- none behind the end
none_behind : {A : Type 0} (P : A → Type 0) (n : ℕ) (xs : List A) → length xs ≤ n → All P (drop n xs)
none_behind P n xs short = subst (All P) (sym (drop_all n xs short)) (λ k d none. absurd (omega (arith, none)))

-- where no more are left behind a place, none are behind the next one
still_none : {A : Type 0} (n : ℕ) (xs rest : List A) → length xs ≤ n → rest ≡ drop n xs → rest ≡ drop (n + 1) xs
still_none n xs rest short all =
    let more : length xs ≤ n + 1 = omega (arith, short) in all ∙ drop_all n xs short ∙ sym (drop_all (n + 1) xs more)

pub loop-worker-preserved : goal.loop-worker-preserved
loop-worker-preserved g c =
    let handles = c.args.handles.items in
    let items = c.in_ok-push.ensures.items in
    let count = c.loop-worker.invariant.count in
    let rest = c.loop-worker.invariant.rest in
    let left = c.loop-worker.invariant.left in
    let long = c.in_ok-push.ensures.len in
    let ok = c.loop-worker.ends.ok in
    let new_ok = c.push.new.self.ok in record {
      count = omega (arith, long, count, ok, new_ok);
      rest = elim c.match-next.branch [
        | in-Some w ↦ one_less c.loop-worker.worker handles w.in-Some.handle _ (sym (w.in-Some.ensures.items) ∙ rest)
        | in-None w ↦
            (let none = w.in-None.ensures.cases in
            let short : length handles ≤ c.loop-worker.worker = omega (arith, left, none.0) in
            still_none c.loop-worker.worker handles _ short (sym (w.in-None.ensures.items) ∙ rest))
      ];
      left = elim c.match-next.branch [
        | in-Some w ↦ (let one = w.in-Some.ensures.cases in omega (arith, left, one.1))
        | in-None w ↦ (let none = w.in-None.ensures.cases in omega (arith, left, none.0, none.1))
      ];
      numbers = rw items
          (each_pushed_at (λ n e. e.worker ≡ n) c.loop-worker.ends.items c.match-next.end c.loop-worker.worker count
          c.loop-worker.invariant.numbers (elim c.match-next.branch [
            | in-Some w ↦ ap (λ e. e.worker) (w.end-is) ∙ w.join-end.ensures
                ∙ next_left (λ n h. h.promise.worker ≡ n) c.loop-worker.worker handles w.in-Some.handle _
                (sym (w.in-Some.ensures.items) ∙ rest) c.requires
            | in-None w ↦ ap (λ e. e.worker) (w.end-is) ∙ w.no_memory-end.ensures.worker
          ]));
      refused = elim c.match-next.branch [
        | in-Some w ↦ none_behind (λ e. e.how ≡ NoMemory) (length handles) c.push.new.self.items
            (let some = has_place c.loop-worker.worker handles w.in-Some.handle _ (sym (w.in-Some.ensures.items) ∙ rest) in
            omega (arith, long, count, some, ok, new_ok))
        | in-None w ↦
            (let none = w.in-None.ensures.cases in
            let short : length handles ≤ length c.loop-worker.ends.items = omega (arith, left, none.0, count) in
            rw items (one_behind (λ e. e.how ≡ NoMemory) (length handles) c.loop-worker.ends.items c.match-next.end short
            c.loop-worker.invariant.refused (ap (λ e. e.how) (w.end-is) ∙ w.no_memory-end.ensures.how)))
      ];
    }
