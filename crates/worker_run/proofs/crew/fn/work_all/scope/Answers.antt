use Rattle.std.proofs.Common.{ℕ, ◌≡◌, ◌+◌, ◌++◌, ◌∷◌, [], List, length, Result, Ok, Err, IfOk, MatchResult}
use Rattle.std.proofs.Common.{refl, sym, ap, subst, arith, ◌∙◌}
use Rattle.std.proofs.lemmas.List.{length_push}
use Rattle.worker_run.specs.WorkerEnds.{AreNumbered}
use Rattle.worker_run.proofs.Sharing.{each_pushed_at}
use Rattle.worker_run.proofs.crew.fn.work_all.scope.Goals as goal

-- the handle that was kept has the next number
next_kept : {H P E : Type 0} (promise : H → P) (number : P → ℕ) (p : P) (xs ys : List H) (spawned : Result H E)
    → MatchResult spawned (λ h. ys ≡ xs ++ h ∷ []) (λ _. ⊥)
    → IfOk spawned (λ h. promise h ≡ p)
    → number p ≡ length xs
    → AreNumbered (λ h. number (promise h)) xs
    → (length ys ≡ length xs + 1) × AreNumbered (λ h. number (promise h)) ys
next_kept promise number p xs ys (Ok h) made its next each = (
  ap length made ∙ length_push xs h,
  subst (AreNumbered (λ k. number (promise k))) (sym made)
      (each_pushed_at (λ n k. number (promise k) ≡ n) xs h (length xs) refl each (ap number its ∙ next)),
)
next_kept promise number p xs ys (Err e) made its next each = absurd made

pub loop-station-preserved : goal.loop-station-preserved
loop-station-preserved g c =
    let inv = c.loop-station.invariant in
    let long = c.len-worker.ensures in
    let ok = c.loop-station.handles.ok in
    let kept = next_kept (λ h. h.promise) (λ p. p.worker) _ c.loop-station.handles.items c.keep.new.handles.items
    c.spawn_with-spawned.result (c.if-not-keep.ensures.kept refl) c.spawn_with-spawned.ensures.ok (omega (arith, long, ok))
    inv.numbers in
    record {
      count = let more = kept.0 in let before = inv.count in omega (arith, more, before);
      numbers = kept.1;
    }
