use Rattle.std.proofs.Common.{List, ◌++◌, ◌+◌, ◌≡◌, refl, sym, subst, ap, ◌∙◌, length, min, arith, length-append}
use Rattle.worker_run.specs.declared.look.Found.{Found}
use Rattle.worker_run.specs.declared.look.Found.TheVariants.{Token, Nothing, Unsure}
use Rattle.worker_run.specs.Looks.{AreLookedAt, in_turn}
use Rattle.worker_run.proofs.Looking.{then_looked, then_left, turned}
use Rattle.worker_run.proofs.look.look_in_turn.Goals as goal

-- what holds of the parts in turn holds of the whole
in_whole : {A : Type 0} (looks : A → Found → A → Type 0) (first : _) (xs front back front_now back_now : List A)
    (found : Found)
    → xs ≡ front ++ back
    → length front ≡ min first (length xs)
    → length front_now ≡ length front
    → length back_now ≡ length back
    → AreLookedAt looks (back ++ front) found (back_now ++ front_now)
    → AreLookedAt looks (in_turn first xs) found (in_turn first (front_now ++ back_now))
in_whole looks first xs front back front_now back_now found split count same_front same_back looked =
    let all : length xs ≡ length front + length back = ap length split ∙ length-append front back in
    let was : in_turn first xs ≡ back ++ front =
    ap (in_turn first) split ∙ turned first front back (omega arith) in
    let now : in_turn first (front_now ++ back_now) ≡ back_now ++ front_now =
    turned first front_now back_now (omega arith) in
    subst (λ l. AreLookedAt looks l found (in_turn first (front_now ++ back_now))) (sym was)
    (subst (λ l. AreLookedAt looks (back ++ front) found l) (sym now) looked)

pub returns-in-Token : goal.returns-in-Token
returns-in-Token g c =
    let parts = c.split_at_mut-below in
    in_whole g.S.TokenSource.looks c.args.first c.args.sources.now parts.result.0.now parts.result.1.now
    parts.result.0.now c.look_through.new.sources (Token c.in-Token.token) parts.ensures.value (omega arith)
    refl (omega arith)
    (then_left g.S.TokenSource.looks parts.result.1.now (Token c.in-Token.token) c.look_through.new.sources
    parts.result.0.now c.in-Token.token refl c.in-Token.ensures)

pub returns-in-Nothing : goal.returns-in-Nothing
returns-in-Nothing g c =
    let parts = c.split_at_mut-below in
    in_whole g.S.TokenSource.looks c.args.first c.args.sources.now parts.result.0.now parts.result.1.now
    c.look_through-in-Nothing.new.sources c.look_through.new.sources c.look_through-in-Nothing.result
    parts.ensures.value (omega arith) (omega arith) (omega arith)
    (then_looked g.S.TokenSource.looks parts.result.1.now Nothing c.look_through.new.sources parts.result.0.now
    c.look_through-in-Nothing.result c.look_through-in-Nothing.new.sources (λ token is. absurd (cc))
    c.in-Nothing.ensures c.look_through-in-Nothing.ensures)

pub returns-in-Unsure : goal.returns-in-Unsure
returns-in-Unsure g c =
    let parts = c.split_at_mut-below in
    rw c.after_unsure.ensures
    (in_whole g.S.TokenSource.looks c.args.first c.args.sources.now parts.result.0.now parts.result.1.now
    c.look_through-in-Unsure.new.sources c.look_through.new.sources _
    parts.ensures.value (omega arith) (omega arith) (omega arith)
    (then_looked g.S.TokenSource.looks parts.result.1.now Unsure c.look_through.new.sources parts.result.0.now
    c.look_through-in-Unsure.result c.look_through-in-Unsure.new.sources (λ token is. absurd (cc))
    c.in-Unsure.ensures c.look_through-in-Unsure.ensures))
