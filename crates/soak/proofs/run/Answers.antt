-- `run` meets its contract: what is left of the run gives the answer.
use Rattle.std.proofs.Common.{◌≡◌, ◌-◌, ◌+◌, length, sym, refl, ap, ◌∙◌, subst, arith}
use Rattle.rules.specs.Numbers.{wrapped}
use Rattle.rules.specs.Parts.{fresh_bench}
use Rattle.rules.specs.Events.{Event}
use Rattle.rules.specs.Asked.{event_of}
use Rattle.rules.specs.Operations.{step, Counts}
use Rattle.rules.specs.Reached.{Reached}
use Rattle.rules.proofs.Reached.{reached_fresh, reached_step}
use Rattle.soak.specs.Draw.{chosen}
use Rattle.soak.specs.Run.{soaked}
use Rattle.soak.proofs.Soaking.{soak_admitted, soaked_more, soaked_none, tally_is}
use Rattle.soak.proofs.run.Goals as goal

pub loop-init : goal.loop-init
loop-init g c =
    let b = c.first-b.ensures ∙ ap fresh_bench c.setup.ensures in
    let all : c.args.events - 0 ≡ c.args.events = omega arith in
    (subst Reached (sym b) (reached_fresh soak_admitted), rw all refl)

pub loop-preserved : goal.loop-preserved
loop-preserved g c =
    let l = c.loop in
    let n = c.args.events - l.counter in
    let given = c.apply-given in
    let e : event_of c.choose.result (length l.row) ≡ chosen l.x = let long : length l.row ≡ 64 = omega arith in ap (event_of c.choose.result) long ∙ c.choose.ensures in
    let h : Counts (step wrapped (chosen l.x) l.b) given.result given.new.b l.row given.new.row =
    subst (λ (d : Event). Counts (step wrapped d l.b) given.result given.new.b l.row given.new.row) e given.ensures in
    let left : c.args.events - (l.counter + 1) ≡ n - 1 = omega arith in (
      subst Reached (sym h.leaves) (reached_step l.invariant.0 (chosen l.x)),
      l.invariant.1 ∙ soaked_more n l.x l.sum l.b (omega arith)
          ∙ rw (left, c.next-x.ensures, c.tallied-sum.ensures, h.leaves, tally_is (chosen l.x) l.b l.sum h) refl,
    )

pub returns : goal.returns
unfolding soaked
returns g c =
    let l = c.loop in
    let none : c.args.events - l.counter ≡ 0 = omega arith in
    sym (soaked_none (c.args.events - l.counter) l.x l.sum l.b none) ∙ sym l.invariant.1
    ∙ rw (c.first-x.ensures, c.first-b.ensures, c.setup.ensures) refl
