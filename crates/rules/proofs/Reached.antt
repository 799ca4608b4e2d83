-- A bench that is reached from fresh is not malformed, on it an event is its rule, and the next bench is reached too: so a run from
-- fresh needs no test of its state.
use mathlib.Core.Path.{◌≡◌, refl, sym, ◌∙◌, ap, subst}
use mathlib.Core.Bool.{true, false}
use mathlib.Core.List.{List, [], ◌∷◌, ◌++◌}
use Rattle.rules.specs.declared.Setup.{Setup}
use Rattle.rules.specs.declared.Bench.{Bench}
use Rattle.rules.specs.Numbers.{wrapped}
use Rattle.rules.specs.Setups.{admitted}
use Rattle.rules.specs.Parts.{fresh_bench}
use Rattle.rules.specs.Malformed.{malformed_bench}
use Rattle.rules.specs.Fit.{FitBench}
use Rattle.rules.specs.Events.{Event, act}
use Rattle.rules.specs.Operations.{step}
use Rattle.rules.specs.Runs.{final}
use Rattle.rules.specs.Reached.{Reached, NeedsNoTest}
use Rattle.rules.proofs.Agreement.Theorem.{fresh_formed, fresh_fit}

pub reached_fresh : {S : Setup} → admitted S ≡ true → Reached (fresh_bench S)
unfolding final
reached_fresh {S} adm = record { setup = S; admitted_setup = adm; events = []; by_events = refl }

final_more : (es : List Event) (e : Event) (b : Bench) → final wrapped (es ++ e ∷ []) b ≡ (step wrapped e (final wrapped es b)).state
unfolding final
final_more [] e b = refl
final_more (x ∷ es) e b = final_more es e (step wrapped x b).state

pub reached_step : {b : Bench} → Reached b → (e : Event) → Reached (step wrapped e b).state
reached_step r e = record {
  setup = r.setup;
  admitted_setup = r.admitted_setup;
  events = r.events ++ e ∷ [];
  by_events = ap (λ (x : Bench). (step wrapped e x).state) r.by_events ∙ sym (final_more r.events e (fresh_bench r.setup));
}

pub reached_formed : {b : Bench} → Reached b → malformed_bench wrapped b ≡ false
reached_formed r = rw r.by_events (fresh_formed r.setup r.admitted_setup r.events)

pub reached_fit : {b : Bench} → Reached b → FitBench b
reached_fit r = subst FitBench (sym r.by_events) (fresh_fit r.setup r.admitted_setup r.events)

-- an event on it is its rule
pub reached_act : {b : Bench} → Reached b → (e : Event) → step wrapped e b ≡ act (wrapped b.sender.setup) b.sender.setup e b
unfolding step
reached_act r e = rw (reached_formed r)

pub needs_no_test : NeedsNoTest
needs_no_test b r = record { formed = reached_formed r; fit = reached_fit r; acts = reached_act r; next = reached_step r }
