-- A bench that is reached from fresh, and what a run that starts there may rely on without a test.
use Rattle.std.specs.Prelude.{◌≡◌, true, false, List}
use Rattle.rules.specs.declared.Setup.{Setup}
use Rattle.rules.specs.declared.Bench.{Bench}
use Rattle.rules.specs.Numbers.{wrapped}
use Rattle.rules.specs.Setups.{admitted}
use Rattle.rules.specs.Parts.{fresh_bench}
use Rattle.rules.specs.Malformed.{malformed_bench}
use Rattle.rules.specs.Fit.{FitBench}
use Rattle.rules.specs.Events.{Event, act}
use Rattle.rules.specs.Operations.{step}
use Rattle.rules.specs.Runs.{final}

-- under an admitted setup, by some events
pub record Reached (b : Bench) : Type 0 where
  pub setup : Setup
  pub admitted_setup : admitted setup ≡ true
  pub events : List Event
  pub by_events : b ≡ final wrapped events (fresh_bench setup)

-- it is not malformed, an event on it is its rule, and the bench that this leaves is reached too
pub record Relied (b : Bench) : Type 0 where
  pub formed : malformed_bench wrapped b ≡ false
  pub fit : FitBench b
  pub acts : (e : Event) → step wrapped e b ≡ act (wrapped b.sender.setup) b.sender.setup e b
  pub next : (e : Event) → Reached (step wrapped e b).state

abbrev pub NeedsNoTest : Type 0
NeedsNoTest = (b : Bench) → Reached b → Relied b
