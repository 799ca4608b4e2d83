-- What the listing takes from an event that was done or refused: the answer, the units and the bench are the rule's.
use Rattle.std.specs.Prelude.{◌≡◌, ℕ, List, length, take, Ok, Err, MatchResult}
use Rattle.rules.specs.declared.Bench.{Bench}
use Rattle.rules.specs.declared.Event.{Event}
use Rattle.rules.specs.Numbers.{wrapped}
use Rattle.rules.specs.Rows.{laid}
use Rattle.rules.specs.Asked.{event_of}
use Rattle.rules.specs.Refusals.{answer_of}
use Rattle.rules.specs.Operations.{step, counted}
use Rattle.rules.proofs.Refusals.{step_known, answer_counted}
use Rattle.rules.proofs.Benches.{step_refused}
use Rattle.bench.proofs.Calls.{state_counted, units_counted}
use Rattle.bench.specs.Calls.{Given, count_of, state_of}
use Rattle.listing.specs.Listing.{outcome}

-- the count and the bench that the code takes
pub taken : (g : Given) (r : ℕ × Bench) → MatchResult g (λ x. r ≡ x) (λ e. r ≡ (0, e.state)) → r ≡ (count_of g, state_of g)
taken (Ok x) r e = e
taken (Err x) r e = e

-- what `apply` gives of a row of 64 places: the answer, the bench, the units
pub seen :
    (b : Bench) (e : Event) (old row : List ℕ) (g : Given) → length old ≡ 64 → g ≡ counted (step wrapped (event_of e (length old)) b)
    → row ≡ laid (step wrapped (event_of e (length old)) b).units old
    → (answer_of g ≡ (outcome wrapped b e).answer) × (state_of g ≡ (outcome wrapped b e).state) × (take (count_of g) row ≡ (outcome wrapped b e).units)
seen b e old row g n h l =
    let o = outcome wrapped b e in
    let gives : g ≡ counted o = rw n at h in
    let lent : row ≡ laid o.units old = rw n at l in (
      rw gives (answer_counted o (step_known wrapped (event_of e 64) b)),
      rw gives (state_counted o),
      rw (gives, lent) (units_counted o (step_refused wrapped (event_of e 64) b) old),
    )
