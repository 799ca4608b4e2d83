-- What the program writes is the listing.
use Rattle.std.specs.Prelude.{◌≡◌, ℕ, zero, suc, ◌-◌, ◌<◌, ◌≤◌, Bool, true, false, nat_le, List, ◌++◌, length}
use Rattle.std.proofs.Common.{refl, ap, sym, ◌∙◌, append_assoc, arith, leb-true, leb-false}
use Rattle.listing.specs.declared.inner.Run.{Run}
use Rattle.listing.specs.declared.inner.Step.{Step}
use Rattle.listing.specs.declared.inner.Step.TheVariants.{More, Over}
use Rattle.listing.specs.Listing.{joined, listing}
use Rattle.listing.specs.Run.{step_of, IfMore, next, first}
use Rattle.listing.specs.Fitting.{Fill, filling}
use Rattle.listing.specs.Output.{Loop, ends, goes_on, starts, WritesTheListing}
use Rattle.listing.proofs.Steps.{rest_of, rest_step, next_ahead}
use Rattle.listing.proofs.Setups.{first_lines, first_within}
use Rattle.listing.proofs.Fitting.{filling_of, Then, fill_full, fill_on}

-- a row's text, and what is left after it, is what was left before it; a run that goes on stands within the script
pub record Cut (s : List ℕ) (now : Step) (f : Fill) : Type 0 where
  pub whole : joined (rest_of s now) ≡ f.text ++ joined (rest_of s (step_of f.more f.run))
  pub within : IfMore (step_of f.more f.run) (λ then. then.at < length s)

module _ (room : ℕ) (s : List ℕ) (run : Run) (h : run.at < length s) where
  cut_full : room < length (next s run).line → Cut s (More run) (filling room s run)
  cut_full l = rw (fill_full room s run h l) (record { whole = refl; within = h })

  -- what the lines after this one give
  abbrev After : Type 0
  After = Cut s (step_of (next s run).more (next s run).run) (Then room s run h (next s run).more)

  cut_on : length (next s run).line ≤ room → After → Cut s (More run) (filling room s run)
  unfolding joined
  cut_on l c =
      rw (fill_on room s run h l)
      (record { whole = rw (rest_step s run h, append_assoc) (ap (λ (t : List ℕ). (next s run).line ++ t) c.whole); within = c.within })

  by_room : (q : Bool) → nat_le (length (next s run).line) room ≡ q → After → Cut s (More run) (filling room s run)
  by_room true e c = cut_on (leb-true _ _ e) c
  by_room false e c = cut_full (leb-false _ _ e)

if_left : (room : ℕ) (s : List ℕ) (now : Step) {P : Run → Type 0} → IfMore now P
    → ((run : Run) → P run → Cut s (More run) (filling room s run)) → Cut s now (filling_of room s now)
if_left room s (Over run) p c = record { whole = refl; within = tt }
if_left room s (More run) p c = c run p

-- by the bytes of the script that are left
cuts : (n room : ℕ) (s : List ℕ) (run : Run) → run.at < length s → length s - run.at ≤ n → Cut s (More run) (filling room s run)
cuts zero room s run h l = absurd (omega arith)
cuts (suc n) room s run h l =
    by_room room s run h (nat_le (length (next s run).line) room) refl
    (if_left (room - length (next s run).line) s (step_of (next s run).more (next s run).run) (next_ahead s run h)
    (λ then a. cuts n (room - length (next s run).line) s then a.1 (omega (arith, a.0))))

pub fill_cuts : (room : ℕ) (s : List ℕ) (run : Run) → run.at < length s → Cut s (More run) (filling room s run)
fill_cuts room s run h = cuts (length s) room s run h (omega arith)

loop_writes : (room : ℕ) (s : List ℕ) {now : Step} {t : List ℕ} → Loop room s now t → IfMore now (λ run. run.at < length s)
    → t ≡ joined (rest_of s now)
unfolding joined
loop_writes room s ends h = refl
loop_writes room s (goes_on {run} {t} l) h =
    let c = fill_cuts room s run h in
    ap (λ (u : List ℕ). (filling room s run).text ++ u) (loop_writes room s l c.within) ∙ sym c.whole

pub writes_the_listing : WritesTheListing
unfolding listing joined
writes_the_listing room s _ (starts {t} l) =
    ap (λ (u : List ℕ). (first s).line ++ u) (loop_writes room s l (first_within s)) ∙ sym (ap joined (first_lines s))
