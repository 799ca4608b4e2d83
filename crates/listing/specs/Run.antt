-- A run of a script, a line at a time: what a step writes and where the run stands after it. The theorems in proofs/ join the steps'
-- lines to the listing.
use Rattle.std.specs.Prelude.{◌≡◌, ℕ, zero, suc, ◌+◌, ◌-◌, ◌<◌, ◌≤◌, Bool, false, cond, List, [], ◌∷◌, ◌++◌, length, take, drop, ◌==◌, nat_lt, Option, Result, Ok, Err, IfOk, ⊤}
use Rattle.std.specs.Bool.{then_some}
use Rattle.rules.specs.declared.Setup.{Setup}
use Rattle.rules.specs.declared.Bench.{Bench}
use Rattle.rules.specs.declared.Refusal.{Refusal}
use Rattle.rules.specs.declared.Refusal.TheVariants.{NotAdmitted}
use Rattle.rules.specs.Numbers.{wrapped}
use Rattle.rules.specs.Setups.{◌also◌, admitted, zero_setup}
use Rattle.rules.specs.Parts.{fresh_bench}
use Rattle.rules.specs.Events as rules
use Rattle.reader.specs.Cuts.{index_of, split}
use Rattle.reader.specs.Values.{on_value}
use Rattle.reader.specs.Lines.{line_of, setup_value}
use Rattle.writer.specs.Row.{Put}
use Rattle.writer.specs.Lines.{event_line}
use Rattle.listing.specs.declared.inner.Run.{Run}
use Rattle.listing.specs.declared.inner.Step.{Step}
use Rattle.listing.specs.declared.inner.Step.TheVariants.{More, Over}
use Rattle.listing.specs.declared.inner.Part.{Part}
use Rattle.listing.specs.declared.inner.begin.SetupLines.{SetupLines}
use Rattle.listing.specs.declared.inner.begin.BadLine.{BadLine}
use Rattle.listing.specs.Listing.{bad_input, bad_line, setup_line, outcome, events_from, setup_of, in_fields}

-- one line written, whether the script has another, and where the run stands then
pub record Next : Type 0 where
  pub line : List ℕ
  pub more : Bool
  pub run : Run

abbrev pub last : Run → List ℕ → Next
last run l = record { line = l; more = false; run = run }

-- where a step leaves the run, as the code gives it
abbrev pub step_of : Bool → Run → Step
step_of more run = cond more (More run) (Over run)

-- a fact of the run, where it goes on
abbrev pub IfMore : Step → (Run → Type 0) → Type 0
IfMore (More run) P = P run
IfMore (Over run) P = ⊤

-- ---- the setup
-- where the line ends that starts at the place `at`, and the line
abbrev pub end_of : List ℕ → ℕ → ℕ
end_of s at = at + index_of 10 (drop at s)

abbrev pub piece : List ℕ → ℕ → List ℕ
piece s at = take (end_of s at - at) (drop at s)

-- a setup whose numbers fit their fields
abbrev pub fitting : Setup → Option Setup
fitting S = then_some (in_fields S) S

-- a fresh bench, or its refusal
abbrev pub opened : Setup → Result Bench Refusal
opened S = cond (in_fields S also admitted S) (Ok (fresh_bench S)) (Err NotAdmitted)

-- the run of a script that has none
abbrev pub nowhere : Run
nowhere = record { at = 0; line = 0; event = 0; bench = fresh_bench zero_setup }

-- the events start at the place `at`
unfoldable pub judged_at : Setup → ℕ → List ℕ → Next
judged_at S at s =
    cond (in_fields S also admitted S)
    (record {
      line = setup_line 0;
      more = nat_lt at (length s);
      run = record { at = at; line = 9; event = 1; bench = fresh_bench S };
    })
    (last nowhere (setup_line 1))

-- k setup lines are left; the next starts at the place `at` and has the number n
unfoldable pub open_from : ℕ → ℕ → ℕ → List ℕ → List ℕ → Next
open_from zero n at vs s = judged_at (setup_of vs) at s
open_from (suc k) n at vs s =
    cond (end_of s at == length s) (last nowhere (bad_line n))
    (on_value (setup_value n (piece s at)) (last nowhere (bad_line n)) (λ v. open_from k (n + 1) (end_of s at + 1) (vs ++ v ∷ []) s))

unfoldable pub first : List ℕ → Next
first s = cond (nat_lt 65536 (length s)) (last nowhere bad_input) (open_from 8 1 0 [] s)

-- ---- an event
abbrev pub went : List ℕ → Run → rules.Out Bench → Next
went s run o = record {
  line = event_line run.event o.answer o.units;
  more = nat_lt (end_of s run.at + 1) (length s);
  run = record { at = end_of s run.at + 1; line = run.line + 1; event = run.event + 1; bench = o.state };
}

unfoldable pub next : List ℕ → Run → Next
next s run =
    cond (end_of s run.at == length s) (last run (bad_line run.line))
    (on_value (line_of (piece s run.at)) (last run (bad_line run.line)) (λ ev. went s run (outcome wrapped run.bench ev)))

-- ---- what is left of the listing
unfoldable pub rest : List ℕ → Run → List (List ℕ)
rest s run = events_from wrapped run.bench run.line run.event (split 10 (drop run.at s))

-- where the run stands after k lines
unfoldable pub after : ℕ → List ℕ → Run → Run
after zero s run = run
after (suc k) s run = after k s (next s run).run

-- ---- what the functions ensure
-- a run that has a line to go on with
pub record Ready (s : List ℕ) (run : Run) : Type 0 where
  pub within : run.at < length s
  pub short : length s ≤ 65536
  pub lines : run.line ≤ run.at + 1
  pub events : run.event ≤ run.at + 1

-- the line that a step gives, and where it leaves the run: `n` is the step
pub record SetLine (s : List ℕ) (n : Next) (line : List ℕ) (r : Step) : Type 0 where
  pub text : line ≡ n.line
  pub then : r ≡ step_of n.more n.run
  pub ready : IfMore r (Ready s)

abbrev pub SetFirst : List ℕ → List ℕ → Step → Type 0
SetFirst s line r = SetLine s (first s) line r

-- the row that a step wrote its line into, and where it leaves the run
pub record WroteLine (s old new : List ℕ) (n : Next) (r : Part) : Type 0 where
  pub row : Put old new 0 n.line r.end
  pub then : r.left ≡ step_of n.more n.run
  pub ready : IfMore r.left (Ready s)

abbrev pub Opened : List ℕ → List ℕ → List ℕ → Part → Type 0
Opened s old new r = WroteLine s old new (first s) r

pub record Stepped (s : List ℕ) (run : Run) (line : List ℕ) (r : Step) : Type 0 where
  pub wrote : SetLine s (next s run) line r
  pub ahead : IfMore r (λ then. run.at < then.at)

abbrev pub settled : List ℕ → Result SetupLines BadLine → Next
settled s (Ok l) = judged_at (setup_of l.values) l.end s
settled s (Err bad) = last nowhere (bad_line bad.number)

pub record SetupRead (s : List ℕ) (r : Result SetupLines BadLine) : Type 0 where
  pub is : open_from 8 1 0 [] s ≡ settled s r
  pub place : IfOk r (λ l. (8 ≤ l.end) × (l.end ≤ length s))
