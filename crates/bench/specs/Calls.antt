-- Calls of the bench's operations, one after the other, as their contracts allow them; and what the theorem of agreement says of
-- them: whoever calls the operations on a bench that `fresh` gave sees, call by call, what the run on whole numbers answers, and has
-- the bench of that run, shown round its ranges.
use Rattle.std.specs.Prelude.{◌≡◌, true, ℕ, List, [], ◌∷◌, map, length, take, Result, Ok, Err}
use Rattle.rules.specs.declared.Setup.{Setup}
use Rattle.rules.specs.declared.Bench.{Bench}
use Rattle.rules.specs.declared.Refused.{Refused}
use Rattle.rules.specs.Numbers.{wrapped, whole}
use Rattle.rules.specs.Refusals.{answer_of}
use Rattle.rules.specs.Rows.{laid}
use Rattle.rules.specs.Parts.{fresh_bench}
use Rattle.rules.specs.Events.{Event, accept, send, arrive, room, acknowledge, hear, dropd, dropa, dupd, dupa, tick}
use Rattle.rules.specs.Operations.{begun, step, returned, counted}
use Rattle.rules.specs.Runs.{Said, run, final, accepted, delivered}
use Rattle.rules.specs.Malformed.{every}
use Rattle.rules.specs.Agreement.{wrap, Ordered, proper}

-- ---- what an operation gives back: the bench, done or refused, and the count of the units that stand in the row
abbrev pub Given : Type 0
Given = Result (ℕ × Bench) (Refused Bench)

abbrev pub state_of : Given → Bench
state_of (Ok r) = r.1
state_of (Err r) = r.state

abbrev pub count_of : Given → ℕ
count_of (Ok r) = r.0
count_of (Err r) = 0

-- of an operation that gives no count, it is 0
abbrev pub at_count_0 : Result Bench (Refused Bench) → Given
at_count_0 (Ok b) = Ok (0, b)
at_count_0 (Err r) = Err r

-- ---- a call of `data` or `apply`, or of `accept` to `tick` with its result at count 0: the event whose operation is called (of `apply`
-- it is `event_of` what is asked), what it gave back, and the caller's row before and after
pub record Call : Type 0 where
  pub event : Event
  pub given : Given
  pub before : List ℕ
  pub after : List ℕ

-- the event of a call of `data` has the length of the row that is lent
abbrev pub Lends : Event → List ℕ → Type 0
Lends (accept u) row = Prim.Unit
Lends (send k) row = Prim.Unit
Lends (arrive j n) row = n ≡ length row
Lends room row = Prim.Unit
Lends acknowledge row = Prim.Unit
Lends (hear j) row = Prim.Unit
Lends (dropd j) row = Prim.Unit
Lends (dropa j) row = Prim.Unit
Lends (dupd j) row = Prim.Unit
Lends (dupa j) row = Prim.Unit
Lends tick row = Prim.Unit

-- what the contract of the event's operation allows on the bench b; a row that is not lent stays
pub record Allowed (b : Bench) (c : Call) : Type 0 where
  pub lends : Lends c.event c.before
  pub gives : c.given ≡ counted (step wrapped c.event b)
  pub lent : c.after ≡ laid (step wrapped c.event b).units c.before

-- calls in a row, each on the bench that the one before gave back, also in a refusal
pub data Calls : Bench → List Call → Type 0 where
  done : {b : Bench} → Calls b []
  call : {b : Bench} {c : Call} {cs : List Call} → Allowed b c → Calls (state_of c.given) cs → Calls b (c ∷ cs)

-- what the caller sees of a call: the answer, and as many units of the row as the count says
abbrev pub seen : Call → Said
seen c = record { answer = answer_of c.given; units = take (count_of c.given) c.after }

-- the events of the calls, and the bench that the last of them gave back
abbrev pub events_of : List Call → List Event
events_of cs = map (λ (c : Call). c.event) cs

abbrev pub left_by : Bench → List Call → Bench
left_by b [] = b
left_by b (c ∷ cs) = left_by (state_of c.given) cs

-- ---- the code's own agreement, of the calls cs on the bench b that `fresh` gave
pub record CallsAgree (S : Setup) (b : Bench) (cs : List Call) : Type 0 where
  -- the caller sees the answers and units of the run on whole numbers
  pub answers : map seen cs ≡ run whole (events_of cs) (fresh_bench S)
  -- the bench is that run's, each number mod NS and each clock value mod NC
  pub state : left_by b cs ≡ wrap S (final whole (events_of cs) (fresh_bench S))
  -- the delivered units, joined, are the first so many of the accepted ones, in order
  pub prefix : delivered (map seen cs) ≡ take (length (delivered (map seen cs))) (accepted (events_of cs) (map seen cs))
  -- una ≤ nxt ≤ una + outstanding ≤ una + granted
  pub order : Ordered (final whole (events_of cs) (fresh_bench S))
  -- no call is answered 2 or 11
  pub never : every proper (map seen cs) ≡ true

-- after a `fresh` that gave a bench, of every sequence of calls
abbrev pub AllCallsAgree : Type 0
AllCallsAgree = (S : Setup) (b : Bench) → Ok b ≡ returned (begun fresh_bench S) → (cs : List Call) → Calls b cs → CallsAgree S b cs

-- so it speaks of `accept` to `tick` too: each event but an arrival gives, with the count, what it gives without, at count 0; and
-- the row stays
abbrev pub OthersCountNone : Type 0
OthersCountNone =
    (e : Event) → ((j n : ℕ) → e ≡ arrive j n → ⊥) → (b : Bench) →
    (counted (step wrapped e b) ≡ at_count_0 (returned (step wrapped e b)))
    × ((row : List ℕ) → laid (step wrapped e b).units row ≡ row)
