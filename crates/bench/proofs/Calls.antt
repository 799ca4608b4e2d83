-- What the caller sees of the bench's operations is the run on whole numbers, and so is the bench: by the contracts they are those of
-- the run on wrapped numbers, and the two runs agree.
use Rattle.std.specs.Prelude.{◌≡◌, ℕ, Bool, true, false, cond, eqb, List, [], ◌∷◌, map, length, take, drop, Ok, Err}
use mathlib.Core.Path.{refl, sym, ◌∙◌, ap, ap₂}
use native.Mathlib.Omega.{arith}
use lib.Seq.{take-append_seam}
use borrow.Author.Tests.{eqb-false}
use Rattle.rules.specs.declared.Setup.{Setup}
use Rattle.rules.specs.declared.Bench.{Bench}
use Rattle.rules.specs.Numbers.{wrapped}
use Rattle.rules.specs.Refusals.{refusal, left_with}
use Rattle.rules.specs.Rows.{laid}
use Rattle.rules.specs.Setups.{admitted, zero_setup}
use Rattle.rules.specs.Parts.{fresh_bench}
use Rattle.rules.specs.Events.{Out, refused}
use Rattle.rules.specs.Operations.{begun, step, returned, counted}
use Rattle.rules.specs.Runs.{said, run, final}
use Rattle.rules.proofs.Refusals.{step_known, answer_counted}
use Rattle.rules.proofs.Benches.{step_quiet, step_refused}
use Rattle.rules.proofs.Agreement.Theorem.{agreement}
use Rattle.bench.specs.Calls.{Given, state_of, count_of, at_count_0, Call, Allowed, Calls, done, call, seen, events_of, left_by, AllCallsAgree, OthersCountNone}

-- ---- what the caller finds in a result
module _ (o : Out Bench) where
  pub state_counted : state_of (counted o) ≡ o.state
  state_counted = go (eqb o.answer 0)
    where
      go : (t : Bool) → state_of (left_with (cond t (Ok (length o.units)) (Err (refusal o.answer))) o.state) ≡ o.state
      go true = refl
      go false = refl

  -- a refusal delivers nothing, so the count is right in each case
  pub units_counted : ((o.answer ≡ 0 → ⊥) → o.units ≡ []) → (row : List ℕ) → take (count_of (counted o)) (laid o.units row) ≡ o.units
  units_counted none row = go (eqb o.answer 0) refl
    where
      go :
          (t : Bool) → eqb o.answer 0 ≡ t
          → take (count_of (left_with (cond t (Ok (length o.units)) (Err (refusal o.answer))) o.state)) (laid o.units row) ≡ o.units
      go true e = take-append_seam o.units (drop (length o.units) row)
      go false e = sym (none (eqb-false _ _ e))

-- one call: what is seen is what the event said
call_seen : {b : Bench} {c : Call} → Allowed b c → seen c ≡ said (step wrapped c.event b)
call_seen {b} {c} a =
    let o = step wrapped c.event b in
    ap₂ (λ (g : Given) (row : List ℕ). seen (record { event = c.event; given = g; before = c.before; after = row })) a.gives a.lent
    ∙ ap₂ (λ (n : ℕ) (us : List ℕ). record { answer = n; units = us }) (answer_counted o (step_known wrapped c.event b))
    (units_counted o (step_refused wrapped c.event b) c.before)

-- the next call is on the bench of the event
next_of : {b : Bench} {c : Call} → Allowed b c → state_of c.given ≡ (step wrapped c.event b).state
next_of {b} {c} a = ap state_of a.gives ∙ state_counted (step wrapped c.event b)

calls_seen : {b : Bench} {cs : List Call} → Calls b cs → map seen cs ≡ run wrapped (events_of cs) b
unfolding run
calls_seen done = refl
calls_seen (call {cs = cs} a rest) = ap₂ ◌∷◌ (call_seen a) (calls_seen rest ∙ ap (run wrapped (events_of cs)) (next_of a))

calls_left : {b : Bench} {cs : List Call} → Calls b cs → left_by b cs ≡ final wrapped (events_of cs) b
unfolding final
calls_left done = refl
calls_left (call {cs = cs} a rest) = calls_left rest ∙ ap (final wrapped (events_of cs)) (next_of a)

-- a bench that was given says that the setup is admitted
started : (S : Setup) (b : Bench) → Ok b ≡ returned (begun fresh_bench S) → (admitted S ≡ true) × (b ≡ fresh_bench S)
started S b h = go (admitted S) refl h
  where
    go :
        (t : Bool) → admitted S ≡ t → Ok b ≡ returned (cond t (refused (fresh_bench S) 0) (refused (fresh_bench zero_setup) 1))
        → (admitted S ≡ true) × (b ≡ fresh_bench S)
    go true e h = (e, cc)
    go false e h = absurd (cc)

pub calls_agree : AllCallsAgree
calls_agree S b e cs calls =
    let s = started S b e in
    let a = agreement S s.0 (events_of cs) in
    let w = calls_seen calls ∙ ap (run wrapped (events_of cs)) s.1 in
    record {
      answers = w ∙ a.answers;
      state = calls_left calls ∙ ap (final wrapped (events_of cs)) s.1 ∙ a.state;
      prefix = rw w a.prefix;
      order = a.order;
      never = rw w a.never;
    }

pub others_count_none : OthersCountNone
others_count_none e n b =
    let o = step wrapped e b in let q = step_quiet wrapped e b n in
    (go o.answer o.state o.units q, λ row. ap (λ (us : List ℕ). laid us row) q)
  where
    go : (n : ℕ) (x : Bench) (us : List ℕ) → us ≡ []
        → let o : Out Bench = record { answer = n; units = us; state = x } in counted o ≡ at_count_0 (returned o)
    go n x us q = grind arith
