-- Refusals and their numbers, and what an operation gives: what it did, or why not, with the state that it leaves.
use Rattle.std.specs.Prelude.{ℕ, cond, eqb, Result, Ok, Err}
use Rattle.rules.specs.declared.Refusal.{Refusal}
use Rattle.rules.specs.declared.Refusal.TheVariants as Why
use Rattle.rules.specs.declared.Refused.{Refused}

-- the number of a refusal: setup not admitted, malformed state, a field out of range, no such unit or place, channel full, window
-- closed, the tick's share spent, row too short, stale, behind, beyond, already stored, window already RW
abbrev pub number : Refusal → ℕ
number Why.NotAdmitted = 1
number Why.Malformed = 2
number Why.OutOfRange = 3
number Why.Missing = 4
number Why.Full = 5
number Why.Closed = 6
number Why.Spent = 7
number Why.ShortRow = 8
number Why.Stale = 9
number Why.Behind = 10
number Why.Beyond = 11
number Why.AlreadyStored = 12
number Why.WideOpen = 13

-- the refusal of a number from 1 to 13
abbrev pub refusal : ℕ → Refusal
refusal n =
    cond (eqb n 1) Why.NotAdmitted
    (cond (eqb n 2) Why.Malformed
    (cond (eqb n 3) Why.OutOfRange
    (cond (eqb n 4) Why.Missing
    (cond (eqb n 5) Why.Full
    (cond (eqb n 6) Why.Closed
    (cond (eqb n 7) Why.Spent
    (cond (eqb n 8) Why.ShortRow
    (cond (eqb n 9) Why.Stale
    (cond (eqb n 10) Why.Behind
    (cond (eqb n 11) Why.Beyond
    (cond (eqb n 12) Why.AlreadyStored Why.WideOpen)))))))))))

-- the state after something was done on it, or the refusal with the state
abbrev pub left : {X : Type 0} → Result (Unit {0}) Refusal → X → Result X (Refused X)
left (Ok u) x = Ok x
left (Err r) x = Err (record { why = r; state = x })

-- the same, with what was made
abbrev pub left_with : {H X : Type 0} → Result H Refusal → X → Result (H × X) (Refused X)
left_with (Ok h) x = Ok (h, x)
left_with (Err r) x = Err (record { why = r; state = x })

-- the number of an answer: 0 where it was done
abbrev pub answer_of : {T X : Type 0} → Result T (Refused X) → ℕ
answer_of (Ok t) = 0
answer_of (Err r) = number r.why
