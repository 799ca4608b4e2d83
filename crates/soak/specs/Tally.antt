-- The checksum of a run: 64 bits over the answers, the counts and the delivered units, in their order.
use Rattle.std.specs.Prelude.{ℕ, ◌+◌, ◌%◌, ◌^◌, List, [], ◌∷◌, length, take, bit_xor, Result, Ok, Err}
use Rattle.rules.specs.declared.Bench.{Bench}
use Rattle.rules.specs.declared.Refusal.{Refusal}
use Rattle.rules.specs.Refusals.{number}
use Rattle.rules.specs.Events.{Out}
use Rattle.soak.specs.Draw.{up, down}

-- the sum turned by five places, and the number added
unfoldable pub mixed : ℕ → ℕ → ℕ
mixed sum v = (bit_xor (up 5 sum) (down 59 sum) + v) % 2 ^ 64

abbrev pub all_mixed : ℕ → List ℕ → ℕ
all_mixed sum [] = sum
all_mixed sum (v ∷ l) = all_mixed (mixed sum v) l

-- an event's answer, how many units it delivered, and the units
abbrev pub tallied : ℕ → Out Bench → ℕ
tallied sum o = all_mixed (mixed (mixed sum o.answer) (length o.units)) o.units

-- the same, of what the code gives of an event and of the row that it leaves
abbrev pub tally_of : ℕ → Result ℕ Refusal → List ℕ → ℕ
tally_of sum (Ok n) row = all_mixed (mixed (mixed sum 0) n) (take n row)
tally_of sum (Err why) row = mixed (mixed sum (number why)) 0
