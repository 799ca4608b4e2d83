-- What is left of the digits, read from v on, is the value of all.
use Rattle.std.proofs.Common.{◌≡◌, ◌<◌, ◌^◌, drop}
use Rattle.reader.specs.Values.{value_of, value_on}
use Rattle.reader.proofs.read_value.Given as goal

abbrev pub invariant-loop-b : goal.invariant-loop-b
invariant-loop-b l = record { fits : l.v < 2 ^ 64; left : value_of l.d ≡ value_on l.v (drop l.b-index l.d) }
