-- Of each public operation any two results that its contract allows are equal; of `data` and `apply` the lent row too.
use Rattle.std.specs.Prelude.{ℕ, List, length}
use Rattle.rules.specs.declared.Setup.{Setup}
use Rattle.rules.specs.declared.Bench.{Bench}
use Rattle.rules.specs.declared.Event as asked
use Rattle.rules.specs.Numbers.{wrapped}
use Rattle.rules.specs.Rows.{laid}
use Rattle.rules.specs.Parts.{fresh_bench}
use Rattle.rules.specs.Malformed.{malformed_bench}
use Rattle.rules.specs.Events.{Event, arrive}
use Rattle.rules.specs.Asked.{event_of}
use Rattle.rules.specs.Operations.{begun, step, returned, counted}
use Rattle.rules.specs.One.{OnlyOne, only_one}

pub one_fresh : (s : Setup) → OnlyOne (returned (begun fresh_bench s))
one_fresh s x y = only_one

module _ (b : Bench) where
  pub one_malformed : OnlyOne (malformed_bench wrapped b)
  one_malformed x y = only_one

  -- accept, send, room, ack, hear, dropd, dropa, dupd, dupa and tick: each is the step of its event
  pub one_event : (e : Event) → OnlyOne (returned (step wrapped e b))
  one_event e x y = only_one

  module _ (row : List ℕ) where
    pub one_data : (j : ℕ) → OnlyOne (counted (step wrapped (arrive j (length row)) b))
    one_data j x y = only_one

    pub one_data_row : (j : ℕ) → OnlyOne (laid (step wrapped (arrive j (length row)) b).units row)
    one_data_row j x y = only_one

    pub one_apply : (e : asked.Event) → OnlyOne (counted (step wrapped (event_of e (length row)) b))
    one_apply e x y = only_one

    pub one_apply_row : (e : asked.Event) → OnlyOne (laid (step wrapped (event_of e (length row)) b).units row)
    one_apply_row e x y = only_one
