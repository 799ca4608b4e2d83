-- A run of events, its answers, and the units that it accepted and delivered.
use Rattle.std.specs.Prelude.{cond, List, [], ◌∷◌, ◌++◌, ℕ, eqb}
use Rattle.rules.specs.declared.Setup.{Setup}
use Rattle.rules.specs.declared.Bench.{Bench}
use Rattle.rules.specs.Numbers.{Arith}
use Rattle.rules.specs.Events.{Out, Event, accept, send, arrive, room, acknowledge, hear, dropd, dropa, dupd, dupa, tick}
use Rattle.rules.specs.Operations.{step}

-- what the caller sees of an event
pub record Said : Type 0 where
  pub answer : ℕ
  pub units : List ℕ

abbrev pub said : {X : Type 0} → Out X → Said
said o = record { answer = o.answer; units = o.units }

module _ (A : Setup → Arith) where
  unfoldable pub run : List Event → Bench → List Said
  run [] b = []
  run (e ∷ es) b = said (step A e b) ∷ run es (step A e b).state

  unfoldable pub final : List Event → Bench → Bench
  final [] b = b
  final (e ∷ es) b = final es (step A e b).state

-- the unit that an event accepted, from its answer
abbrev pub took : Event → ℕ → List ℕ
took (accept u) n = cond (eqb n 0) (u ∷ []) []
took (send k) n = []
took (arrive j l) n = []
took room n = []
took acknowledge n = []
took (hear j) n = []
took (dropd j) n = []
took (dropa j) n = []
took (dupd j) n = []
took (dupa j) n = []
took tick n = []

unfoldable pub accepted : List Event → List Said → List ℕ
accepted [] l = []
accepted (e ∷ es) [] = []
accepted (e ∷ es) (a ∷ l) = took e a.answer ++ accepted es l

unfoldable pub delivered : List Said → List ℕ
delivered [] = []
delivered (a ∷ l) = a.units ++ delivered l
