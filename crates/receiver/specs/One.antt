-- Each public operation's contract allows one result.
use Rattle.std.specs.Prelude.{◌≡◌, ℕ, Bool, List, length, Result}
use Rattle.rules.specs.declared.BareAck.{BareAck}
use Rattle.rules.specs.declared.BareData.{BareData}
use Rattle.rules.specs.declared.Receiver.{Receiver}
use Rattle.rules.specs.declared.Refused.{Refused}
use Rattle.rules.specs.declared.Setup.{Setup}
use Rattle.rules.specs.Numbers.{wrapped}
use Rattle.rules.specs.Rows.{laid}
use Rattle.rules.specs.Parts.{fresh_receiver}
use Rattle.rules.specs.Malformed.{malformed_receiver}
use Rattle.rules.specs.Operations.{begun, receiver_data, receiver_room, receiver_ack, receiver_tick, returned, counted, made}
use Rattle.rules.specs.One.{only_one}

pub one_fresh : (S : Setup) {x y : Result Receiver (Refused Receiver)} → x ≡ returned (begun fresh_receiver S) → y ≡ returned (begun fresh_receiver S) → x ≡ y
one_fresh S = only_one

pub one_malformed : (r : Receiver) {x y : Bool} → x ≡ malformed_receiver wrapped r → y ≡ malformed_receiver wrapped r → x ≡ y
one_malformed r = only_one

-- with the row that it leaves
pub one_data : (r : Receiver) (p : BareData) (row : List ℕ) {x y : Result (ℕ × Receiver) (Refused Receiver)} {u v : List ℕ}
    → (x ≡ counted (receiver_data r p (length row))) × (u ≡ laid (receiver_data r p (length row)).units row)
    → (y ≡ counted (receiver_data r p (length row))) × (v ≡ laid (receiver_data r p (length row)).units row)
    → (x ≡ y) × (u ≡ v)
one_data r p row a b = (only_one a.0 b.0, only_one a.1 b.1)

pub one_room : (r : Receiver) {x y : Result Receiver (Refused Receiver)} → x ≡ returned (receiver_room r) → y ≡ returned (receiver_room r) → x ≡ y
one_room r = only_one

pub one_ack : (r : Receiver) {x y : Result (BareAck × Receiver) (Refused Receiver)} → x ≡ made (receiver_ack r) → y ≡ made (receiver_ack r) → x ≡ y
one_ack r = only_one

pub one_tick : (r : Receiver) {x y : Result Receiver (Refused Receiver)} → x ≡ returned (receiver_tick r) → y ≡ returned (receiver_tick r) → x ≡ y
one_tick r = only_one
