-- Each public operation's contract allows one result.
use Rattle.std.specs.Prelude.{◌≡◌, ℕ, Bool, Result}
use Rattle.rules.specs.declared.BareAck.{BareAck}
use Rattle.rules.specs.declared.BareData.{BareData}
use Rattle.rules.specs.declared.Refused.{Refused}
use Rattle.rules.specs.declared.Sender.{Sender}
use Rattle.rules.specs.declared.Setup.{Setup}
use Rattle.rules.specs.Numbers.{wrapped}
use Rattle.rules.specs.Parts.{fresh_sender}
use Rattle.rules.specs.Malformed.{malformed_sender}
use Rattle.rules.specs.Operations.{begun, sender_accept, sender_send, sender_hear, sender_tick, returned, made}
use Rattle.rules.specs.One.{only_one}

pub one_fresh : (S : Setup) {x y : Result Sender (Refused Sender)} → x ≡ returned (begun fresh_sender S) → y ≡ returned (begun fresh_sender S) → x ≡ y
one_fresh S = only_one

pub one_malformed : (s : Sender) {x y : Bool} → x ≡ malformed_sender wrapped s → y ≡ malformed_sender wrapped s → x ≡ y
one_malformed s = only_one

pub one_accept : (s : Sender) (u : ℕ) {x y : Result Sender (Refused Sender)} → x ≡ returned (sender_accept s u) → y ≡ returned (sender_accept s u) → x ≡ y
one_accept s u = only_one

pub one_send : (s : Sender) (k : ℕ) {x y : Result (BareData × Sender) (Refused Sender)} → x ≡ made (sender_send s k) → y ≡ made (sender_send s k) → x ≡ y
one_send s k = only_one

pub one_hear : (s : Sender) (p : BareAck) {x y : Result Sender (Refused Sender)} → x ≡ returned (sender_hear s p) → y ≡ returned (sender_hear s p) → x ≡ y
one_hear s p = only_one

pub one_tick : (s : Sender) {x y : Result Sender (Refused Sender)} → x ≡ returned (sender_tick s) → y ≡ returned (sender_tick s) → x ≡ y
one_tick s = only_one
