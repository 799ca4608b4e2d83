-- The same of the acknowledgement channel: any two results that a contract allows are equal.
use Rattle.std.specs.Prelude.{ℕ, Bool}
use Rattle.rules.specs.declared.Setup.{Setup}
use Rattle.rules.specs.declared.BareAck.{BareAck}
use Rattle.rules.specs.Numbers.{wrapped}
use Rattle.rules.specs.Parts.{AckChannel, ack_channel, no_ack, is_no_ack, fresh_ack_channel}
use Rattle.rules.specs.Malformed.{right_ack, malformed_ack_channel}
use Rattle.rules.specs.Operations.{begun, channel_add, channel_take, channel_drop, channel_duplicate, channel_tick, returned, made}
use Rattle.rules.specs.One.{OnlyOne}
use Rattle.channel.specs.One as any

abbrev right : Setup → BareAck → Bool
right S = right_ack (wrapped S) S

pub one_fresh : (s : Setup) → OnlyOne (returned (begun fresh_ack_channel s))
one_fresh = any.one_fresh no_ack is_no_ack right

module _ (c : AckChannel) where
  pub one_malformed : OnlyOne (malformed_ack_channel wrapped c)
  one_malformed = any.one_malformed no_ack is_no_ack right c

  pub one_add : (p : BareAck)
      → OnlyOne (returned (channel_add ack_channel (malformed_ack_channel wrapped) c (right_ack (wrapped c.setup) c.setup) p))
  one_add = any.one_add no_ack is_no_ack right c

  pub one_take : (j : ℕ) → OnlyOne (made (channel_take ack_channel (malformed_ack_channel wrapped) c j))
  one_take = any.one_take no_ack is_no_ack right c

  pub one_drop : (j : ℕ) → OnlyOne (returned (channel_drop ack_channel (malformed_ack_channel wrapped) c j))
  one_drop = any.one_drop no_ack is_no_ack right c

  pub one_duplicate : (j : ℕ) → OnlyOne (returned (channel_duplicate ack_channel (malformed_ack_channel wrapped) c j))
  one_duplicate = any.one_duplicate no_ack is_no_ack right c

  pub one_tick : OnlyOne (returned (channel_tick ack_channel (malformed_ack_channel wrapped) c c.setup.life))
  one_tick = any.one_tick no_ack is_no_ack right c
