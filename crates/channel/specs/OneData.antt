-- The same of the data channel: any two results that a contract allows are equal.
use Rattle.std.specs.Prelude.{ℕ, Bool}
use Rattle.rules.specs.declared.Setup.{Setup}
use Rattle.rules.specs.declared.BareData.{BareData}
use Rattle.rules.specs.Numbers.{wrapped}
use Rattle.rules.specs.Parts.{DataChannel, data_channel, no_data, is_no_data, fresh_data_channel}
use Rattle.rules.specs.Malformed.{right_data, malformed_data_channel}
use Rattle.rules.specs.Operations.{begun, channel_add, channel_take, channel_drop, channel_duplicate, channel_tick, returned, made}
use Rattle.rules.specs.One.{OnlyOne}
use Rattle.channel.specs.One as any

abbrev right : Setup → BareData → Bool
right S = right_data (wrapped S) S

pub one_fresh : (s : Setup) → OnlyOne (returned (begun fresh_data_channel s))
one_fresh = any.one_fresh no_data is_no_data right

module _ (c : DataChannel) where
  pub one_malformed : OnlyOne (malformed_data_channel wrapped c)
  one_malformed = any.one_malformed no_data is_no_data right c

  pub one_add : (p : BareData)
      → OnlyOne (returned (channel_add data_channel (malformed_data_channel wrapped) c (right_data (wrapped c.setup) c.setup) p))
  one_add = any.one_add no_data is_no_data right c

  pub one_take : (j : ℕ) → OnlyOne (made (channel_take data_channel (malformed_data_channel wrapped) c j))
  one_take = any.one_take no_data is_no_data right c

  pub one_drop : (j : ℕ) → OnlyOne (returned (channel_drop data_channel (malformed_data_channel wrapped) c j))
  one_drop = any.one_drop no_data is_no_data right c

  pub one_duplicate : (j : ℕ) → OnlyOne (returned (channel_duplicate data_channel (malformed_data_channel wrapped) c j))
  one_duplicate = any.one_duplicate no_data is_no_data right c

  pub one_tick : OnlyOne (returned (channel_tick data_channel (malformed_data_channel wrapped) c c.setup.life))
  one_tick = any.one_tick no_data is_no_data right c
