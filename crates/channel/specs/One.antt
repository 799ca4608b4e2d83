-- Of each public operation any two results that its contract allows are equal: for any packet, whatever `none`, `is_none` and `right` are.
use Rattle.std.specs.Prelude.{ℕ, Bool}
use Rattle.rules.specs.declared.Setup.{Setup}
use Rattle.rules.specs.declared.Channel.{Channel}
use Rattle.rules.specs.Parts.{kind, fresh_channel}
use Rattle.rules.specs.Malformed.{malformed_channel}
use Rattle.rules.specs.Operations.{begun, channel_add, channel_take, channel_drop, channel_duplicate, channel_tick, returned, made}
use Rattle.rules.specs.One.{OnlyOne, only_one}

module _ {P : Type 0} (none : P) (is_none : P → Bool) (right : Setup → P → Bool) where
  pub one_fresh : (s : Setup) → OnlyOne (returned (begun (fresh_channel none) s))
  one_fresh s x y = only_one

  module _ (c : Channel P) where
    pub one_malformed : OnlyOne (malformed_channel (kind none is_none) right c)
    one_malformed x y = only_one

    pub one_add : (p : P)
        → OnlyOne (returned (channel_add (kind none is_none) (malformed_channel (kind none is_none) right) c (right c.setup) p))
    one_add p x y = only_one

    pub one_take : (j : ℕ) → OnlyOne (made (channel_take (kind none is_none) (malformed_channel (kind none is_none) right) c j))
    one_take j x y = only_one

    pub one_drop : (j : ℕ) → OnlyOne (returned (channel_drop (kind none is_none) (malformed_channel (kind none is_none) right) c j))
    one_drop j x y = only_one

    pub one_duplicate : (j : ℕ)
        → OnlyOne (returned (channel_duplicate (kind none is_none) (malformed_channel (kind none is_none) right) c j))
    one_duplicate j x y = only_one

    pub one_tick : OnlyOne (returned (channel_tick (kind none is_none) (malformed_channel (kind none is_none) right) c c.setup.life))
    one_tick x y = only_one
