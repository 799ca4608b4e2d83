-- `is_malformed` meets its contract: the rest is tested only where the setup is admitted, and a channel that passes is fit.
use Rattle.std.proofs.Common.{sym, ap, ◌∙◌, rules}
use Rattle.std.specs.Prelude.{not}
use mathlib.Core.Bool.{false≢true}
use Rattle.rules.specs.Setups.{◌also◌}
use Rattle.rules.specs.Malformed.{malformed_channel}
use Rattle.rules.proofs.Tests.{passes}
use Rattle.rules.proofs.Channels.{sound_channel}
use Rattle.channel.proofs.is_malformed.Goals as goal
use Rattle.channel.proofs.is_malformed.Goals.{then-admitted, else-admitted}

pub formed-requires : goal.formed-requires
formed-requires g c = search rules

pub returns-clause-is : goal.returns-clause-is
unfolding malformed_channel ◌also◌
returns-clause-is g c =
    elim c.if-admitted.branch [
      | then-admitted w ↦ rw (sym c.admitted.ensures ∙ w.if-admitted.true) (ap not (w.result-is ∙ w.formed.ensures.is))
      | else-admitted w ↦ rw (sym c.admitted.ensures ∙ w.if-admitted.false) (ap not (w.result-is ∙ w.if-admitted.false))
    ]

pub returns-clause-fit : goal.returns-clause-fit
returns-clause-fit g c e =
    let P = g.P.Packet in
    elim c.if-admitted.branch [
      | then-admitted w ↦
          sound_channel P.none P.is_none g.met.P.Packet.only_none P.right _ (w.formed.ensures.long (sym w.result-is ∙ passes _ e))
          (sym (returns-clause-is g c) ∙ e)
      | else-admitted w ↦ absurd (false≢true (sym (w.result-is ∙ w.if-admitted.false) ∙ passes _ e))
    ]
