-- `empty_above` meets its contract: the chain tests the slots past RW as a list of their own.
use Rattle.std.proofs.Common.{rules}
use Rattle.std.proofs.iter.runs.Made.{chains}
use Rattle.sender.proofs.Cases.{empty_from}
use Rattle.sender.proofs.inner.empty_above.Goals as goal

pub returns : goal.returns
returns c = let w = c.args.ring in empty_from c.args.slots.now w.window w.most c.told-slots c.all.result (search (rules, chains))
