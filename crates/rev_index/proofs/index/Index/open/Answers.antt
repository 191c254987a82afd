use Rattle.std.proofs.Common.{arith, ◌+◌}
use Rattle.rev_index.proofs.Fills.{opened_chained, opened_value}
use Rattle.rev_index.proofs.index.Index.open.Goals as goal

pub invariant_of-result : goal.invariant_of-result
invariant_of-result g c = opened_chained c.in_ok-chains.chains.ends.items c.in_ok-chains.chains.links c.in_ok-items.items (c.args.config.now.pages + 62) c.args.config.now.hash_power c.requires.power (omega arith) c.in_ok-chains.ensures.count c.in_ok-chains.ensures.empty c.in_ok-chains.ensures.away c.in_ok-items.ensures

pub returns : goal.returns
returns g c = opened_value c.in_ok-chains.chains.ends.items c.in_ok-chains.chains.links c.in_ok-items.items (c.args.config.now.pages + 62) c.args.config.now.hash_power c.requires.power (omega arith) c.in_ok-chains.ensures.count c.in_ok-chains.ensures.empty c.in_ok-chains.ensures.away c.in_ok-items.ensures
