use Rattle.std.proofs.Common.{w32}
use Rattle.std.proofs.lemmas.Int.{to_z-of_z}
use Rattle.rev_commands.proofs.dispatch.client.Goals as goal

pub returns-in-Store-clause-step : goal.returns-in-Store-clause-step
returns-in-Store-clause-step g c = rw c.in-Store.is (rw (to_z-of_z w32 c.in-Store.exptime search) at c.store_item.ensures.step)

pub returns-in-Store-clause-told : goal.returns-in-Store-clause-told
returns-in-Store-clause-told g c = rw c.in-Store.is c.store_item.ensures.told
