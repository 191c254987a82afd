use Rattle.std.proofs.Common.{w32}
use Rattle.std.proofs.lemmas.Int.{to_z-of_z}
use Rattle.rev_watch.proofs.EventLemmas.{stored, not_stored}
use Rattle.rev_watch.proofs.parse.store_in.Goals as goal

pub returns-in-Err : goal.returns-in-Err
returns-in-Err g c other =
    let u = c.in-Some.usual in
    not_stored c.args.text.now u.key.now u.outcome.now u.command.now u.ttl u.class u.connection u.size c.in-Err.fault c.in-Some.ensures (c.in-Err.ensures other)

pub returns-in-Ok : goal.returns-in-Ok
returns-in-Ok g c =
    let u = c.in-Some.usual in
    rw (to_z-of_z w32 u.connection search, c.store_command.ensures, c.store_outcome.ensures, c.data_beside.ensures)
    (stored c.args.text.now u.key.now u.outcome.now u.command.now u.ttl u.class u.connection u.size (c.in-Ok.key, c.in-Ok.longer) c.in-Some.ensures c.in-Ok.ensures)
