use Rattle.std.proofs.Common.{w32}
use Rattle.std.proofs.lemmas.Int.{to_z-of_z}
use Rattle.rev_watch.proofs.EventLemmas.{looked_up, not_looked_up}
use Rattle.rev_watch.proofs.parse.look_up_in.Goals as goal

pub returns-in-Err : goal.returns-in-Err
returns-in-Err g c other =
    let u = c.in-Some.usual in
    not_looked_up c.args.text.now u.key.now u.outcome.now u.class u.connection u.size c.in-Err.fault c.in-Some.ensures (c.in-Err.ensures other)

pub returns-in-Ok : goal.returns-in-Ok
returns-in-Ok g c =
    let u = c.in-Some.usual in
    rw (to_z-of_z w32 u.connection search, c.look_up_outcome.ensures, c.data_beside.ensures)
    (looked_up c.args.text.now u.key.now u.outcome.now u.class u.connection u.size (c.in-Ok.key, c.in-Ok.longer) c.in-Some.ensures c.in-Ok.ensures)
