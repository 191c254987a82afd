use Rattle.std.proofs.Common.{w32, arith}
use Rattle.std.proofs.lemmas.Int.{to_z_pos}
use Rattle.rev_watch.proofs.UsualLemmas.{look_up_of}
use Rattle.rev_watch.proofs.usual.usual_look_up.Goals as goal

pub returns : goal.returns
returns c =
    rw (to_z_pos w32 c.in_ok-connection.connection (omega (arith, c.in_ok-connection.ensures.bound))) (look_up_of c.args.text.now c.in_ok-key.key.now c.in_ok-key.rest.now c.in_ok-outcome.outcome.now c.in_ok-outcome.rest.now c.in_ok-class.rest.now c.in_ok-connection.rest.now
    c.in_ok-class.class c.in_ok-connection.connection c.in_ok-size.size
    c.in_ok-key.ensures c.in_ok-outcome.ensures c.in_ok-class.ensures.stands c.in_ok-connection.ensures.stands c.in_ok-size.ensures.stands)
