use Rattle.rev_watch.proofs.EventLemmas.{head_is}
use Rattle.rev_watch.proofs.parse.usual_head.Goals as goal

pub returns : goal.returns
returns c =
    let s = c.in_ok-seconds.ensures in
    let m = c.in_ok-microseconds.ensures in
    let g = c.in_ok-gid.ensures in
    head_is c.args.text.now c.in_ok-rest.rest.now c.in_ok-seconds.rest.now c.in_ok-microseconds.rest.now c.in_ok-rest-2.rest.now c.in_ok-gid.rest.now
    c.in_ok-seconds.seconds c.in_ok-microseconds.microseconds c.in_ok-gid.gid
    c.in_ok-rest.ensures s.0 s.1 s.2 m.1 m.2 c.in_ok-rest-2.ensures g.1 g.2
