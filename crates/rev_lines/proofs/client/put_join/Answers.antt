use Rattle.std.proofs.Common.{refl}
use Rattle.rev_lines.proofs.Putting.{lacks, join_has, join_lacks, join_put}
use Rattle.rev_lines.proofs.client.put_join.Goals as goal

pub returns-in-None : goal.returns-in-None
returns-in-None g c = lacks _ _ (join_lacks _ _ _ (c.in-None.ensures.none refl))

pub returns-in_ok-put_side-in-Some : goal.returns-in_ok-put_side-in-Some
returns-in_ok-put_side-in-Some g c =
    let known = c.in-Some.ensures.some in
    join_put _ _ _ _ _ _ _ (join_has _ _ _ c.bytes.ensures.rule known.1) known.0 c.bytes.ensures.same c.in_ok-put_side-in-Some.ensures
