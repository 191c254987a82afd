use Rattle.rev_watch.proofs.HeldLemmas.{strays-below}
use Rattle.rev_watch.proofs.strays.Strays.are_below.Goals as goal

pub returns-in-Some-last_key_value : goal.returns-in-Some-last_key_value
returns-in-Some-last_key_value g c =
    rw (← c.self.view_is, c.in-Some.is)
    (strays-below c.in-Some.tree.entries c.in-Some-last_key_value.last.now c.args.number c.in-Some-last_key_value.ensures.all_up_to)
