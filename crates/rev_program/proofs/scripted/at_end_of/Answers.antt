use Rattle.rev_program.proofs.Grows.{stands_last}
use Rattle.rev_program.proofs.scripted.at_end_of.Goals as goal

pub returns-then-is_whole : goal.returns-then-is_whole
returns-then-is_whole g c = stands_last _ c.args.taken.grown c.standing.result.opened c.requires c.standing.ensures.session c.standing.ensures.told c.standing.ensures.log
