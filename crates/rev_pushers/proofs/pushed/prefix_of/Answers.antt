use Rattle.std.proofs.Common.{ap, ◌∙◌}
use Rattle.rev_pushers.specs.Pushed.{cut_behind}
use Rattle.rev_pushers.proofs.pushed.prefix_of.Goals as goal

pub returns : goal.returns
returns c = c.cut_behind.ensures ∙ ap (cut_behind c.args.key.now) c.end_in.ensures.place
