use Rattle.std.proofs.Common.{ap, ◌∙◌}
use Rattle.rev_figures.specs.Prefixes.{cut_behind}
use Rattle.rev_figures.proofs.prefixes.prefix_of.Goals as goal

pub returns : goal.returns
returns c = c.cut_behind.ensures ∙ ap (cut_behind c.args.key.now) c.colon_in.ensures.place
