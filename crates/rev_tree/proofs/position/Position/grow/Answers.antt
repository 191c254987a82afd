use Rattle.std.proofs.Common.{◌∙◌, ap}
use Rattle.rev_tree.specs.Index.{noted, forgotten}
use Rattle.rev_tree.proofs.Indexes.{noted_code, forgotten_noted}
use Rattle.rev_tree.proofs.position.Position.grow.Goals as goal

pub returns-in-Ok-clause-notes : goal.returns-in-Ok-clause-notes
returns-in-Ok-clause-notes g c =
    let i = c.args.self.now in
    noted_code i.index c.hang.new.self.index _ c.number-parent.result i.way.items c.hang.new.self.way.items c.next_fork-fork.result
    (c.in-Ok.ensures.index ∙ c.in_ok-note.ensures.ok) c.number-parent.ensures c.in-Ok.ensures.way

pub returns-in-Err-clause-index : goal.returns-in-Err-clause-index
returns-in-Err-clause-index g c =
    let i = c.args.self.now.index in
    let fork = c.next_fork-fork.result in
    c.forget.ensures
    ∙ ap (λ z. forgotten z c.is_some.result) (c.in-Err.ensures.index ∙ c.in_ok-note.ensures.ok)
    ∙ ap (λ z. forgotten (noted i c.number-parent.result fork) z) c.is_some.ensures
    ∙ forgotten_noted i c.number-parent.result fork
