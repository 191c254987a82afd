use Rattle.std.proofs.Common.{length, is_some, not, ◌&&◌, ◌==◌, ap, ◌∙◌}
use Rattle.rev_evidence.specs.Notes.{is_none}
use Rattle.rev_evidence.proofs.notes.LogNotes.is_none.Goals as goal

pub returns : goal.returns
returns g c = c.says_nothing.ensures ∙ ap (λ moments. (length moments == 0) && not (is_some c.self.inside.since)) c.as_slice.ensures.value ∙ ap is_none c.self.view_is
