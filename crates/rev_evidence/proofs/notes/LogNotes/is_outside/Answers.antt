use Rattle.std.proofs.Common.{ap, sym, ◌∙◌}
use Rattle.std.specs.Prelude.{not}
use Rattle.rev_evidence.specs.Notes.{is_outside, is_outside_of}
use Rattle.rev_evidence.proofs.notes.LogNotes.is_outside.Goals as goal

pub returns-in-Some : goal.returns-in-Some
returns-in-Some g c =
    ap not c.has.ensures
    ∙ sym (ap (λ o. is_outside_of o c.args.key.now) c.in-Some.is)
    ∙ ap (λ n. is_outside n c.args.key.now) c.self.view_is
