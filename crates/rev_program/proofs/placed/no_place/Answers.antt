use Rattle.std.proofs.Common.{◌∙◌, ap, inl, refl}
use Rattle.rev_program.specs.Placed.{by_logs, with_never}
use Rattle.rev_program.proofs.placed.no_place.Goals as goal

pub returns-in_ok-add_never-in-Gone : goal.returns-in_ok-add_never-in-Gone
returns-in_ok-add_never-in-Gone c =
    rw c.in-Gone.is
    (record {
      key = _;
      is_sought = refl;
      how = by_logs;
      is_how = inl refl;
      notes = c.args.notes.now.items;
      text_is = c.in_ok-add_never-in-Gone.ensures ∙ ap (λ key. with_never by_logs c.args.notes.now.items key) c.as_str.ensures.value;
    })
