use Rattle.rev_messages.proofs.stop.tell_classes.Goals as goal

pub returns-clause-told : goal.returns-clause-told
returns-clause-told g c = rw (c.name.ensures, c.help.ensures, c.name-2.ensures, c.help-2.ensures, c.name-3.ensures, c.help-3.ensures) at c.tell_parts.ensures.told

pub returns-clause-ok : goal.returns-clause-ok
returns-clause-ok g c = rw (c.name.ensures, c.help.ensures, c.name-2.ensures, c.help-2.ensures, c.name-3.ensures, c.help-3.ensures) at c.tell_parts.ensures.ok
