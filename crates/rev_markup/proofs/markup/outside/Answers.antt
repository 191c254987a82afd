use Rattle.rev_markup.proofs.Safe.{is_safe-escaped, is_safe-escaped_bytes}
use Rattle.rev_markup.proofs.markup.outside.Goals as goal

pub returns-in-Ok-clause-safe : goal.returns-in-Ok-clause-safe
returns-in-Ok-clause-safe c = is_safe-escaped c.in-Ok.text.now

pub returns-in_default-clause-safe : goal.returns-in_default-clause-safe
returns-in_default-clause-safe c = is_safe-escaped_bytes c.args.bytes.now
