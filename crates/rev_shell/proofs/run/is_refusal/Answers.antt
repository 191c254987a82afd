use Rattle.std.proofs.Common.{sym}
use Rattle.rev_shell.proofs.Refusals.{other_text}
use Rattle.rev_shell.proofs.run.is_refusal.Goals as goal

pub returns-then-text-size-ne115 : goal.returns-then-text-size-ne115
returns-then-text-size-ne115 c = sym (other_text c.args.text.now c.if-text-size-ne115.true)
