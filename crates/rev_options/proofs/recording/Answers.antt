use Rattle.std.proofs.Common.{arith}
use Rattle.rev_options.proofs.recording.Goals as goal

pub returns-clause-range : goal.returns-clause-range
returns-clause-range c = (
  c.config_of-config.ensures,
  grind (arith, c.if-is_empty.ensures, c.in_ok-files.files.ok.0),
  rw (← c.in_ok-files.files.ok.0, ← c.len.ensures) c.if-len-gt-MOST_FILES.false,
)
