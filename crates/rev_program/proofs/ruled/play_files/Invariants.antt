use Rattle.std.proofs.Common.{length}
use Rattle.rev_program.proofs.ruled.play_files.Given as goal

abbrev pub decreases-loop-file : goal.decreases-loop-file
decreases-loop-file g l = length l.rest.items
