use Rattle.std.proofs.Common.{length}
use Rattle.rev_program.proofs.parted.play_files.Given as goal

abbrev pub decreases-loop-name : goal.decreases-loop-name
decreases-loop-name g l = length l.rest.items
