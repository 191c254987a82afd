use Rattle.rev_transcript.proofs.Walking.{Walked}
use Rattle.rev_transcript.proofs.path.put_path.Given as goal

abbrev pub invariant-loop-depth : goal.invariant-loop-depth
invariant-loop-depth g l = Walked l.session l.depth l.fn.out.items l.out.items l.all_told
