use Rattle.std.proofs.Common.{◌≡◌, drop}
use Rattle.rev_life.specs.Lines.{with_all_ended}
use Rattle.rev_life.proofs.lines.ended_lines.Given as goal

-- what is written, with the lives that are left to write, is all
abbrev pub invariant-loop-life : goal.invariant-loop-life
invariant-loop-life g l = with_all_ended l.lines.items l.key (drop l.life-index l.ended) ≡ with_all_ended l.fn.out.items l.key l.ended
