use Rattle.std.proofs.Common.{◌≡◌, map}
use Rattle.rev_script.specs.Steps.{get}
use Rattle.rev_plays.specs.Replies.{state_of}
use Rattle.rev_plays.specs.Start.{IsShort, run_forward}
use Rattle.rev_plays.proofs.start.play_gets.Given as goal

abbrev pub invariant-loop-key : goal.invariant-loop-key
invariant-loop-key g l = record {
  short : IsShort l.session;
  state : run_forward (state_of l.session) (map get l.key-iterator.rest.items) ≡ run_forward (state_of l.fn.session) (map get l.fn.keys.items);
}
