use Rattle.std.proofs.Common.{◌≡◌, map}
use Rattle.rev_script.specs.Steps.{get}
use Rattle.rev_plays.specs.Replies.{state_of}
use Rattle.rev_plays.specs.Start.{run_forward}
use Rattle.rev_rules.specs.Rules.{IsFresh, counted}
use Rattle.rev_rules.proofs.rules.Rules.play_gets.Given as goal

abbrev pub invariant-loop-key : goal.invariant-loop-key
invariant-loop-key g l = record {
  fresh : IsFresh l.self.session;
  state : run_forward (state_of l.self.session) (map get l.key-iterator.rest.items) ≡ run_forward (state_of l.fn.self.session) (map get l.fn.keys.items);
  steps : counted l.self.steps (map get l.key-iterator.rest.items) ≡ counted l.fn.self.steps (map get l.fn.keys.items);
}
