use Rattle.std.proofs.Common.{◌≡◌, fold, map, take}
use Rattle.rev_requests.specs.Plain.{plain_step}
use Rattle.rev_whatif.specs.Trials.{tried}
use Rattle.rev_whatif.proofs.run.Run.play_all.Given as goal

abbrev pub invariant-loop-step : goal.invariant-loop-step
invariant-loop-step l = l.self ≡ fold tried l.fn.self (map (λ step. plain_step step.now) (take l.step-index l.steps))
