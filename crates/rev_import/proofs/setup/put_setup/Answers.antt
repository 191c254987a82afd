use Rattle.std.proofs.lemmas.Result.{on_ok_weaker}
use Rattle.rev_import.proofs.Written.{adds_more, setup_writes}
use Rattle.rev_import.proofs.setup.put_setup.Goals as goal

pub returns-clause-lines : goal.returns-clause-lines
returns-clause-lines g c = on_ok_weaker c.put_bound.result (λ b. adds_more c.in_ok-put_tuning.ensures b) c.put_bound.ensures

pub returns-clause-steps : goal.returns-clause-steps
returns-clause-steps g c =
    on_ok_weaker c.put_bound.result (λ b. setup_writes _ _ c.args.setup.now.tune c.args.setup.now.temp_ttl (adds_more c.in_ok-put_tuning.ensures b)) c.put_bound.ensures
