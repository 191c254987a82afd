use Rattle.rev_whatif.proofs.setting.Setting.applied_to.Goals as goal

pub returns-in-Err-clause-ok : goal.returns-in-Err-clause-ok
returns-in-Err-clause-ok c = tt

pub returns-in-Err-clause-tune : goal.returns-in-Err-clause-tune
returns-in-Err-clause-tune c = tt
