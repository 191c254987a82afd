use Rattle.std.proofs.Common.{sym, ◌∙◌, ap}
use Rattle.rev_lead.specs.Acts.{state_of_stage}
use Rattle.rev_lead.specs.Agrees.{is_stored_as}
use Rattle.rev_lead.proofs.driver.Driver.put_alone.Goals as goal

pub returns-clause-agrees : goal.returns-clause-agrees
returns-clause-agrees g c = λ e.
    let d = c.in_ok-outcome.ensures.done in record {
      act = d.0;
      stores = d.1;
      after_is = d.2;
      alike = ap (λ o. is_stored_as (state_of_stage c.put.new.stage) c.args.key.now c.args.storing.class c.args.storing.outcome o) (sym d.3) ∙ sym c.is_stored_as-is_alike.ensures ∙ c.agrees_if.ensures e;
    }
