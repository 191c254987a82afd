use Rattle.std.proofs.Common.{subst, sym}
use Rattle.rev_model.specs.Move.{LeadsBack}
use Rattle.rev_model.proofs.Undo.{leads_none}
use Rattle.rev_inverse.specs.Record.{PlainRecord}
use Rattle.rev_steps.proofs.globals.exchange.Goals as goal

pub returns-clause-leads : goal.returns-clause-leads
returns-clause-leads g c =
    let s = c.args.store.now in
    c.change.ensures.leads s (subst (λ (r : PlainRecord). LeadsBack r.moves s s) (sym c.in_ok-undo.ensures) (leads_none s))
