use Rattle.std.proofs.Common.{◌++◌, ◌∷◌, [], ◌∙◌, ap, arith}
use Rattle.std.proofs.lemmas.List.{take_all}
use Rattle.rev_explain.specs.Departures.{PlainDeparture}
use Rattle.rev_figures.specs.Asking.{ask_in}
use Rattle.rev_figures.specs.Rows.{leaving_row, leaving_rows}
use Rattle.rev_figures.proofs.Counts.{map_next}
use Rattle.rev_figures.proofs.walk.add_leavings.Goals as goal

pub loop-key-preserved : goal.loop-key-preserved
loop-key-preserved g c =
    map_next (λ (x : PlainDeparture). leaving_row c.args.store.now c.args.step c.args.second x (ask_in c.args.asks.now.keys.entries x.key)) c.args.gone.now c.loop-key.key-index c.key-item.result
    c.args.leavings.now.items c.loop-key.leavings.items c.push.new.self.items (omega (arith, c.loop-key-test.true)) c.key-item.is c.loop-key.invariant
    (c.in_ok-push.ensures.items ∙ ap (λ r. c.loop-key.leavings.items ++ r ∷ []) c.leaving.ensures)

pub returns : goal.returns
returns g c =
    c.loop-key.invariant
    ∙ ap (λ ds. c.args.leavings.now.items ++ leaving_rows c.args.store.now c.args.step c.args.second (λ k. ask_in c.args.asks.now.keys.entries k) ds)
    (take_all c.loop-key.key-index c.args.gone.now (omega (arith, c.loop-key-test.false)))
