use Rattle.std.proofs.Common.{◌++◌, codes, ◌∙◌, ap}
use Rattle.std.proofs.lemmas.Result.{IfOk-equal, IfOk-from_err}
use Rattle.rev_model.specs.State.{counter_of}
use Rattle.rev_model.specs.declared.Counter.TheVariants.{MovesToCold, MovesToWarm, MovesWithinLru}
use Rattle.rev_texts.specs.Texts.{counter_text}
use Rattle.rev_views.proofs.Shows.{three}
use Rattle.rev_views.proofs.show.put_moves.Goals as goal

pub returns : goal.returns
returns g c =
    let s = c.args.store.now in
    let k = c.args.class in
    let cold = counter_text (codes "moves_to_cold") (counter_of s k MovesToCold) in
    let warm = counter_text (codes "moves_to_warm") (counter_of s k MovesToWarm) in
    let lru = counter_text (codes "moves_within_lru") (counter_of s k MovesWithinLru) in
    IfOk-equal _ _ _ _ c.put_counter-3.ensures
    (ap (λ t. t ++ lru) (c.in_ok-put_counter-2.ensures ∙ ap (λ t. t ++ warm) c.in_ok-put_counter.ensures)
    ∙ three c.args.answer.now.items cold warm lru)

pub returns-in_err-put_counter : goal.returns-in_err-put_counter
returns-in_err-put_counter g c = IfOk-from_err c.from_residual.result _ c.from_residual.ensures.0

pub returns-in_err-put_counter-2 : goal.returns-in_err-put_counter-2
returns-in_err-put_counter-2 g c = IfOk-from_err c.from_residual-in_err-put_counter-2.result _ c.from_residual-in_err-put_counter-2.ensures.0
