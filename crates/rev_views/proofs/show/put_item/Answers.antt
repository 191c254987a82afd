use Rattle.std.proofs.lemmas.Result.{IfOk-from_err, on_ok_weaker}
use Rattle.std.proofs.Common.{◌≡◌, ◌++◌, ◌∙◌, codes, subst}
use Rattle.rev_texts.specs.Texts.{seat_text, figures_text}
use Rattle.rev_texts.proofs.Writing.{wrote, five}
use Rattle.rev_views.proofs.show.put_item.Goals as goal

pub returns-in_err-extend_from_slice : goal.returns-in_err-extend_from_slice
returns-in_err-extend_from_slice g c = IfOk-from_err c.from_residual.result _ c.from_residual.ensures.0

pub returns-in_err-extend_from_slice-2 : goal.returns-in_err-extend_from_slice-2
returns-in_err-extend_from_slice-2 g c = IfOk-from_err c.from_residual-in_err-extend_from_slice-2.result _ c.from_residual-in_err-extend_from_slice-2.ensures.0

pub returns-in_err-put_seat : goal.returns-in_err-put_seat
returns-in_err-put_seat g c = IfOk-from_err c.from_residual-in_err-put_seat.result _ c.from_residual-in_err-put_seat.ensures.0

pub returns-in_err-put_figures : goal.returns-in_err-put_figures
returns-in_err-put_figures g c = IfOk-from_err c.from_residual-in_err-put_figures.result _ c.from_residual-in_err-put_figures.ensures.0

pub returns : goal.returns
returns g c =
    let i = c.args.item.now in
    let key = subst (λ k. c.extend_from_slice-2.new.self.items ≡ c.extend_from_slice.new.self.items ++ k) (c.bytes.ensures.same ∙ c.key.ensures) c.in_ok-extend_from_slice-2.ensures.items in
    on_ok_weaker c.extend_from_slice-3.result
    (five (codes "ITEM ") i.key (seat_text c.args.store.now c.args.chunk) (figures_text i) (codes "\r\n") c.args.answer.now.items _ _ _ _ _ c.in_ok-extend_from_slice.ensures.items key c.in_ok-put_seat.ensures c.in_ok-put_figures.ensures)
    (wrote c.extend_from_slice-3.result c.put_figures.new.answer.items _ (codes "\r\n") c.extend_from_slice-3.ensures.items)
