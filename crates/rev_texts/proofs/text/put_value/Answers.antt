use Rattle.std.proofs.lemmas.Result.{IfOk-from_err, on_ok_weaker}
use Rattle.std.proofs.Common.{◌≡◌, ◌++◌, ◌∙◌, codes, decimal, length, subst, ap}
use Rattle.rev_texts.specs.Texts.{output, cas_text}
use Rattle.rev_texts.proofs.Writing.{nine}
use Rattle.rev_texts.proofs.text.put_value.Goals as goal

pub returns-in_err-extend_from_slice : goal.returns-in_err-extend_from_slice
returns-in_err-extend_from_slice g c = IfOk-from_err c.from_residual.result _ c.from_residual.ensures.0

pub returns-in_err-extend_from_slice-2 : goal.returns-in_err-extend_from_slice-2
returns-in_err-extend_from_slice-2 g c = IfOk-from_err c.from_residual-in_err-extend_from_slice-2.result _ c.from_residual-in_err-extend_from_slice-2.ensures.0

pub returns-in_err-extend_from_slice-3 : goal.returns-in_err-extend_from_slice-3
returns-in_err-extend_from_slice-3 g c = IfOk-from_err c.from_residual-in_err-extend_from_slice-3.result _ c.from_residual-in_err-extend_from_slice-3.ensures.0

pub returns-in_err-put_number : goal.returns-in_err-put_number
returns-in_err-put_number g c = IfOk-from_err c.from_residual-in_err-put_number.result _ c.from_residual-in_err-put_number.ensures.0

pub returns-in_err-extend_from_slice-4 : goal.returns-in_err-extend_from_slice-4
returns-in_err-extend_from_slice-4 g c = IfOk-from_err c.from_residual-in_err-extend_from_slice-4.result _ c.from_residual-in_err-extend_from_slice-4.ensures.0

pub returns-in_err-put_number-2 : goal.returns-in_err-put_number-2
returns-in_err-put_number-2 g c = IfOk-from_err c.from_residual-in_err-put_number-2.result _ c.from_residual-in_err-put_number-2.ensures.0

pub returns-in_err-put_cas : goal.returns-in_err-put_cas
returns-in_err-put_cas g c = IfOk-from_err c.from_residual-in_err-put_cas.result _ c.from_residual-in_err-put_cas.ensures.0

pub returns-in_err-extend_from_slice-5 : goal.returns-in_err-extend_from_slice-5
returns-in_err-extend_from_slice-5 g c = IfOk-from_err c.from_residual-in_err-extend_from_slice-5.result _ c.from_residual-in_err-extend_from_slice-5.ensures.0

pub returns : goal.returns
returns g c =
    let i = c.args.item.now in
    let key = subst (λ k. c.extend_from_slice-2.new.self.items ≡ c.extend_from_slice.new.self.items ++ k) (c.bytes.ensures.same ∙ c.key.ensures) c.in_ok-extend_from_slice-2.ensures.items in
    let flags = subst (λ n. c.put_number.new.answer.items ≡ c.extend_from_slice-3.new.self.items ++ decimal n) c.flags.ensures c.in_ok-put_number.ensures in
    let size = subst (λ l. c.put_number-2.new.answer.items ≡ c.extend_from_slice-4.new.self.items ++ decimal (length l)) c.value.ensures c.in_ok-put_number-2.ensures in
    let cas = subst (λ n. c.put_cas.new.answer.items ≡ c.put_number-2.new.answer.items ++ cas_text c.args.with_cas n) c.cas.ensures c.in_ok-put_cas.ensures in
    on_ok_weaker c.put_output.result
    (λ e. nine (codes "VALUE ") i.key (codes " ") (decimal i.flags) (codes " ") (decimal (length i.value)) (cas_text c.args.with_cas i.cas) (codes "\r\n") (output i.value) c.args.answer.now.items _ _ _ _ _ _ _ _ _
    c.in_ok-extend_from_slice.ensures.items key c.in_ok-extend_from_slice-3.ensures.items flags c.in_ok-extend_from_slice-4.ensures.items size cas c.in_ok-extend_from_slice-5.ensures.items
    (e ∙ ap (λ l. c.extend_from_slice-5.new.self.items ++ output l) c.value-2.ensures))
    c.put_output.ensures
