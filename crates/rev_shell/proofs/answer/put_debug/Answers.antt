use Rattle.std.proofs.Common.{◌≡◌, ◌++◌, OnOk, subst}
use Rattle.rev_model.specs.State.{State}
use Rattle.rev_texts.specs.Texts.{counters_text, of_class}
use Rattle.rev_shell.proofs.answer.put_debug.Goals as goal

pub returns-in-Counters-clause-text : goal.returns-in-Counters-clause-text
returns-in-Counters-clause-text g c =
    let n = c.in-Counters.class in
    let P : State → Type 0 = λ s. OnOk c.put_counters.result (c.put_counters.new.answer.items ≡ c.args.out.now.items ++ of_class s n (counters_text s n)) in
    rw c.in-Counters.is (subst P c.store-in-Counters.ensures.state c.put_counters.ensures)
