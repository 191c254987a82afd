use Rattle.std.proofs.Common.{◌≡◌, ◌++◌, OnOk, subst, rules, false, true}
use Rattle.std.proofs.lemmas.Result.{on_ok_weaker}
use Rattle.rev_texts.proofs.Topics.{none-known, some-known}
use Rattle.rev_texts.proofs.help.put_help_on.Goals as goal

pub returns-then-not-is_known : goal.returns-then-not-is_known
returns-then-not-is_known g c =
    let off : c.is_known.result ≡ false = search rules in
    subst (λ t. OnOk c.put_output.result (c.put_output.new.answer.items ≡ c.args.out.now.items ++ t))
    (none-known c.args.word.now _ _ c.is_known.ensures c.topics-topics.ensures off) c.put_output.ensures

pub returns : goal.returns
returns g c =
    let on : c.is_known.result ≡ true = search rules in
    on_ok_weaker c.put_output-2.result
    (some-known c.args.word.now _ _ c.is_known.ensures c.topics-topics.ensures on c.args.out.now.items _ _ c.in_ok-put_topics.ensures) c.put_output-2.ensures
