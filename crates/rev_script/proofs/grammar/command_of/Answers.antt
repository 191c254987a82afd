use Rattle.std.proofs.Common.{map, ◌∙◌, sym, ap, codes}
use Rattle.std.specs.Str.{bytes_eq}
use Rattle.rev_script.proofs.Usual.{command-get}
use Rattle.rev_script.proofs.grammar.command_of.Goals as goal

pub returns-then-is_word-clause-value : goal.returns-then-is_word-clause-value
returns-then-is_word-clause-value c =
    c.retrieval_command.ensures.value
    ∙ command-get (map (λ x. x.now) c.args.words.now) (sym (ap (λ w. bytes_eq w (codes "get")) c.word.ensures) ∙ sym c.is_word.ensures ∙ c.if-is_word.true)
