use Rattle.std.proofs.Common.{refl, sym, codes}
use Rattle.rev_options.specs.Request.{asks_why}
use Rattle.rev_options.proofs.FirstWord.{of_first}
use Rattle.rev_options.proofs.asking.asks_why.Goals as goal

pub returns-in-Some : goal.returns-in-Some
returns-in-Some g c =
    rw (c.eq.ensures, c.as_str.ensures)
    (sym (of_first asks_why (codes "why") (λ word words. refl) g.S.AsStr.text c.args.words.now c.in-Some.word.now c.in-Some.ensures.value))
