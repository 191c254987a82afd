use Rattle.std.proofs.Common.{refl, sym, codes}
use Rattle.rev_options.specs.Request.{asks_top}
use Rattle.rev_options.proofs.FirstWord.{of_first}
use Rattle.rev_options.proofs.asking.asks_top.Goals as goal

pub returns-in-Some : goal.returns-in-Some
returns-in-Some g c =
    rw (c.eq.ensures, c.as_str.ensures)
    (sym (of_first asks_top (codes "top") (λ word words. refl) g.S.AsStr.text c.args.words.now c.in-Some.word.now c.in-Some.ensures.value))
