use Rattle.rev_options.proofs.asking.only_character.Goals as goal

pub returns-in-len1 : goal.returns-in-len1
returns-in-len1 g = (g.if-byte-ge33.true, g.if-byte-le126.true)
