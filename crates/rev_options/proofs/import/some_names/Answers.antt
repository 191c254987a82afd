use Rattle.rev_options.proofs.import.some_names.Goals as goal

pub returns-then-is_empty : goal.returns-then-is_empty
returns-then-is_empty c = tt
