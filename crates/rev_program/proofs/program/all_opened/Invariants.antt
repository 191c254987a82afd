use Rattle.std.proofs.Common.{◌≡◌, ◌+◌, ◌++◌, length, map}
use Rattle.rev_program.proofs.program.all_opened.Given as goal

-- the names that are left make up the rest, and the files have those before
abbrev pub invariant-loop-name : goal.invariant-loop-name
invariant-loop-name g l = (length l.files.items + length l.name-iterator.rest.items ≡ length l.fn.names.items)
    × (map (λ file. file.0) l.files.items ++ l.name-iterator.rest.items ≡ l.fn.names.items)
