use Rattle.std.proofs.Common.{◌≡◌, map, take, option_to_list}
use Rattle.std.specs.Option.{option_copied}
use Rattle.rev_watch.specs.Field.{name_of}
use Rattle.rev_watch.specs.Words.{values}
use Rattle.rev_watch.proofs.fields.optional_in.Given as goal

abbrev pub invariant-loop-word : goal.invariant-loop-word
invariant-loop-word l =
    values (name_of l.fn.field) (map (λ w. w.now) (take l.word-index l.fields)) ≡ option_to_list (option_copied l.found)
