use Rattle.std.proofs.Common.{◌≡◌, ◌++◌, length, option_to_list}
use Rattle.std.specs.List.{filter_map}
use Rattle.std.specs.Option.{option_copied}
use Rattle.rev_watch.specs.Settings.{stat_name, stat_value, whole_lines}
use Rattle.rev_watch.proofs.settings.stat_in.Given as goal

abbrev pub invariant-lines : goal.invariant-lines
invariant-lines l =
    filter_map (stat_value (stat_name l.stat)) (whole_lines l.text)
    ≡ option_to_list (option_copied l.found) ++ filter_map (stat_value (stat_name l.stat)) (whole_lines l.rest)

abbrev pub decreases-lines : goal.decreases-lines
decreases-lines l = length l.rest
