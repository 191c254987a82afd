-- What a step is counted as.
-- Rule of this project: a look-up is a get or a touch; it hits where it finds its key's item alive.
use Rattle.std.specs.Prelude.{ℕ, Bool, true, false, cond, List, Option, None, Some, is_some}
use Rattle.rev_model.specs.Actor.{Step, Client}
use Rattle.rev_model.specs.Client.{Stores, Joins, Gets, Touches, Deletes, Counts}
use Rattle.rev_model.specs.Events.{stored_key}
use Rattle.rev_model.specs.declared.Outcome.{Outcome}
use Rattle.rev_model.specs.declared.Outcome.TheVariants as outcome
use Rattle.rev_figures.specs.declared.path.StepKind.{StepKind}
use Rattle.rev_figures.specs.declared.path.StepKind.TheVariants as kind

-- the key of a client's command; an item goes by `~evict` since a log says so, and no client asks for it
abbrev pub command_key : Step → Option (List ℕ)
command_key (Client (Stores v k flags e d)) = Some k
command_key (Client (Joins side k d)) = Some k
command_key (Client (Gets k)) = Some k
command_key (Client (Touches k e)) = Some k
command_key (Client (Deletes k)) = Some k
command_key (Client (Counts side k d)) = Some k
command_key e = None

-- a get or a touch
abbrev pub is_look_up : Step → Bool
is_look_up (Client (Gets k)) = true
is_look_up (Client (Touches k e)) = true
is_look_up e = false

-- the answers of a look-up that found its key's item
abbrev pub has_found : Outcome → Bool
has_found (outcome.Hit n c) = true
has_found outcome.Touched = true
has_found o = false

-- of a step that stored nothing
abbrev pub look_up_kind : Step → Outcome → StepKind
look_up_kind e o = cond (is_look_up e) (cond (has_found o) kind.Hit kind.Miss) kind.Other

-- what a step that answered this is counted as
abbrev pub kind_of : Step → Outcome → StepKind
kind_of e o = cond (is_some (stored_key e o)) kind.Stored (look_up_kind e o)
