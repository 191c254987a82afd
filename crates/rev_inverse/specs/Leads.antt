-- A record that leads back still does after more moves.
-- Rule of this project: what every call that makes moves keeps of the record.
use Rattle.rev_inverse.specs.Record.{PlainRecord}
use Rattle.rev_model.specs.State.{State}
use Rattle.rev_model.specs.Move.{LeadsBack}

-- wherever the record r led back to from the state s, there the record t leads back to from the state u
abbrev pub Leads : PlainRecord → State → PlainRecord → State → Type 0
Leads r s t u = (first : State) → LeadsBack r.moves s first → LeadsBack t.moves u first
