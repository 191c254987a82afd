-- What a map of keys tells of the look-ups that missed a key.
-- Rule of this project: a key that has none is in no entry.
use Rattle.std.specs.Prelude.{ℕ, List}
use Rattle.std.specs.Map.{lookup}
use Rattle.std.specs.Option.{unwrap_or}
use Rattle.std.specs.Str.{bytes_eq}
use Rattle.std.specs.declared.vec.Vec.{Vec}
use Rattle.rev_figures.specs.Asks.{no_ask}
use Rattle.rev_figures.specs.declared.asks.Ask.{Ask}

-- the look-ups of a key by the entries of a map
abbrev pub ask_in : {A : Type 0} → List (Vec ℕ A × Ask) → List ℕ → Ask
ask_in entries k = unwrap_or (lookup (λ e. bytes_eq k e.items) entries) no_ask
