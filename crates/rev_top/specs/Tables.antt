-- A table of figures: those of each name.
-- Rule of this project: at most 4096 names are told apart. What is said of another name is counted among the others.
use Rattle.std.specs.Prelude.{ℕ, Bool, ◌||◌, nat_lt, cond, List, length, is_some}
use Rattle.std.specs.Map.{lookup}
use Rattle.std.specs.Option.{unwrap_or}
use Rattle.std.specs.Str.{bytes_eq}
use Rattle.std.specs.declared.vec.Vec.{Vec}
use Rattle.rev_top.specs.Figures.{nothing, counted}
use Rattle.rev_top.specs.declared.facts.Fact.{Fact}
use Rattle.rev_top.specs.declared.figures.Figures.{Figures}

-- the figures of a name, by the entries of a table
abbrev pub figures_in : {A : Type 0} → List (Vec ℕ A × Figures) → List ℕ → Figures
figures_in entries k = unwrap_or (lookup (λ e. bytes_eq k e.items) entries) nothing

-- a name is told apart
abbrev pub has_room : {A : Type 0} → List (Vec ℕ A × Figures) → List ℕ → Bool
has_room entries k = is_some (lookup (λ e. bytes_eq k e.items) entries) || nat_lt (length entries) 4096

-- the figures of name k, where another name, or this one, was given some
abbrev pub put_in : {A : Type 0} → List (Vec ℕ A × Figures) → List ℕ → Figures → List ℕ → Figures
put_in entries name f k = cond (bytes_eq k name) f (figures_in entries k)

-- the same where a fact of the name was counted
abbrev pub noted_in : {A : Type 0} → List (Vec ℕ A × Figures) → List ℕ → Fact → List ℕ → Figures
noted_in entries name fact k = cond (has_room entries name) (put_in entries name (counted fact (figures_in entries name)) k) (figures_in entries k)

-- the figures of the others then
abbrev pub others_noted : {A : Type 0} → List (Vec ℕ A × Figures) → List ℕ → Fact → Figures → Figures
others_noted entries name fact f = cond (has_room entries name) f (counted fact f)
