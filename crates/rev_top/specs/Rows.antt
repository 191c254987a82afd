-- The rows that are told of a table.
-- Rule of this project: at most so many names, all others in one row, where anything happened to them, and the total.
use Rattle.std.specs.Prelude.{ℕ, ◌≡◌, ◌==◌, ◌-◌, ◌^◌, Bool, true, false, if◌then◌else◌, List, [], ◌∷◌, ◌++◌, take, drop, Option, Some, None}
use Rattle.std.specs.List.Sorted.{IsPermutation, IsNonDecreasingBy}
use Rattle.std.specs.declared.vec.Vec.{Vec}
use Rattle.rev_top.specs.Figures.{plus, is_nothing}
use Rattle.rev_top.specs.declared.figures.Figures.{Figures}
use Rattle.rev_top.specs.declared.rows.Name.{Name}
use Rattle.rev_top.specs.declared.rows.Name.TheVariants.{Prefix, Class, Others, Total}
use Rattle.rev_top.specs.declared.rows.Row.{Row}

-- ---- a row of a table

-- the class whose number is the first byte of a name
abbrev pub class_in : List ℕ → Option ℕ
class_in [] = None
class_in (c ∷ cs) = if c == 0 then None else Some c

-- what a name stands for
abbrev pub IsNamed : (by_class : Bool) → List ℕ → Name → Type 0
IsNamed by_class k (Prefix p) = (by_class ≡ false) × (p.now ≡ k)
IsNamed by_class k (Class c) = (by_class ≡ true) × (c ≡ class_in k)
IsNamed by_class k n = ⊥

-- a row for each name of a table, with the name's figures
abbrev pub AreRows : {A : Type 0} → (by_class : Bool) → List (Vec ℕ A × Figures) → List Row → Type 0
AreRows by_class [] [] = Unit {0}
AreRows by_class (e ∷ es) (r ∷ rs) = (IsNamed by_class e.0.items r.name × (r.figures ≡ e.1)) × AreRows by_class es rs
AreRows by_class es rs = ⊥

-- how far a row's evictions are below the most that there can be: rows stand by that, rising
abbrev pub below_most : Row → ℕ
below_most r = 2 ^ 64 - 1 - r.figures.evictions

-- ---- the last rows

-- the sums of rows, and of these figures
abbrev pub sums : List Row → Figures → Figures
sums [] f = f
sums (r ∷ rs) f = sums rs (plus f r.figures)

-- the row of the total, and that of the others
abbrev pub total_row : Figures → Option ℕ → Row
total_row f lived = record { name = Total; figures = f; lived = lived }

abbrev pub others_row : Figures → Row
others_row f = record { name = Others; figures = f; lived = None }

-- the row of the others, where anything happened to them
abbrev pub other_rows : Figures → List Row
other_rows f = if is_nothing f then [] else others_row f ∷ []

-- at most so many rows, and behind them those of the others and of the total
abbrev pub cut : List Row → ℕ → (others total : Figures) → Option ℕ → List Row
cut rows most others total lived = (take most rows ++ other_rows (sums (drop most rows) others)) ++ total_row total lived ∷ []

-- the rows that are told of a table: those of its names, with most evictions first, and the last rows
pub record AreTold {A : Type 0} (by_class : Bool) (entries : List (Vec ℕ A × Figures)) (others total : Figures) (most : ℕ) (rows : List Row) : Type 0 where
  pub all : List Row
  pub ranked : List Row
  pub lived : Option ℕ
  pub are : AreRows by_class entries all
  pub same : IsPermutation all ranked
  pub falling : IsNonDecreasingBy below_most ranked
  pub told : rows ≡ cut ranked most others total lived
