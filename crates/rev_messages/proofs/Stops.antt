-- What is told of what is imported.
use Rattle.std.proofs.Common.{◌≡◌, ℕ, List, subst}
use Rattle.rev_messages.specs.Stop.{line_told, row_told, stats_told}

-- a line that is none, by other names of its number and of its fault
pub line_by : (P : List ℕ → Type 0) (log n m : List ℕ) (parts ps : List (List ℕ)) → parts ≡ ps → n ≡ m → P (line_told log n parts) → P (line_told log m ps)
line_by P log n m parts ps e f h = subst (λ z. P (line_told log z ps)) f (subst (λ z. P (line_told log n z)) e h)

-- statistics that say too little, by another name of their fault
pub stats_by : (P : List ℕ → Type 0) (file : List ℕ) (parts ps : List (List ℕ)) → parts ≡ ps → P (stats_told file parts) → P (stats_told file ps)
stats_by P file parts ps e h = subst (λ z. P (stats_told file z)) e h

-- a row that is none, by other names of its number and of its fault
pub row_by : (P : List ℕ → Type 0) (trace n m fault other : List ℕ) → fault ≡ other → n ≡ m → P (row_told trace n fault) → P (row_told trace m other)
row_by P trace n m fault other e f h = subst (λ z. P (row_told trace z other)) f (subst (λ z. P (row_told trace n z)) e h)
