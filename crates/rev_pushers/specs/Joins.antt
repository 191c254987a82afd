-- Lists, one behind another.
-- Rule of this project: what is written is put part by part.
use Rattle.std.specs.Prelude.{List, [], ◌∷◌, ◌++◌}

-- lists, one behind another
abbrev pub joined : {X : Type 0} → List (List X) → List X
joined [] = []
joined (x ∷ xs) = x ++ joined xs

-- lists behind a list
abbrev pub behind : {X : Type 0} → List X → List (List X) → List X
behind old [] = old
behind old (x ∷ xs) = behind (old ++ x) xs
