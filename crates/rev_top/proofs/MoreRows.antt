-- Rows of a table, with one more.
use Rattle.std.proofs.Common.{◌≡◌, ℕ, ◌+◌, Bool, List, [], ◌∷◌, ◌++◌, take, Some}
use Rattle.std.proofs.lemmas.List.{take_more}
use Rattle.std.proofs.lemmas.Option.{slice_get_within, get_or_from_slice_get}
use Rattle.std.specs.List.{slice_get}
use Rattle.std.specs.declared.vec.Vec.{Vec}
use Rattle.rev_top.specs.Rows.{IsNamed, AreRows}
use Rattle.rev_top.specs.declared.figures.Figures.{Figures}
use Rattle.rev_top.specs.declared.rows.Row.{Row}

-- a row more for a name more
rows_more : {A : Type 0} (b : Bool) (es : List (Vec ℕ A × Figures)) (rs : List Row) (e : Vec ℕ A × Figures) (r : Row) → AreRows b es rs → IsNamed b e.0.items r.name × (r.figures ≡ e.1) → AreRows b (es ++ e ∷ []) (rs ++ r ∷ [])
rows_more b [] [] e r h is = (is, tt)
rows_more b (x ∷ es) (s ∷ rs) e r h is = (h.0, rows_more b es rs e r h.1 is)
rows_more b [] (s ∷ rs) e r h is = absurd h
rows_more b (x ∷ es) [] e r h is = absurd h

-- the rows of the names so far, with that of the next one
pub rows_on : {A : Type 0} (b : Bool) (es : List (Vec ℕ A × Figures)) (i : ℕ) (rs new : List Row) (e : Vec ℕ A × Figures) (r : Row) (k : List ℕ) →
    AreRows b (take i es) rs → slice_get es i ≡ Some e → k ≡ e.0.items → IsNamed b k r.name → r.figures ≡ e.1 → new ≡ rs ++ r ∷ [] → AreRows b (take (i + 1) es) new
rows_on b es i rs new e r k h at is named f s =
    let named_so : IsNamed b e.0.items r.name = rw is at named in
    rw (s, take_more es i e (slice_get_within es i e at), get_or_from_slice_get es i e e at) (rows_more b (take i es) rs e r h (named_so, f))
