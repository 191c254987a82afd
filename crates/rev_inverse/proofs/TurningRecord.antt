-- A turn in place: from the last change on, each is played and its reverse put where it stood; at the end the record is
-- turned over.
use Rattle.std.specs.Prelude.{ℕ, ◌≡◌, ◌+◌, ◌-◌, ◌<◌, ◌≤◌, List, [], ◌∷◌, ◌++◌, length, slice_index_or, slice_set, take, drop, reverse, zero, suc, refl}
use Rattle.std.proofs.Common.{sym, ◌∙◌, ap, subst, arith}
use Rattle.std.proofs.lemmas.List.{reverse-append, reverse-reverse, length-append, append-nil, append_assoc}
use Rattle.rev_model.specs.State.{State, WellFormed}
use Rattle.rev_model.specs.Move.{Move, moved, Possible, turned, Fits, LeadsBack}
use Rattle.rev_model.specs.Move as move
use Rattle.rev_model.proofs.Undo.{turned_well, turns_back, leads_more}
use Rattle.rev_inverse.specs.Record.{PlainChange, moves_in, notes_in}

-- ---- moves in front of others

pub state-append : (xs ys : List Move) (s : State) → (turned (xs ++ ys) s).0 ≡ (turned xs (turned ys s).0).0
state-append [] ys s = refl
state-append (m ∷ xs) ys s = ap (moved m) (state-append xs ys s)

pub turned-append : (xs ys : List Move) (s : State) → (turned (xs ++ ys) s).1 ≡ (turned ys s).1 ++ (turned xs (turned ys s).0).1
turned-append [] ys s = sym (append-nil (turned ys s).1)
turned-append (m ∷ xs) ys s =
    let u = (turned ys s).0 in
    ap (λ l. l ++ move.reverse m (turned (xs ++ ys) s).0 ∷ []) (turned-append xs ys s)
    ∙ ap (λ t. ((turned ys s).1 ++ (turned xs u).1) ++ move.reverse m t ∷ []) (state-append xs ys s)
    ∙ append_assoc (turned ys s).1 (turned xs u).1 (move.reverse m (turned xs u).0 ∷ [])

pub Fits-append : (xs ys : List Move) (s : State) → Fits (xs ++ ys) s → Fits ys s × Fits xs (turned ys s).0
Fits-append [] ys s f = (f, tt)
Fits-append (m ∷ xs) ys s f =
    let rest = Fits-append xs ys s f.0 in
    (rest.0, (rest.1, subst (Possible m) (state-append xs ys s) f.1))

pub length-turned : (ms : List Move) (s : State) → length (turned ms s).1 ≡ length ms
length-turned [] s = refl
length-turned (m ∷ ms) s =
    let more : length ((turned ms s).1 ++ move.reverse m (turned ms s).0 ∷ []) ≡ length (turned ms s).1 + 1 = length-append (turned ms s).1 (move.reverse m (turned ms s).0 ∷ []) in
    let rest : length (turned ms s).1 ≡ length ms = length-turned ms s in
    omega (arith, more, rest)

-- ---- changes

-- the changes from place p on are played, and these are their reverses
pub record IsTurnedFrom (gs : List PlainChange) (s : State) (p : ℕ) (now : State) (left : List PlainChange) : Type 0 where
  pub done : List PlainChange
  pub within : p ≤ length gs
  pub state : now ≡ (turned (moves_in (drop p gs)) s).0
  pub moves : moves_in done ≡ (turned (moves_in (drop p gs)) s).1
  pub notes : notes_in done ≡ reverse (notes_in (drop p gs))
  pub changes : left ≡ take p gs ++ reverse done

-- what undoes a change
pub record IsBack (g b : PlainChange) (s : State) : Type 0 where
  pub moves : b.moves ≡ (turned g.moves s).1
  pub notes : b.notes ≡ reverse g.notes

take_all : (gs : List PlainChange) → take (length gs) gs ++ [] ≡ gs
take_all [] = refl
take_all (g ∷ gs) = ap (λ l. g ∷ l) (take_all gs)

drop_all : (gs : List PlainChange) → drop (length gs) gs ≡ []
drop_all [] = refl
drop_all (g ∷ gs) = drop_all gs

pub turned_none : (gs : List PlainChange) (s : State) → IsTurnedFrom gs s (length gs) s gs
turned_none gs s = record {
  done = [];
  within = omega arith;
  state = ap (λ l. (turned (moves_in l) s).0) (sym (drop_all gs));
  moves = ap (λ l. (turned (moves_in l) s).1) (sym (drop_all gs));
  notes = ap (λ l. reverse (notes_in l)) (sym (drop_all gs));
  changes = sym (take_all gs);
}

-- the change at a place, and what is behind it
drop_at : (gs : List PlainChange) (p : ℕ) (d : PlainChange) → p < length gs → drop p gs ≡ slice_index_or gs p d ∷ drop (suc p) gs
drop_at [] p d lt = absurd (omega (arith, lt))
drop_at (g ∷ gs) zero d lt = refl
drop_at (g ∷ gs) (suc p) d lt = drop_at gs p d (omega (arith, lt))

front_at : (gs rest : List PlainChange) (p : ℕ) (d : PlainChange) → p < length gs → slice_index_or (take (suc p) gs ++ rest) p d ≡ slice_index_or gs p d
front_at [] rest p d lt = absurd (omega (arith, lt))
front_at (g ∷ gs) rest zero d lt = refl
front_at (g ∷ gs) rest (suc p) d lt = front_at gs rest p d (omega (arith, lt))

front_set : (gs rest : List PlainChange) (p : ℕ) (x : PlainChange) → p < length gs → slice_set (take (suc p) gs ++ rest) p x ≡ take p gs ++ x ∷ rest
front_set [] rest p x lt = absurd (omega (arith, lt))
front_set (g ∷ gs) rest zero x lt = refl
front_set (g ∷ gs) rest (suc p) x lt = ap (λ l. g ∷ l) (front_set gs rest p x (omega (arith, lt)))

Fits-drop : (gs : List PlainChange) (s : State) (p : ℕ) → Fits (moves_in gs) s → Fits (moves_in (drop p gs)) s
Fits-drop gs s zero f = f
Fits-drop [] s (suc p) f = f
Fits-drop (g ∷ gs) s (suc p) f = Fits-drop gs s p (Fits-append g.moves (moves_in gs) s f).0

-- one more change
pub moves-more : (gs : List PlainChange) (b : PlainChange) → moves_in (gs ++ b ∷ []) ≡ moves_in gs ++ b.moves
moves-more [] b = append-nil b.moves
moves-more (g ∷ gs) b = ap (λ l. g.moves ++ l) (moves-more gs b) ∙ sym (append_assoc g.moves (moves_in gs) b.moves)

pub notes-more : (gs : List PlainChange) (b : PlainChange) → notes_in (gs ++ b ∷ []) ≡ notes_in gs ++ b.notes
notes-more [] b = append-nil b.notes
notes-more (g ∷ gs) b = ap (λ l. g.notes ++ l) (notes-more gs b) ∙ sym (append_assoc g.notes (notes_in gs) b.notes)

-- what the code knows of a step of a turn
pub record IsNext (gs : List PlainChange) (s : State) (p : ℕ) (now : State) (left : List PlainChange) (g : PlainChange) : Type 0 where
  pub well : WellFormed now
  pub fits : Fits g.moves now
  pub turned : (b : PlainChange) → IsBack g b now → IsTurnedFrom gs s p (turned g.moves now).0 (slice_set left p b)

next_at : (gs : List PlainChange) (s : State) → WellFormed s → Fits (moves_in gs) s → (p : ℕ) (now : State) (left : List PlainChange) → IsTurnedFrom gs s (suc p) now left → (g : PlainChange) → g ≡ slice_index_or left p g → IsNext gs s p now left g
next_at gs s well fits p now left at g is =
    let lt : p < length gs = omega (arith, at.within) in
    let rest = drop (suc p) gs in
    let same : g ≡ slice_index_or gs p g = is ∙ ap (λ l. slice_index_or l p g) at.changes ∙ front_at gs (reverse at.done) p g lt in
    let e : drop p gs ≡ g ∷ rest = drop_at gs p g lt ∙ ap (λ x. x ∷ rest) (sym same) in
    let f : Fits (g.moves ++ moves_in rest) s = subst (λ l. Fits (moves_in l) s) e (Fits-drop gs s p fits) in
    record {
      well = subst WellFormed (sym at.state) (turned_well (moves_in rest) s well (Fits-drop gs s (suc p) fits));
      fits = subst (Fits g.moves) (sym at.state) (Fits-append g.moves (moves_in rest) s f).1;
      turned = λ b back. record {
        done = at.done ++ b ∷ [];
        within = omega (arith, lt);
        state = ap (λ t. (turned g.moves t).0) at.state ∙ sym (state-append g.moves (moves_in rest) s) ∙ ap (λ l. (turned (moves_in l) s).0) (sym e);
        moves = moves-more at.done b ∙ ap (λ l. l ++ b.moves) at.moves ∙ ap (λ l. (turned (moves_in rest) s).1 ++ l) (back.moves ∙ ap (λ t. (turned g.moves t).1) at.state)
            ∙ sym (turned-append g.moves (moves_in rest) s) ∙ ap (λ l. (turned (moves_in l) s).1) (sym e);
        notes = notes-more at.done b ∙ ap (λ l. l ++ b.notes) at.notes ∙ ap (λ l. reverse (notes_in rest) ++ l) back.notes ∙ sym (reverse-append g.notes (notes_in rest)) ∙ ap (λ l. reverse (notes_in l)) (sym e);
        changes = ap (λ l. slice_set l p b) at.changes ∙ front_set gs (reverse at.done) p b lt ∙ ap (λ l. take p gs ++ l) (sym (reverse-append at.done (b ∷ [])));
      };
    }

pub next : (gs : List PlainChange) (s : State) → WellFormed s → Fits (moves_in gs) s → (q : ℕ) (now : State) (left : List PlainChange) → 0 < q → IsTurnedFrom gs s q now left → (g : PlainChange) → g ≡ slice_index_or left (q - 1) g → IsNext gs s (q - 1) now left g
next gs s well fits q now left pos at g is =
    let e : q ≡ suc (q - 1) = omega arith in
    next_at gs s well fits (q - 1) now left (subst (λ n. IsTurnedFrom gs s n now left) e at) g is

-- what it knows at the end
pub record IsTurnedBack (gs : List PlainChange) (s : State) (now : State) (left : List PlainChange) : Type 0 where
  pub state : now ≡ (turned (moves_in gs) s).0
  pub moves : moves_in (reverse left) ≡ (turned (moves_in gs) s).1
  pub notes : notes_in (reverse left) ≡ reverse (notes_in gs)
  pub length : length (moves_in (reverse left)) ≡ length (moves_in gs)
  pub well : WellFormed now
  pub fits : Fits (moves_in (reverse left)) now
  pub back : turned (moves_in (reverse left)) now ≡ (s, moves_in gs)

pub ended : (gs : List PlainChange) (s : State) → WellFormed s → Fits (moves_in gs) s → (q : ℕ) (now : State) (left : List PlainChange) → q ≤ 0 → IsTurnedFrom gs s q now left → IsTurnedBack gs s now left
ended gs s well fits q now left end from =
    let e : q ≡ 0 = omega arith in
    let at : IsTurnedFrom gs s 0 now left = subst (λ n. IsTurnedFrom gs s n now left) e from in
    let over : reverse left ≡ at.done = ap reverse at.changes ∙ reverse-reverse at.done in
    let moves : moves_in (reverse left) ≡ (turned (moves_in gs) s).1 = ap moves_in over ∙ at.moves in
    let law = turns_back (moves_in gs) s well fits in
    record {
      state = at.state;
      moves = moves;
      notes = ap notes_in over ∙ at.notes;
      length = ap length moves ∙ length-turned (moves_in gs) s;
      well = subst WellFormed (sym at.state) (turned_well (moves_in gs) s well fits);
      fits = subst (Fits (moves_in (reverse left))) (sym at.state) (subst (λ l. Fits l (turned (moves_in gs) s).0) (sym moves) law.fits);
      back = ap (turned (moves_in (reverse left))) at.state ∙ ap (λ l. turned l (turned (moves_in gs) s).0) moves ∙ law.back;
    }

-- ---- a change that is played, and its reverses at the end of a record

pub leads_played : (ms xs : List Move) (s first : State) → WellFormed s → Fits xs s → LeadsBack ms s first → LeadsBack (ms ++ (turned xs s).1) (turned xs s).0 first
leads_played ms [] s first well f leads = subst (λ l. LeadsBack l s first) (sym (append-nil ms)) leads
leads_played ms (m ∷ xs) s first well f leads =
    let t = (turned xs s).0 in
    subst (λ l. LeadsBack l (moved m t) first) (append_assoc ms (turned xs s).1 (move.reverse m t ∷ []))
    (leads_more (ms ++ (turned xs s).1) m t first (turned_well xs s well f.0) f.1 (leads_played ms xs s first well f.0 leads))
