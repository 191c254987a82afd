-- What a record with notes tells as moves are added to it.
use Rattle.std.specs.Prelude.{◌≡◌, ◌+◌, List, [], ◌∷◌, ◌++◌, Option, length, refl}
use Rattle.std.proofs.Common.{sym, ◌∙◌, ap, subst, arith}
use Rattle.rev_model.specs.State.{State, WellFormed}
use Rattle.rev_model.specs.Move.{Move, moved, reverse, Possible}
use Rattle.rev_model.specs.Track.{Removal, removals, removed}
use Rattle.rev_model.proofs.Notes.{removals-made}
use Rattle.rev_model.specs.declared.Cause.{Cause}
use Rattle.rev_inverse.specs.Record.{PlainRecord}
use Rattle.rev_inverse.specs.Telling.{Tells, TellsAll}

pub append_nil : {X : Type 0} (l : List X) → l ++ [] ≡ l
append_nil [] = refl
append_nil (x ∷ xs) = ap (λ l. x ∷ l) (append_nil xs)

append_more : {X : Type 0} (a b c : List X) → (a ++ b) ++ c ≡ a ++ (b ++ c)
append_more [] b c = refl
append_more (x ∷ xs) b c = ap (λ l. x ∷ l) (append_more xs b c)

length_more : {X : Type 0} (x : X) (l : List X) → length (l ++ x ∷ []) ≡ length l + 1
length_more x [] = refl
length_more x (y ∷ l) = let more : length (l ++ x ∷ []) ≡ length l + 1 = length_more x l in omega (arith, more)

-- nothing was done
pub tells_none : (r : PlainRecord) (s : State) → Tells r s r s []
tells_none r s = record { beside = λ e. e; told = λ e. sym (append_nil (removals r.moves r.notes s)) }

-- one after the other
pub tells_then : (r t v : PlainRecord) (s u w : State) (a b : List Removal) → Tells r s t u a → Tells t u v w b → Tells r s v w (a ++ b)
tells_then r t v s u w a b first next = record {
  beside = λ e. next.beside (first.beside e);
  told = λ e. next.told (first.beside e) ∙ ap (λ l. l ++ b) (first.told e) ∙ append_more (removals r.moves r.notes s) a b;
}

-- where the first removes nothing
pub tells_more : (r t v : PlainRecord) (s u w : State) (b : List Removal) → Tells r s t u [] → Tells t u v w b → Tells r s v w b
tells_more r t v s u w b first next = tells_then r t v s u w [] b first next

-- or the second
pub tells_still : (r t v : PlainRecord) (s u w : State) (a : List Removal) → Tells r s t u a → Tells t u v w [] → Tells r s v w a
tells_still r t v s u w a first next = subst (Tells r s v w) (append_nil a) (tells_then r t v s u w a [] first next)

-- a move, and the note beside its reverse
pub tells_made : (r t : PlainRecord) (m : Move) (n : Option Cause) (s u : State) → WellFormed s → Possible m s → u ≡ moved m s → t.moves ≡ r.moves ++ reverse m s ∷ [] → t.notes ≡ r.notes ++ n ∷ [] → Tells r s t u (removed m n s)
tells_made r t m n s u well possible state moves notes =
    let ls : length t.notes ≡ length r.notes + 1 = ap length notes ∙ length_more n r.notes in
    let lm : length t.moves ≡ length r.moves + 1 = ap length moves ∙ length_more (reverse m s) r.moves in
    record {
      beside = λ e. omega (arith, ls, lm, e);
      told = λ e. ap (λ l. removals l t.notes u) moves ∙ ap (λ l. removals (r.moves ++ reverse m s ∷ []) l u) notes ∙ ap (removals (r.moves ++ reverse m s ∷ []) (r.notes ++ n ∷ [])) state ∙ removals-made r.moves r.notes m n s e well possible.ready;
    }

-- two moves that are kept as one
pub tells_two : (r t : PlainRecord) (a b : Move) (n o : Option Cause) (s u : State) → WellFormed s → Possible a s → Possible b (moved a s) → u ≡ moved b (moved a s)
    → t.moves ≡ r.moves ++ reverse a s ∷ reverse b (moved a s) ∷ [] → t.notes ≡ r.notes ++ n ∷ o ∷ [] → Tells r s t u (removed a n s ++ removed b o (moved a s))
tells_two r t a b n o s u well first next state moves notes =
    let x : PlainRecord = record r { moves = r.moves ++ reverse a s ∷ []; notes = r.notes ++ n ∷ [] } in
    tells_then r x t s (moved a s) u (removed a n s) (removed b o (moved a s))
    (tells_made r x a n s (moved a s) well first refl refl refl)
    (tells_made x t b o (moved a s) u first.after next state
    (moves ∙ sym (append_more r.moves (reverse a s ∷ []) (reverse b (moved a s) ∷ [])))
    (notes ∙ sym (append_more r.notes (n ∷ []) (o ∷ []))))

-- three
pub tells_three : (r t : PlainRecord) (a b c : Move) (n o p : Option Cause) (s u : State) → WellFormed s → Possible a s → Possible b (moved a s) → Possible c (moved b (moved a s)) → u ≡ moved c (moved b (moved a s))
    → t.moves ≡ r.moves ++ reverse a s ∷ reverse b (moved a s) ∷ reverse c (moved b (moved a s)) ∷ [] → t.notes ≡ r.notes ++ n ∷ o ∷ p ∷ [] → Tells r s t u (removed a n s ++ (removed b o (moved a s) ++ removed c p (moved b (moved a s))))
tells_three r t a b c n o p s u well first second third state moves notes =
    let x : PlainRecord = record r { moves = r.moves ++ reverse a s ∷ []; notes = r.notes ++ n ∷ [] } in
    tells_then r x t s (moved a s) u (removed a n s) (removed b o (moved a s) ++ removed c p (moved b (moved a s)))
    (tells_made r x a n s (moved a s) well first refl refl refl)
    (tells_two x t b c o p (moved a s) u first.after second third state
    (moves ∙ sym (append_more r.moves (reverse a s ∷ []) (reverse b (moved a s) ∷ reverse c (moved b (moved a s)) ∷ [])))
    (notes ∙ sym (append_more r.notes (n ∷ []) (o ∷ p ∷ []))))

-- four
pub tells_four : (r t : PlainRecord) (a b c d : Move) (n o p q : Option Cause) (s u : State) → WellFormed s → Possible a s → Possible b (moved a s) → Possible c (moved b (moved a s)) → Possible d (moved c (moved b (moved a s))) → u ≡ moved d (moved c (moved b (moved a s)))
    → t.moves ≡ r.moves ++ reverse a s ∷ reverse b (moved a s) ∷ reverse c (moved b (moved a s)) ∷ reverse d (moved c (moved b (moved a s))) ∷ [] → t.notes ≡ r.notes ++ n ∷ o ∷ p ∷ q ∷ []
    → Tells r s t u (removed a n s ++ (removed b o (moved a s) ++ (removed c p (moved b (moved a s)) ++ removed d q (moved c (moved b (moved a s))))))
tells_four r t a b c d n o p q s u well first second third fourth state moves notes =
    let x : PlainRecord = record r { moves = r.moves ++ reverse a s ∷ []; notes = r.notes ++ n ∷ [] } in
    tells_then r x t s (moved a s) u (removed a n s) (removed b o (moved a s) ++ (removed c p (moved b (moved a s)) ++ removed d q (moved c (moved b (moved a s)))))
    (tells_made r x a n s (moved a s) well first refl refl refl)
    (tells_three x t b c d o p q (moved a s) u first.after second third fourth state
    (moves ∙ sym (append_more r.moves (reverse a s ∷ []) (reverse b (moved a s) ∷ reverse c (moved b (moved a s)) ∷ reverse d (moved c (moved b (moved a s))) ∷ [])))
    (notes ∙ sym (append_more r.notes (n ∷ []) (o ∷ p ∷ q ∷ []))))

pub tells_all : (r t : PlainRecord) (s u : State) (rs : List Removal) → r.moves ≡ [] → r.notes ≡ [] → Tells r s t u rs → TellsAll t u rs
tells_all r t s u rs no_moves no_notes h =
    let e : length r.notes ≡ length r.moves = ap length no_notes ∙ sym (ap length no_moves) in
    record { beside = h.beside e; told = h.told e ∙ ap (λ ms. removals ms r.notes s ++ rs) no_moves }
