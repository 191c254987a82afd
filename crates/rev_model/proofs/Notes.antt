-- What a record's notes tell of a key, and which removals a move adds to a record.
use Rattle.std.specs.Prelude.{ℕ, ◌≡◌, Bool, false, cond, List, [], ◌∷◌, ◌++◌, Option, None, Some, is_some, length, refl}
use Rattle.std.proofs.Common.{sym, ◌∙◌, ap, inl, inr, arith}
use Rattle.std.proofs.lemmas.Bool.{cases_Bool, false≢true}
use Rattle.std.specs.FinMap as map
use Rattle.rev_items.specs.Plain.{PlainItem}
use Rattle.rev_model.specs.State.{State, WellFormed, item_at, find}
use Rattle.rev_model.specs.Move.{Move, MarksIn, MarksOut, Takes, Puts, Fills, Touches, Binds, Unbinds, Lays, Lifts, Counts, Sets, BumpsIn, BumpsBack, BumpsOut, BumpsFront, Shifts, moved, reverse, out_of, back_of, Ready, turned, Fits}
use Rattle.rev_model.proofs.Undo.{turned-push, undo}
use Rattle.rev_model.specs.declared.ChunkRef.{ChunkRef}
use Rattle.rev_model.specs.declared.BumpEntry.{BumpEntry}
use Rattle.rev_model.specs.declared.Listed.TheVariants.{InFree, InQueue}
use Rattle.rev_model.specs.declared.Placed.TheVariants.{ToFree, ToQueue}
use Rattle.rev_model.specs.declared.Cause.{Cause}
use Rattle.rev_model.specs.declared.KeyChange.{KeyChange}
use Rattle.rev_model.specs.Track.{has_key, keyed, first_note, more_notes, key_change, leads_or, shift_change, Removal, removal, removals, removed}
use Rattle.rev_model.proofs.Track.{first_removal}
use Rattle.rev_model.proofs.Laws.{Agrees, keyed-is, home-is, unbound_content}
use Rattle.rev_model.proofs.Place.{key_item}

first_removal-more : (k : List ℕ) (o : Option PlainItem) (n : Option Cause) (rs : List Removal) → first_removal k (removal o n ++ rs) ≡ cond (has_key k o) (Some n) (first_removal k rs)
first_removal-more k None n rs = refl
first_removal-more k (Some i) n rs = refl

abbrev leads_of : Option KeyChange → Bool
leads_of None = false
leads_of (Some t) = is_some t.leads

abbrev note_of : Option KeyChange → Option Cause
note_of None = None
note_of (Some t) = t.note

abbrev item_or : PlainItem → Option PlainItem → PlainItem
item_or d None = d
item_or d (Some i) = i

-- a key that was shifted had a turn before
shift_note : (z : ChunkRef) (o : Option KeyChange) (y : ChunkRef) (n : Option Cause) (r : Option (Option Cause)) → leads_or None o ≡ Some y → (shift_change z o).note ≡ n → ((m : Option Cause) → o ≡ Some (record { leads = Some y; note = m }) → r ≡ Some m) → r ≡ Some n
shift_note z None y n r led e h = absurd (false≢true (ap is_some led))
shift_note z (Some u) y n r led e h = h u.note (ap (λ l. Some (record { leads = l; note = u.note })) led) ∙ ap Some e

-- what the record tells of a key that it leads back to is the note of the key's first removal
pub noted-is : (k : List ℕ) (ms : List Move) (ns : List (Option Cause)) (t : State) → Agrees k None t → find t k ≡ None → Fits ms t → (x : ChunkRef) (n : Option Cause) → key_change k None ms ns ≡ Some (record { leads = Some x; note = n }) → first_removal k (removals ms ns t) ≡ Some n
noted-is k [] ns t a g f x n h = absurd (false≢true (ap leads_of h))
noted-is k (Binds y ∷ ms) ns t a g f x n h =
    first_removal-more k (item_at (turned ms t).0 y) (first_note ns) (removals ms (more_notes ns) t)
    ∙ ap (λ b. cond b (Some (first_note ns)) (first_removal k (removals ms (more_notes ns) t))) (keyed-is k None ms t a y)
    ∙ elim (cases_Bool (keyed k None ms y)) as (λ _. cond (keyed k None ms y) (Some (first_note ns)) (first_removal k (removals ms (more_notes ns) t)) ≡ Some n) [
      | inl e ↦ rw e (ap (λ u. Some (note_of u)) (rw e at h))
      | inr e ↦ rw e (noted-is k ms (more_notes ns) t a g f.0 x n (rw e at h))
    ]
noted-is k (Shifts y z ∷ ms) ns t a g f x n h = elim (cases_Bool (keyed k None ms y)) [
  | inl e ↦
      let w = key_item k (item_at (turned ms t).0 y) (keyed-is k None ms t a y ∙ e) in
      let same : w.0 ≡ f.1.ready.0 = ap (item_or w.0) (sym w.1 ∙ f.1.ready.1) in
      let there : find (turned ms t).0 k ≡ Some y = ap (find (turned ms t).0) (w.2 ∙ ap (λ (i : PlainItem). i.key) same) ∙ f.1.ready.2 in
      let led : leads_or None (key_change k None ms (more_notes ns)) ≡ Some y = sym (home-is k None ms (more_notes ns) t a g) ∙ there in
      shift_note z (key_change k None ms (more_notes ns)) y n (first_removal k (removals ms (more_notes ns) t)) led (ap note_of (rw e at h)) (λ m u. noted-is k ms (more_notes ns) t a g f.0 y m u)
  | inr e ↦ noted-is k ms (more_notes ns) t a g f.0 x n (rw e at h)
]
noted-is k (Unbinds y ∷ ms) ns t a g f x n h = elim (cases_Bool (keyed k None ms y)) [
  | inl e ↦ absurd (false≢true (ap leads_of (rw e at h)))
  | inr e ↦ noted-is k ms (more_notes ns) t a g f.0 x n (rw e at h)
]
noted-is k (Lays p c m o ∷ ms) ns t a g f x n h = noted-is k ms (more_notes ns) t a g f.0 x n h
noted-is k (Lifts p o ∷ ms) ns t a g f x n h = noted-is k ms (more_notes ns) t a g f.0 x n h
noted-is k (Fills y o ∷ ms) ns t a g f x n h = noted-is k ms (more_notes ns) t a g f.0 x n h
noted-is k (Touches y v ∷ ms) ns t a g f x n h = noted-is k ms (more_notes ns) t a g f.0 x n h
noted-is k (Takes l ∷ ms) ns t a g f x n h = noted-is k ms (more_notes ns) t a g f.0 x n h
noted-is k (Puts l ∷ ms) ns t a g f x n h = noted-is k ms (more_notes ns) t a g f.0 x n h
noted-is k (Counts c j v ∷ ms) ns t a g f x n h = noted-is k ms (more_notes ns) t a g f.0 x n h
noted-is k (Sets w ∷ ms) ns t a g f x n h = noted-is k ms (more_notes ns) t a g f.0 x n h
noted-is k (BumpsIn b ∷ ms) ns t a g f x n h = noted-is k ms (more_notes ns) t a g f.0 x n h
noted-is k (BumpsBack ∷ ms) ns t a g f x n h = noted-is k ms (more_notes ns) t a g f.0 x n h
noted-is k (BumpsOut ∷ ms) ns t a g f x n h = noted-is k ms (more_notes ns) t a g f.0 x n h
noted-is k (BumpsFront b ∷ ms) ns t a g f x n h = noted-is k ms (more_notes ns) t a g f.0 x n h
noted-is k (MarksIn set ∷ ms) ns t a g f x n h = noted-is k ms (more_notes ns) t a g f.0 x n h
noted-is k (MarksOut set ∷ ms) ns t a g f x n h = noted-is k ms (more_notes ns) t a g f.0 x n h

append_nil : {X : Type 0} (l : List X) → l ++ [] ≡ l
append_nil [] = refl
append_nil (x ∷ xs) = ap (λ l. x ∷ l) (append_nil xs)

append_more : {X : Type 0} (a b c : List X) → a ++ (b ++ c) ≡ (a ++ b) ++ c
append_more [] b c = refl
append_more (x ∷ xs) b c = ap (λ l. x ∷ l) (append_more xs b c)

removals_behind : (ms : List Move) (ns : List (Option Cause)) (r : Move) (n : Option Cause) (t : State) → length ns ≡ length ms → removals (ms ++ r ∷ []) (ns ++ n ∷ []) t ≡ removals ms ns (moved r t) ++ removals (r ∷ []) (n ∷ []) t
removals_behind [] [] r n t e = refl
removals_behind [] (j ∷ js) r n t e = absurd (omega (arith, e))
removals_behind (m ∷ ms) [] r n t e = absurd (omega (arith, e))
removals_behind (Binds y ∷ ms) (j ∷ js) r n t e =
    ap (λ (u : State × List Move). removal (item_at u.0 y) j ++ removals (ms ++ r ∷ []) (js ++ n ∷ []) t) (turned-push ms r t)
    ∙ ap (λ l. removal (item_at (turned ms (moved r t)).0 y) j ++ l) (removals_behind ms js r n t (omega (arith, e)))
    ∙ append_more (removal (item_at (turned ms (moved r t)).0 y) j) (removals ms js (moved r t)) (removals (r ∷ []) (n ∷ []) t)
removals_behind (Shifts y z ∷ ms) (j ∷ js) r n t e = removals_behind ms js r n t (omega (arith, e))
removals_behind (Unbinds y ∷ ms) (j ∷ js) r n t e = removals_behind ms js r n t (omega (arith, e))
removals_behind (Lays p c k f ∷ ms) (j ∷ js) r n t e = removals_behind ms js r n t (omega (arith, e))
removals_behind (Lifts p f ∷ ms) (j ∷ js) r n t e = removals_behind ms js r n t (omega (arith, e))
removals_behind (Fills y o ∷ ms) (j ∷ js) r n t e = removals_behind ms js r n t (omega (arith, e))
removals_behind (Touches y v ∷ ms) (j ∷ js) r n t e = removals_behind ms js r n t (omega (arith, e))
removals_behind (Takes l ∷ ms) (j ∷ js) r n t e = removals_behind ms js r n t (omega (arith, e))
removals_behind (Puts l ∷ ms) (j ∷ js) r n t e = removals_behind ms js r n t (omega (arith, e))
removals_behind (Counts c k v ∷ ms) (j ∷ js) r n t e = removals_behind ms js r n t (omega (arith, e))
removals_behind (Sets g ∷ ms) (j ∷ js) r n t e = removals_behind ms js r n t (omega (arith, e))
removals_behind (BumpsIn b ∷ ms) (j ∷ js) r n t e = removals_behind ms js r n t (omega (arith, e))
removals_behind (BumpsBack ∷ ms) (j ∷ js) r n t e = removals_behind ms js r n t (omega (arith, e))
removals_behind (BumpsOut ∷ ms) (j ∷ js) r n t e = removals_behind ms js r n t (omega (arith, e))
removals_behind (BumpsFront b ∷ ms) (j ∷ js) r n t e = removals_behind ms js r n t (omega (arith, e))
removals_behind (MarksIn set ∷ ms) (j ∷ js) r n t e = removals_behind ms js r n t (omega (arith, e))
removals_behind (MarksOut set ∷ ms) (j ∷ js) r n t e = removals_behind ms js r n t (omega (arith, e))

back_none : (l : List BumpEntry) (n : Option Cause) (t : State) → removals (back_of l ∷ []) (n ∷ []) t ≡ []
back_none [] n t = refl
back_none (b ∷ bs) n t = refl

out_none : (l : List BumpEntry) (n : Option Cause) (t : State) → removals (out_of l ∷ []) (n ∷ []) t ≡ []
out_none [] n t = refl
out_none (b ∷ bs) n t = refl

one_removal : (m : Move) (n : Option Cause) (s : State) → removals (reverse m s ∷ []) (n ∷ []) (moved m s) ≡ removed m n s
one_removal (Unbinds x) n s = append_nil (removal (item_at (moved (Unbinds x) s) x) n) ∙ ap (λ c. removal (map.get c x) n) (unbound_content (item_at s x) s)
one_removal (Shifts x y) n s = refl
one_removal (Binds x) n s = refl
one_removal (Takes (InFree c x)) n s = refl
one_removal (Takes (InQueue c q e)) n s = refl
one_removal (Puts (ToFree c x a)) n s = refl
one_removal (Puts (ToQueue c q e a)) n s = refl
one_removal (Fills x o) n s = refl
one_removal (Touches x t) n s = refl
one_removal (Lays p c k f) n s = refl
one_removal (Lifts p f) n s = refl
one_removal (Counts c k v) n s = refl
one_removal (Sets g) n s = refl
one_removal (BumpsIn b) n s = refl
one_removal BumpsBack n s = back_none s.bump n (moved BumpsBack s)
one_removal BumpsOut n s = out_none s.bump n (moved BumpsOut s)
one_removal (BumpsFront b) n s = refl
one_removal (MarksIn set) n s = refl
one_removal (MarksOut set) n s = refl

pub removals-made : (ms : List Move) (ns : List (Option Cause)) (m : Move) (n : Option Cause) (s : State) → length ns ≡ length ms → WellFormed s → Ready m s → removals (ms ++ reverse m s ∷ []) (ns ++ n ∷ []) (moved m s) ≡ removals ms ns s ++ removed m n s
removals-made ms ns m n s e well ready =
    removals_behind ms ns (reverse m s) n (moved m s) e
    ∙ ap (λ u. removals ms ns u ++ removals (reverse m s ∷ []) (n ∷ []) (moved m s)) (undo m s well ready).back
    ∙ ap (λ l. removals ms ns s ++ l) (one_removal m n s)
