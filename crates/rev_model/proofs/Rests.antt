-- What the layers below keep of a record with notes.
use Rattle.std.specs.Prelude.{◌≡◌, ◌+◌, ◌-◌, List, [], ◌∷◌, ◌++◌, Option, None, Some, length, reverse, slice_set, refl, suc}
use Rattle.std.proofs.Common.{◌∙◌, ap, arith}
use Rattle.std.proofs.lemmas.List.{reverse-reverse}
use Rattle.rev_model.specs.State.{State, WellFormed, item_at}
use Rattle.rev_model.specs.Move.{Move, Unbinds, Binds, moved, turned, Ready, Fits}
use Rattle.rev_model.proofs.Undo.{turns_back}
use Rattle.rev_model.specs.declared.ChunkRef.{ChunkRef}
use Rattle.rev_model.specs.declared.Cause.{Cause}
use Rattle.rev_model.specs.Track.{removal, removals}
use Rattle.rev_model.proofs.Notes.{removals-made}

longer : (ns : List (Option Cause)) (m : Option Cause) → length (ns ++ m ∷ []) ≡ length ns + 1
longer [] m = refl
longer (j ∷ js) m = let more : length (js ++ m ∷ []) ≡ length js + 1 = longer js m in omega (arith, more)

-- the note of the last move is set
pub set_last : (ns : List (Option Cause)) (m n : Option Cause) → slice_set (ns ++ m ∷ []) (length (ns ++ m ∷ []) - 1) n ≡ ns ++ n ∷ []
set_last [] m n = refl
set_last (j ∷ js) m n =
    let more : length (js ++ m ∷ []) ≡ suc (length (js ++ m ∷ []) - 1) = omega (arith, longer js m) in
    let e : length (j ∷ (js ++ m ∷ [])) - 1 ≡ suc (length (js ++ m ∷ []) - 1) = omega (arith, more) in
    ap (λ i. slice_set (j ∷ (js ++ m ∷ [])) i n) e ∙ ap (λ l. j ∷ l) (set_last js m n)

-- a removal from the index, noted: what `make(Unbind(x))` and then `note(cause)` leave
pub removal-noted : (ms : List Move) (ns : List (Option Cause)) (x : ChunkRef) (c : Cause) (s : State) → length ns ≡ length ms → WellFormed s → Ready (Unbinds x) s
    → removals (ms ++ Binds x ∷ []) (slice_set (ns ++ None ∷ []) (length (ns ++ None ∷ []) - 1) (Some c)) (moved (Unbinds x) s) ≡ removals ms ns s ++ removal (item_at s x) (Some c)
removal-noted ms ns x c s e well ready = ap (λ l. removals (ms ++ Binds x ∷ []) l (moved (Unbinds x) s)) (set_last ns None (Some c)) ∙ removals-made ms ns (Unbinds x) (Some c) s e well ready

-- `turn` keeps each note with its move: turned twice, the notes are as before
pub record NotedTurn (ms : List Move) (ns : List (Option Cause)) (t : State) : Type 0 where
  pub moves : turned (turned ms t).1 (turned ms t).0 ≡ (t, ms)
  pub notes : reverse (reverse ns) ≡ ns

pub noted_turns_back : (ms : List Move) (ns : List (Option Cause)) (t : State) → WellFormed t → Fits ms t → NotedTurn ms ns t
noted_turns_back ms ns t well fits = record { moves = (turns_back ms t well fits).back; notes = reverse-reverse ns }
