-- An item of a class that takes the place of another: how that reads by the words of replace, and what it removes.
use Rattle.std.specs.Prelude.{ℕ, ◌≡◌, ◌+◌, ◌%◌, ◌^◌, false, List, ◌++◌, Option, None, Some, refl}
use Rattle.std.proofs.Common.{sym, ◌∙◌, ap}
use Rattle.rev_items.specs.Plain.{PlainItem}
use Rattle.rev_model.specs.State.{State}
use Rattle.rev_model.specs.Words.{linked, new_item}
use Rattle.rev_model.specs.declared.ChunkRef.{ChunkRef}
use Rattle.rev_model.specs.declared.Globals.{Globals}
use Rattle.rev_model.specs.declared.Outcome.{Outcome}
use Rattle.rev_model.specs.Client.{Payload, Replaces, bytes_of, class_for, lookup, refusal, removed, rewritten, rewritten_class, rewritten_room, rewritten_old}
use Rattle.rev_model.specs.Causes.{look_removals, found_removals, settled_removals, after_room, after_rewrite, room_removals, store_in_removals, rewrite_in_removals}
use Rattle.rev_model.specs.Pull.{room}
use Rattle.rev_maintainer.proofs.Rooming.{same_globals_room}
use Rattle.rev_commands.specs.Placing.{settled_item, placed, placed_in}
use Rattle.rev_commands.proofs.Placing.{same_frame}
use Rattle.rev_commands.specs.Rewriting.{rewritten_in, named}

-- the class is that of the new item's size
pub rewritten_fits : (s : State) (i : PlainItem) (p : Payload) (gone done : Outcome) (c : ℕ) → class_for s i.key i.flags p ≡ Some c → rewritten_in s c i.key (bytes_of p) i.flags i.moment gone done ≡ rewritten s i p gone done
unfolding rewritten_in
rewritten_fits s i p gone done c e = ap (rewritten_class s i.key (bytes_of p) i.flags i.moment gone done) (sym e)

abbrev named_end : Outcome → Outcome → State × Outcome → State × Outcome
named_end gone done (s, o) = (s, named gone done o)

-- a new item is made of the globals, which room and the lookup leave alone
abbrev made_with : Globals → List ℕ → List ℕ → ℕ → ℕ → PlainItem
made_with g k value flags m = record { key = k; value = value; flags = flags; moment = m; time = g.clock; cas = (g.last_cas + 1) % 2 ^ 64; bits = record { fetched = false; active = false } }

module _ (g : Globals) (c : ℕ) (k value : List ℕ) (flags m : ℕ) (gone done : Outcome) where
  by_old : (x : ChunkRef) (p : State × Option (ChunkRef × PlainItem)) → p.0.globals ≡ g → named_end gone done (settled_item Replaces c x (made_with g k value flags m) p) ≡ rewritten_old c x k value flags m gone done p
  by_old x (s, None) h = refl
  by_old x (s, Some f) h = ap (λ (e : Globals). (linked c x (made_with e k value flags m) (removed (Some f) s), done)) (sym h)

  by_room : (p : State × Option ChunkRef) → p.0.globals ≡ g → named_end gone done (placed Replaces c (made_with g k value flags m) p) ≡ rewritten_room c k value flags m gone done p
  by_room (t, None) h = refl
  by_room (t, Some x) h = by_old x (lookup t k) ((same_frame t (lookup t k).0 k refl).globals ∙ h)

pub rewritten_as : (s t : State) (c : ℕ) (k value : List ℕ) (flags m : ℕ) (gone done o : Outcome) (i : PlainItem) → i ≡ new_item s k value flags m → (t, o) ≡ placed_in s Replaces c i → (t, named gone done o) ≡ rewritten_in s c k value flags m gone done
unfolding rewritten_in placed_in
rewritten_as s t c k value flags m gone done o i is e =
    ap (named_end gone done) (e ∙ ap (λ (j : PlainItem). placed Replaces c j (room s c)) is)
    ∙ by_room s.globals c k value flags m gone done (room s c) (same_globals_room 10 s c).globals

told_found : (o : Option (ChunkRef × PlainItem)) → settled_removals o (refusal Replaces o) ≡ found_removals None o
told_found None = refl
told_found (Some f) = refl

told_room : (k : List ℕ) (p : State × Option ChunkRef) → after_room Replaces k p ≡ after_rewrite k p
told_room k (t, None) = refl
told_room k (t, Some x) = ap (λ l. look_removals t k ++ l) (told_found (lookup t k).1)

pub told_as : (s : State) (c : ℕ) (k : List ℕ) → store_in_removals s Replaces c k ≡ rewrite_in_removals s c k
unfolding store_in_removals rewrite_in_removals
told_as s c k = ap (λ l. room_removals s c ++ l) (told_room k (room s c))
