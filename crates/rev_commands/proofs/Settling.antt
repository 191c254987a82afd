-- What the calls of a storage command come to, and what is told.
use Rattle.std.specs.Prelude.{ℕ, ℤ, ◌≡◌, ◌+◌, ◌%◌, ◌^◌, false, List, [], ◌++◌, Option, None, Some, length, refl}
use Rattle.std.proofs.Common.{sym, ◌∙◌, ap}
use Rattle.rev_items.specs.Plain.{PlainItem}
use Rattle.rev_items.specs.Rules.{moment, footprint}
use Rattle.rev_model.specs.State.{State}
use Rattle.rev_model.specs.Words.{linked, freed, new_item, class_of}
use Rattle.rev_model.specs.Pull.{room}
use Rattle.rev_model.specs.Client.{Verb, lookup, removed, refusal, failed, settled, settled_by, stored_room, stored_class, store, Payload, Bytes}
use Rattle.rev_model.specs.Causes.{look_removals, found_removals, failed_removals, settled_removals, after_room, room_removals, store_in_removals}
use Rattle.rev_model.specs.declared.ChunkRef.{ChunkRef}
use Rattle.rev_model.specs.declared.Globals.{Globals}
use Rattle.rev_model.specs.declared.Outcome.{Outcome}
use Rattle.rev_model.specs.declared.Outcome.TheVariants.{Stored, NoChunk}
use Rattle.rev_maintainer.proofs.Rooming.{same_globals_room}
use Rattle.rev_commands.proofs.Looking.{chunk_of}
use Rattle.rev_commands.specs.Finding.{held}
use Rattle.rev_commands.proofs.Finding.{lookup_is}
use Rattle.rev_commands.specs.Placing.{settled_item_by, settled_item, placed, placed_in, stored_in}
use Rattle.rev_commands.proofs.Placing.{same_frame}

-- ---- by what the lookup of the key leaves and answers, and what the verb says to that

module _ (s t : State) (k : List ℕ) (o : Option ChunkRef) (left : t ≡ (lookup s k).0) (answered : o ≡ chunk_of (lookup s k).1) (v : Verb) (p : Option Outcome) (says : p ≡ refusal v (held t o)) where
  looked : lookup s k ≡ (t, held t o)
  looked = lookup_is s t k o left answered

  settled_by_calls : (c : ℕ) (x : ChunkRef) (i : PlainItem) → settled_item_by c x i (t, held t o) p ≡ settled_item v c x i (lookup s k)
  settled_by_calls c x i = ap (settled_item_by c x i (t, held t o)) says ∙ ap (settled_item v c x i) (sym looked)

  told_by_calls : look_removals s k ++ settled_removals (held t o) p ≡ look_removals s k ++ settled_removals (lookup s k).1 (refusal v (lookup s k).1)
  told_by_calls = ap (λ q. look_removals s k ++ settled_removals (held t o) q) says ∙ ap (λ (r : State × Option (ChunkRef × PlainItem)). look_removals s k ++ settled_removals r.1 (refusal v r.1)) (sym looked)

  pub settled_stored : (c : ℕ) (x : ChunkRef) (i : PlainItem) (u : State) → p ≡ None → u ≡ linked c x i (removed (held t o) t) → (u, Stored) ≡ settled_item v c x i (lookup s k)
  settled_stored c x i u e h = ap (λ w. (w, Stored)) h ∙ ap (settled_item_by c x i (t, held t o)) (sym e) ∙ settled_by_calls c x i

  pub settled_refused : (c : ℕ) (x : ChunkRef) (i : PlainItem) (u : State) (r : Outcome) → p ≡ Some r → u ≡ freed c x t → (u, r) ≡ settled_item v c x i (lookup s k)
  settled_refused c x i u r e h = ap (λ w. (w, r)) h ∙ ap (settled_item_by c x i (t, held t o)) (sym e) ∙ settled_by_calls c x i

  pub told_stored : p ≡ None → look_removals s k ++ found_removals None (held t o) ≡ look_removals s k ++ settled_removals (lookup s k).1 (refusal v (lookup s k).1)
  told_stored e = ap (λ q. look_removals s k ++ settled_removals (held t o) q) (sym e) ∙ told_by_calls

  pub told_refused : (r : Outcome) → p ≡ Some r → look_removals s k ++ [] ≡ look_removals s k ++ settled_removals (lookup s k).1 (refusal v (lookup s k).1)
  told_refused r e = ap (λ q. look_removals s k ++ settled_removals (held t o) q) (sym e) ∙ told_by_calls

-- ---- after room

pub placed_some : (s t : State) (v : Verb) (c : ℕ) (i : PlainItem) (o : Option ChunkRef) (x : ChunkRef) (r : State × Outcome) → (t, o) ≡ room s c → o ≡ Some x → r ≡ settled_item v c x i (lookup t i.key) → r ≡ placed_in s v c i
unfolding placed_in
placed_some s t v c i o x r done some e = e ∙ ap (placed v c i) (ap (λ p. (t, p)) (sym some) ∙ done)

pub placed_none : (s t : State) (v : Verb) (c : ℕ) (i : PlainItem) (o : Option ChunkRef) (k : List ℕ) (r : State × Outcome) → (t, o) ≡ room s c → o ≡ None → k ≡ i.key → r ≡ failed v k NoChunk t → r ≡ placed_in s v c i
unfolding placed_in
placed_none s t v c i o k r done none key e = e ∙ ap (λ l. failed v l NoChunk t) key ∙ ap (placed v c i) (ap (λ p. (t, p)) (sym none) ∙ done)

pub told_some : (s t : State) (v : Verb) (c : ℕ) (k : List ℕ) (o : Option ChunkRef) (x : ChunkRef) → (t, o) ≡ room s c → o ≡ Some x → room_removals s c ++ (look_removals t k ++ settled_removals (lookup t k).1 (refusal v (lookup t k).1)) ≡ store_in_removals s v c k
unfolding store_in_removals
told_some s t v c k o x done some = ap (λ r. room_removals s c ++ after_room v k r) (ap (λ p. (t, p)) (sym some) ∙ done)

pub told_none : (s t : State) (v : Verb) (c : ℕ) (k l : List ℕ) (o : Option ChunkRef) → (t, o) ≡ room s c → o ≡ None → k ≡ l → room_removals s c ++ failed_removals v t k ≡ store_in_removals s v c l
unfolding store_in_removals
told_none s t v c k l o done none key = ap (λ m. room_removals s c ++ failed_removals v t m) key ∙ ap (λ r. room_removals s c ++ after_room v l r) (ap (λ p. (t, p)) (sym none) ∙ done)

-- ---- an item that was made before

-- the globals that an item is made of are the same after room and the lookup
abbrev made_with : Globals → List ℕ → List ℕ → ℕ → ℤ → PlainItem
made_with g k value flags e = record { key = k; value = value; flags = flags; moment = moment g.clock e; time = g.clock; cas = (g.last_cas + 1) % 2 ^ 64; bits = record { fetched = false; active = false } }

settled_made_by : (g : Globals) (c : ℕ) (x : ChunkRef) (k value : List ℕ) (flags : ℕ) (e : ℤ) (t : State) (old : Option (ChunkRef × PlainItem)) (r : Option Outcome) → t.globals ≡ g → settled_item_by c x (made_with g k value flags e) (t, old) r ≡ settled_by c x k value flags e (t, old) r
settled_made_by g c x k value flags e t old None h = ap (λ f. (linked c x (made_with f k value flags e) (removed old t), Stored)) (sym h)
settled_made_by g c x k value flags e t old (Some o) h = refl

settled_made : (g : Globals) (v : Verb) (c : ℕ) (x : ChunkRef) (k value : List ℕ) (flags : ℕ) (e : ℤ) (p : State × Option (ChunkRef × PlainItem)) → p.0.globals ≡ g → settled_item v c x (made_with g k value flags e) p ≡ settled v c x k value flags e p
settled_made g v c x k value flags e (t, old) h = settled_made_by g c x k value flags e t old (refusal v old) h

placed_made : (g : Globals) (v : Verb) (c : ℕ) (k value : List ℕ) (flags : ℕ) (e : ℤ) (p : State × Option ChunkRef) → p.0.globals ≡ g → placed v c (made_with g k value flags e) p ≡ stored_room v c k value flags e p
placed_made g v c k value flags e (t, None) h = refl
placed_made g v c k value flags e (t, Some x) h = settled_made g v c x k value flags e (lookup t k) ((same_frame t (lookup t k).0 k refl).globals ∙ h)

pub stored_as : (s : State) (v : Verb) (c : ℕ) (k value : List ℕ) (flags : ℕ) (e f : ℤ) (i : PlainItem) (r : State × Outcome) → i ≡ new_item s k value flags (moment s.globals.clock f) → f ≡ e → r ≡ placed_in s v c i → r ≡ stored_in s v c k value flags e
unfolding placed_in stored_in
stored_as s v c k value flags e f i r is time done =
    done ∙ ap (λ j. placed v c j (room s c)) is
    ∙ placed_made s.globals v c k value flags f (room s c) (same_globals_room 10 s c).globals
    ∙ ap (λ g. stored_room v c k value flags g (room s c)) time

-- and the class is that of its size
pub stored_by_size : (s : State) (v : Verb) (c : ℕ) (k value : List ℕ) (flags n : ℕ) (e f : ℤ) (d : Payload) (o : Option ℕ) → o ≡ class_of s.fixed (footprint (length k) flags n) → o ≡ Some c → n ≡ length value → f ≡ e → d ≡ Bytes value → stored_in s v c k value flags f ≡ store s v k flags e d
unfolding stored_in
stored_by_size s v c k value flags n e f d o class some size time is =
    let fits : class_of s.fixed (footprint (length k) flags (length value)) ≡ Some c = ap (λ m. class_of s.fixed (footprint (length k) flags m)) (sym size) ∙ sym class ∙ some in
    ap (λ g. stored_room v c k value flags g (room s c)) time
    ∙ ap (stored_class s v k value flags e) (sym fits) ∙ ap (store s v k flags e) (sym is)
