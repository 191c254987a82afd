-- A key that a step stores is held after it.
use Rattle.std.specs.Prelude.{ℕ, ℤ, ◌≡◌, Bool, true, false, cond, List, Option, None, Some, is_some, nat_eq, refl}
use Rattle.std.proofs.Common.{sym, ◌∙◌, ap}
use Rattle.std.proofs.lemmas.Bool.{false≢true}
use Rattle.std.specs.Fmt.{decimal}
use Rattle.rev_items.specs.Plain.{PlainItem}
use Rattle.rev_items.specs.Rules.{moment}
use Rattle.rev_model.specs.State.{State, find}
use Rattle.rev_model.specs.Words.{linked, new_item}
use Rattle.rev_model.specs.Pull.{room}
use Rattle.rev_model.specs.Client.{ClientStep, Stores, Joins, Gets, Touches, Deletes, Evicts, Flushes, Counts, Verb, Sets, Adds, Replaces, Cases, Side, Sum, Payload, Bytes, bytes_of, lookup, removed, renewed, class_for, joined, is_number, digits_from, summed, refusal, failed, settled_by, stored_room, stored_class, rewritten_old, rewritten_room, rewritten_class, rewritten, join_found, count_as, count_found, client}
use Rattle.rev_model.specs.Actor.{Step, Client, Pull, Bump, CrawlStart, Crawl, Schedule, Advance, Clock, Tune, TempTtl, step}
use Rattle.rev_model.specs.Track.{held}
use Rattle.rev_model.proofs.Laws.{same_key-self, same_key-exact}
use Rattle.rev_model.specs.Events.{stores, is_stored, is_key}
use Rattle.rev_model.proofs.Fates.{Indexed, key_inserted}
use Rattle.rev_model.proofs.Stages.{found_is}
use Rattle.rev_model.specs.declared.ChunkRef.{ChunkRef}
use Rattle.rev_model.specs.declared.Outcome.{Outcome}
use Rattle.rev_model.specs.declared.Outcome.TheVariants as outcome

-- the key of a new item is held
linked_own : (c : ℕ) (x : ChunkRef) (i : PlainItem) (s : State) → held (linked c x i s) i.key ≡ true
linked_own c x i s = ap is_some (key_inserted s i.key x i.key ∙ ap (λ b. cond b (Some x) (find s i.key)) (same_key-self i.key))

renewed_own : (c : ℕ) (x : ChunkRef) (l value : List ℕ) (flags m : ℕ) (o : Option (ChunkRef × PlainItem)) (s : State) → held (renewed c x l value flags m o s) l ≡ true
renewed_own c x l value flags m o s = linked_own c x (new_item s l value flags m) (removed o s)

-- where the answer is that it was stored, the key is held
abbrev Holds : List ℕ → State × Outcome → Type 0
Holds k r = is_stored r.1 ≡ true → held r.0 k ≡ true

-- another answer
not_stored : (k : List ℕ) (s : State) (o : Outcome) → is_stored o ≡ false → Holds k (s, o)
not_stored k s o e h = absurd (false≢true (sym e ∙ h))

failed_holds : (k : List ℕ) (v : Verb) (l : List ℕ) (o : Outcome) (s : State) → is_stored o ≡ false → Holds k (failed v l o s)
failed_holds k Sets l o s e h = absurd (false≢true (sym e ∙ h))
failed_holds k Adds l o s e h = absurd (false≢true (sym e ∙ h))
failed_holds k Replaces l o s e h = absurd (false≢true (sym e ∙ h))
failed_holds k (Cases n) l o s e h = absurd (false≢true (sym e ∙ h))

abbrev refused : Option Outcome → Bool
refused None = false
refused (Some o) = is_stored o

case_refused : (b : Bool) → refused (cond b None (Some outcome.Exists)) ≡ false
case_refused true = refl
case_refused false = refl

refusal_not : (v : Verb) (o : Option (ChunkRef × PlainItem)) → refused (refusal v o) ≡ false
refusal_not Sets o = refl
refusal_not Adds None = refl
refusal_not Adds (Some f) = refl
refusal_not Replaces None = refl
refusal_not Replaces (Some f) = refl
refusal_not (Cases n) None = refl
refusal_not (Cases n) (Some (x, i)) = case_refused (nat_eq i.cas n)

settled_holds : (c : ℕ) (x : ChunkRef) (l value : List ℕ) (flags : ℕ) (e : ℤ) (r : State × Option (ChunkRef × PlainItem)) (o : Option Outcome) → refused o ≡ false → Holds l (settled_by c x l value flags e r o)
settled_holds c x l value flags e (s, old) None n h = renewed_own c x l value flags (moment s.globals.clock e) old s
settled_holds c x l value flags e (s, old) (Some o) n h = absurd (false≢true (sym n ∙ h))

stored_room_holds : (v : Verb) (c : ℕ) (l value : List ℕ) (flags : ℕ) (e : ℤ) (r : State × Option ChunkRef) → Holds l (stored_room v c l value flags e r)
stored_room_holds v c l value flags e (s, None) = failed_holds l v l outcome.NoChunk s refl
stored_room_holds v c l value flags e (s, Some x) = settled_holds c x l value flags e (lookup s l) (refusal v (lookup s l).1) (refusal_not v (lookup s l).1)

stored_class_holds : (s : State) (v : Verb) (l value : List ℕ) (flags : ℕ) (e : ℤ) (o : Option ℕ) → Holds l (stored_class s v l value flags e o)
stored_class_holds s v l value flags e None = failed_holds l v l outcome.TooLarge s refl
stored_class_holds s v l value flags e (Some c) = stored_room_holds v c l value flags e (room s c)

rewritten_old_holds : (c : ℕ) (x : ChunkRef) (l value : List ℕ) (flags m : ℕ) (gone done : Outcome) → is_stored gone ≡ false → (r : State × Option (ChunkRef × PlainItem)) → Holds l (rewritten_old c x l value flags m gone done r)
rewritten_old_holds c x l value flags m gone done e (s, None) h = absurd (false≢true (sym e ∙ h))
rewritten_old_holds c x l value flags m gone done e (s, Some f) h = renewed_own c x l value flags m (Some f) s

rewritten_room_holds : (c : ℕ) (l value : List ℕ) (flags m : ℕ) (gone done : Outcome) → is_stored gone ≡ false → (r : State × Option ChunkRef) → Holds l (rewritten_room c l value flags m gone done r)
rewritten_room_holds c l value flags m gone done e (s, None) = not_stored l s outcome.NoChunk refl
rewritten_room_holds c l value flags m gone done e (s, Some x) = rewritten_old_holds c x l value flags m gone done e (lookup s l)

rewritten_class_holds : (s : State) (l value : List ℕ) (flags m : ℕ) (gone done : Outcome) → is_stored gone ≡ false → (o : Option ℕ) → Holds l (rewritten_class s l value flags m gone done o)
rewritten_class_holds s l value flags m gone done e None = not_stored l s outcome.TooLarge refl
rewritten_class_holds s l value flags m gone done e (Some c) = rewritten_room_holds c l value flags m gone done e (room s c)

rewritten_holds : (s : State) (i : PlainItem) (p : Payload) (gone done : Outcome) → is_stored gone ≡ false → Holds i.key (rewritten s i p gone done)
rewritten_holds s i p gone done e = rewritten_class_holds s i.key (bytes_of p) i.flags i.moment gone done e (class_for s i.key i.flags p)

join_holds : (l : List ℕ) (side : Side) (p : Payload) (s : State) (o : Option (ChunkRef × PlainItem)) → ((x : ChunkRef) (i : PlainItem) → o ≡ Some (x, i) → i.key ≡ l) → Holds l (join_found side p (s, o))
join_holds l side p s None own h = absurd (false≢true h)
join_holds l side p s (Some (x, i)) own h =
    ap (held (rewritten s i (joined side i.value p) outcome.NotStored outcome.Stored).0) (sym (own x i refl))
    ∙ rewritten_holds s i (joined side i.value p) outcome.NotStored outcome.Stored refl h

count_holds : (l : List ℕ) (side : Sum) (n : ℕ) (s : State) (o : Option (ChunkRef × PlainItem)) → ((x : ChunkRef) (i : PlainItem) → o ≡ Some (x, i) → i.key ≡ l) → Holds l (count_found side n (s, o))
count_holds l side n s None own = not_stored l s outcome.NotFound refl
count_holds l side n s (Some (x, i)) own = go (is_number i.value) where
  go : (b : Bool) → Holds l (cond b (count_as s i (summed side (digits_from 0 i.value) n)) (s, outcome.NotNumber))
  go true h =
      ap (held (count_as s i (summed side (digits_from 0 i.value) n)).0) (sym (own x i refl))
      ∙ rewritten_holds s i (Bytes (decimal (summed side (digits_from 0 i.value) n))) outcome.NotFound (outcome.Number (summed side (digits_from 0 i.value) n)) refl h
  go false h = absurd (false≢true h)

-- a key that was stored is the step's, and the answer is that it was stored
stored_as : (k : List ℕ) (l : Option (List ℕ)) (b : Bool) → is_key k (cond b l None) ≡ true → (is_key k l ≡ true) × (b ≡ true)
stored_as k l true e = (e, refl)
stored_as k l false e = absurd (false≢true e)

own_key : (k l : List ℕ) (r : State × Outcome) → Holds l r → is_key k (cond (is_stored r.1) (Some l) None) ≡ true → held r.0 k ≡ true
own_key k l r h e =
    let w = stored_as k (Some l) (is_stored r.1) e in
    ap (held r.0) (same_key-exact k l w.0) ∙ h w.1

other_key : (k : List ℕ) (r : State × Outcome) → is_key k (cond (is_stored r.1) None None) ≡ true → held r.0 k ≡ true
other_key k r e = absurd (false≢true (stored_as k None (is_stored r.1) e).0)

client_stored : (s : State) → Indexed s → (e : ClientStep) (k : List ℕ) → stores s (Client e) k ≡ true → held (client s e).0 k ≡ true
client_stored s d (Stores v l flags e p) k h = own_key k l (client s (Stores v l flags e p)) (stored_class_holds s v l (bytes_of p) flags e (class_for s l flags p)) h
client_stored s d (Joins side l p) k h = own_key k l (client s (Joins side l p)) (join_holds l side p (lookup s l).0 (lookup s l).1 (λ x i f. (found_is s l d x i f).key)) h
client_stored s d (Counts side l n) k h = own_key k l (client s (Counts side l n)) (count_holds l side n (lookup s l).0 (lookup s l).1 (λ x i f. (found_is s l d x i f).key)) h
client_stored s d (Gets l) k h = other_key k (client s (Gets l)) h
client_stored s d (Touches l e) k h = other_key k (client s (Touches l e)) h
client_stored s d (Deletes l) k h = other_key k (client s (Deletes l)) h
client_stored s d (Evicts l) k h = other_key k (client s (Evicts l)) h
client_stored s d (Flushes n) k h = other_key k (client s (Flushes n)) h

pub stored_held : (s : State) → Indexed s → (e : Step) (k : List ℕ) → stores s e k ≡ true → held (step s e).0 k ≡ true
stored_held s d (Client e) k h = client_stored s d e k h
stored_held s d (Pull c q) k h = other_key k (step s (Pull c q)) h
stored_held s d Bump k h = other_key k (step s Bump) h
stored_held s d (CrawlStart set) k h = other_key k (step s (CrawlStart set)) h
stored_held s d (Crawl c q) k h = other_key k (step s (Crawl c q)) h
stored_held s d (Schedule src dst) k h = other_key k (step s (Schedule src dst)) h
stored_held s d Advance k h = other_key k (step s Advance) h
stored_held s d (Clock n) k h = other_key k (step s (Clock n)) h
stored_held s d (Tune a b c f) k h = other_key k (step s (Tune a b c f)) h
stored_held s d (TempTtl n) k h = other_key k (step s (TempTtl n)) h
