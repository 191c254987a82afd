-- One node of the way: what its record tells of a key.
use Rattle.std.specs.Prelude.{ℕ, ◌≡◌, ◌<◌, Bool, true, false, List, Option, None, Some, is_some, length, refl}
use Rattle.std.specs.Option.{option_map}
use Rattle.std.proofs.Common.{sym, ◌∙◌, ap, subst}
use Rattle.std.proofs.lemmas.Bool.{false≢true, true≢false}
use Rattle.rev_model.specs.State.{State, find, owner_of, IsClass}
use Rattle.rev_model.specs.Words.{queue_with}
use Rattle.rev_model.specs.Actor.{Step, step}
use Rattle.rev_model.specs.Sound.{Sound}
use Rattle.rev_model.specs.Track.{held, sits_in, class_queue_in, key_place_at, key_place_of, key_change, leads_or}
use Rattle.rev_model.proofs.Place.{sits_there, seat_told}
use Rattle.rev_model.specs.Events.{stores, event, event_by, other_event, cause_of}
use Rattle.rev_model.proofs.Fates.{indexed_sound}
use Rattle.rev_model.proofs.Storing.{stored_held}
use Rattle.rev_model.specs.declared.Cause.{Cause}
use Rattle.rev_model.specs.declared.ChunkRef.{ChunkRef}
use Rattle.rev_model.specs.declared.EventKind.TheVariants as kind
use Rattle.rev_model.specs.declared.KeyChange.{KeyChange}
use Rattle.rev_model.specs.declared.Outcome.{Outcome}
use Rattle.rev_model.specs.declared.Queue.{Queue}
use Rattle.rev_inverse.specs.Record.{PlainRecord}
use Rattle.rev_edits.proofs.Seats.{item_stands, owner_class}
use Rattle.rev_tree.specs.Steps.{outcome_of}
use Rattle.rev_tree.specs.Rows.{at}
use Rattle.rev_tree.specs.Positions.{SessionState}
use Rattle.rev_tree.specs.Trails.{Trailed}
use Rattle.rev_undotree.proofs.Recalled.{Recalled, Gone, leads_to, cause_told}
use Rattle.rev_explain.specs.Readings.{left_cause}

-- ---- a sound store

-- where the key's chunk stands
pub record Seated (s : State) (x : ChunkRef) : Type 0 where
  pub page : x.page < length s.owner
  pub class : IsClass s.fixed (owner_of s x.page)
  pub there : sits_in s x (owner_of s x.page) (queue_with s (owner_of s x.page) x) ≡ true
  pub told : class_queue_in s x ≡ Some (record { class = owner_of s x.page; queue = queue_with s (owner_of s x.page) x })

pub seated : (s : State) → Sound s → (k : List ℕ) (x : ChunkRef) → find s k ≡ Some x → Seated s x
seated s sound k x e =
    let w = sound.well.index.indexed k x e in
    let c = owner_of s x.page in
    let q = queue_with s (owner_of s x.page) x in
    let stands = item_stands None s sound x w.0 w.1 in
    record {
      page = (sound.well.filled.items x (ap is_some w.1)).0.page;
      class = owner_class None s sound x w.0 w.1;
      there = stands.there;
      told = seat_told s sound.well x (Some (record { class = c; queue = q })) (sits_there s sound.well c q x stands.there);
    }

-- with names for what the code reads
pub place_is : (s : State) → Sound s → (k : List ℕ) (x : ChunkRef) → find s k ≡ Some x → (c : ℕ) → c ≡ owner_of s x.page → (q : Queue) → q ≡ queue_with s c x → Some (record { chunk = x; lru = Some (record { class = c; queue = q }) }) ≡ key_place_of s k
place_is s sound k x e c ce q qe =
    ap (λ j. Some (record { chunk = x; lru = Some (record { class = c; queue = j }) })) qe
    ∙ ap (λ n. Some (record { chunk = x; lru = Some (record { class = n; queue = queue_with s n x }) })) ce
    ∙ ap (λ l. Some (record { chunk = x; lru = l })) (sym (seated s sound k x e).told)
    ∙ ap (key_place_at s) (sym e)

-- ---- a step and its record, by the states at its two ends

pub trail_recalls : (v : SessionState) (d n : ℕ) (e : Step) (o : Outcome) (r : PlainRecord) → (h : Trailed v d n e o r) → Recalled (at v.root v.rows h.row.parent) (at v.root v.rows n) e o r
unfolding outcome_of
trail_recalls v d n e o r h = record { before = h.before; sound = h.sound; stepped = h.stepped; answered = h.answered; leads = h.leads; told = h.told.told }

none_of : {X : Type 0} → (o : Option X) → is_some o ≡ false → o ≡ None
none_of None e = refl
none_of (Some x) e = absurd (true≢false e)

module _ (k : List ℕ) (s t : State) (e : Step) (o : Outcome) (r : PlainRecord) (h : Recalled s t e o r) where
  -- a key that is gone was not stored
  not_stored : find t k ≡ None → stores s e k ≡ false
  not_stored none = go (stores s e k) refl where
    go : (b : Bool) → stores s e k ≡ b → b ≡ false
    go false f = refl
    go true f = absurd (false≢true (sym (ap (λ u. held u k) (sym h.stepped) ∙ ap is_some none) ∙ stored_held s (indexed_sound None s h.before) e k f))

  -- the event where the key is gone after the step
  gone_event : find t k ≡ None → event s e k ≡ other_event (key_place_of s k) None (cause_of s e k)
  gone_event none =
      ap (λ b. event_by b (key_place_of s k) (key_place_of (step s e).0 k) (cause_of s e k)) (not_stored none)
      ∙ ap (λ p. other_event (key_place_of s k) p (cause_of s e k)) (ap (λ u. key_place_of u k) (sym h.stepped) ∙ ap (key_place_at t) none)

  -- what a node tells of a key that is not held at it
  abbrev pub Learns : Option Cause → Type 0
  Learns None = (held s k ≡ false) × (event s e k ≡ None)
  Learns (Some c) = event s e k ≡ Some (kind.Left c)

  was_none : find t k ≡ None → find s k ≡ None → Learns None
  was_none none was = (ap is_some was, gone_event none ∙ ap (λ p. other_event p None (cause_of s e k)) (ap (key_place_at s) was))

  was_some : find t k ≡ None → (x : ChunkRef) (n : Option Cause) → find s k ≡ Some x → Gone k s t e o r h n → Learns n
  was_some none x n was g =
      subst Learns (sym g.1)
      (gone_event none ∙ ap (λ p. other_event p None (cause_of s e k)) (ap (key_place_at s) was) ∙ ap (option_map (λ c. kind.Left c)) g.2)

  learn_at : find t k ≡ None → (l : Option ChunkRef) (n : Option Cause) → key_change k None r.moves r.notes ≡ Some (record { leads = l; note = n }) → Learns (left_cause (Some (record { leads = l; note = n })))
  learn_at none None n turn = was_none none (leads_to k s t e o r h none ∙ ap (leads_or None) turn)
  learn_at none (Some x) n turn =
      let was : find s k ≡ Some x = leads_to k s t e o r h none ∙ ap (leads_or None) turn in
      was_some none x n was (cause_told k s t e o r h none x n turn was)

  learn : find t k ≡ None → (u : Option KeyChange) → key_change k None r.moves r.notes ≡ u → Learns (left_cause u)
  learn none None turn = was_none none (leads_to k s t e o r h none ∙ ap (leads_or None) turn)
  learn none (Some u) turn = learn_at none u.leads u.note turn

  pub left_at : held t k ≡ false → Learns (left_cause (key_change k None r.moves r.notes))
  left_at gone = learn (none_of (find t k) gone) (key_change k None r.moves r.notes) refl
