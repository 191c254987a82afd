-- What the ways of `why` and of `story` up to the root keep at each node.
use Rattle.std.specs.Prelude.{ℕ, ◌≡◌, ◌-◌, ◌<◌, ◌≤◌, Bool, false, ◌&&◌, List, [], ◌∷◌, ◌++◌, Option, None, Some, is_some, length, reverse, refl}
use Rattle.std.proofs.Common.{sym, ◌∙◌, ap, arith, subst}
use Rattle.std.proofs.lemmas.List.{reverse-append, append_assoc, append-nil}
use Rattle.rev_model.specs.State.{State, find}
use Rattle.rev_model.specs.Actor.{Step}
use Rattle.rev_model.specs.Track.{held, key_place_at, key_place_of, chunk_of, key_change, key_place_before}
use Rattle.rev_model.specs.Events.{is_key, stored_key, event, event_by}
use Rattle.rev_model.specs.declared.Cause.{Cause}
use Rattle.rev_model.specs.declared.ChunkRef.{ChunkRef}
use Rattle.rev_model.specs.declared.EventKind.{EventKind}
use Rattle.rev_model.specs.declared.KeyChange.{KeyChange}
use Rattle.rev_model.specs.declared.KeyPlace.{KeyPlace}
use Rattle.rev_model.specs.declared.Outcome.{Outcome}
use Rattle.rev_inverse.specs.Record.{PlainRecord}
use Rattle.rev_tree.specs.Rows.{RowsFall, at}
use Rattle.rev_tree.specs.Machine.{lineage}
use Rattle.rev_tree.specs.Positions.{SessionState}
use Rattle.rev_tree.specs.Trails.{Trailed}
use Rattle.rev_undotree.proofs.Recalled.{was_at, tells_at}
use Rattle.rev_tree.specs.Mentioned.{IsStill}
use Rattle.rev_explain.specs.Readings.{note_of, left_cause}
use Rattle.rev_explain.specs.Story.{told, events_along, story, left_or, last_left}
use Rattle.rev_explain.specs.declared.events.Event.{Event}
use Rattle.rev_explain.specs.declared.events.Why.{Why}
use Rattle.rev_explain.specs.declared.events.Why.TheVariants as why
use Rattle.rev_explain.proofs.Nodes.{trail_recalls, Learns, left_at}
use Rattle.rev_explain.proofs.Climbs.{Climbs, climb_starts, climbs, node_state, story_more, skips}

-- ---- why

last_left-more : (w : Why) (xs ys : List Event) → last_left w (xs ++ ys) ≡ last_left (last_left w xs) ys
last_left-more w [] ys = refl
last_left-more w (x ∷ xs) ys = last_left-more (left_or w x.node x.kind) xs ys

-- the key is not held at this node, and its story above tells where it last left
pub record Searching (v : SessionState) (k : List ℕ) (d : ℕ) : Type 0 where
  pub climb : Climbs v d
  pub gone : held (at v.root v.rows climb.node) k ≡ false
  pub rest : last_left why.Never (story v.root v.rows v.current k) ≡ last_left why.Never (story v.root v.rows climb.node k)

pub search_starts : (v : SessionState) (k : List ℕ) → find (at v.root v.rows v.current) k ≡ None → Searching v k (length (lineage v.rows v.current))
search_starts v k e = record { climb = climb_starts v; gone = ap is_some e; rest = refl }

-- what has a place is there
place_held : (s : State) (p : Option ChunkRef) → is_some (key_place_at s p) ≡ is_some p
place_held s None = refl
place_held s (Some x) = refl

-- a key that stands where it stood is held where it was held
same_held : (s t : State) (k : List ℕ) → key_place_of s k ≡ key_place_of t k → held s k ≡ held t k
same_held s t k e = sym (place_held s (find s k)) ∙ ap is_some e ∙ place_held t (find t k)

-- up over nodes at which nothing befell the key
pub search_skip : (v : SessionState) (k : List ℕ) (low high : ℕ) → RowsFall v.rows → Searching v k high → low ≤ high → IsStill v k low high → Searching v k low
search_skip v k low high falls s l still =
    let up = skips v falls k low high s.climb l still in
    record {
      climb = up.climb;
      gone = sym (same_held (at v.root v.rows s.climb.node) (at v.root v.rows up.climb.node) k up.place_same) ∙ s.gone;
      rest = s.rest ∙ ap (last_left why.Never) up.told_same;
    }

module _ (v : SessionState) (k : List ℕ) (d n : ℕ) (e : Step) (o : Outcome) (r : PlainRecord) (at_node : Searching v k d) (pos : 0 < d) (h : Trailed v d n e o r) where
  learned : Learns k (at v.root v.rows h.row.parent) (at v.root v.rows n) e o r (trail_recalls v d n e o r h) (left_cause (key_change k None r.moves r.notes))
  learned =
      left_at k (at v.root v.rows h.row.parent) (at v.root v.rows n) e o r (trail_recalls v d n e o r h)
      (ap (λ u. held u k) (sym (node_state v d n e o r at_node.climb pos h)) ∙ at_node.gone)

  story_here : last_left why.Never (story v.root v.rows v.current k) ≡ last_left (last_left why.Never (story v.root v.rows h.row.parent k)) (told n (event (at v.root v.rows h.row.parent) e k))
  story_here =
      at_node.rest ∙ ap (last_left why.Never) (story_more v d n e o r at_node.climb pos h k)
      ∙ last_left-more why.Never (story v.root v.rows h.row.parent k) (told n (event (at v.root v.rows h.row.parent) e k))

  pub search_more : left_cause (key_change k None r.moves r.notes) ≡ None → Searching v k (d - 1)
  search_more f =
      let none = subst (Learns k (at v.root v.rows h.row.parent) (at v.root v.rows n) e o r (trail_recalls v d n e o r h)) f learned in
      record {
        climb = climbs v d n e o r at_node.climb pos h;
        gone = none.0;
        rest = story_here ∙ ap (λ x. last_left (last_left why.Never (story v.root v.rows h.row.parent k)) (told n x)) none.1;
      }

  pub search_found : (c : Cause) → left_cause (key_change k None r.moves r.notes) ≡ Some c → why.Left (record { 0 = n }) c ≡ last_left why.Never (story v.root v.rows v.current k)
  search_found c f =
      let some = subst (Learns k (at v.root v.rows h.row.parent) (at v.root v.rows n) e o r (trail_recalls v d n e o r h)) f learned in
      sym (story_here ∙ ap (λ x. last_left (last_left why.Never (story v.root v.rows h.row.parent k)) (told n x)) some)

no_nodes : (l : List ℕ) → length l ≡ 0 → l ≡ []
no_nodes [] e = refl
no_nodes (x ∷ xs) e = absurd (omega (arith, e))

pub search_ends : (v : SessionState) (k : List ℕ) (d : ℕ) → Searching v k d → d ≡ 0 → why.Never ≡ last_left why.Never (story v.root v.rows v.current k)
search_ends v k d h e = sym (h.rest ∙ ap (λ l. last_left why.Never (events_along v.root v.rows k l)) (no_nodes (lineage v.rows h.climb.node) (h.climb.deep ∙ e)))

-- ---- story

reverse_told : (n : ℕ) (c : Option EventKind) (es : List Event) → reverse (es ++ told n c) ≡ told n c ++ reverse es
reverse_told n None es = ap reverse (append-nil es)
reverse_told n (Some c) es = reverse-append es (record { node = record { 0 = n }; kind = c } ∷ [])

-- the key is here at this node, and the events below it are told, the last one first
pub record Telling (v : SessionState) (k : List ℕ) (d : ℕ) (place : Option KeyPlace) (es : List Event) : Type 0 where
  pub climb : Climbs v d
  pub placed : place ≡ key_place_of (at v.root v.rows climb.node) k
  pub so_far : story v.root v.rows v.current k ≡ story v.root v.rows climb.node k ++ reverse es

pub tell_starts : (v : SessionState) (k : List ℕ) (place : Option KeyPlace) (es : List Event) → place ≡ key_place_of (at v.root v.rows v.current) k → es ≡ [] → Telling v k (length (lineage v.rows v.current)) place es
tell_starts v k place es p e = record {
  climb = climb_starts v;
  placed = p;
  so_far = sym (append-nil (story v.root v.rows v.current k)) ∙ ap (λ l. story v.root v.rows v.current k ++ reverse l) (sym e);
}

-- up over nodes at which nothing befell the key
pub tell_skip : (v : SessionState) (k : List ℕ) (low high : ℕ) (place : Option KeyPlace) (es : List Event) → RowsFall v.rows → Telling v k high place es → low ≤ high → IsStill v k low high → Telling v k low place es
tell_skip v k low high place es falls w l still =
    let up = skips v falls k low high w.climb l still in
    record {
      climb = up.climb;
      placed = w.placed ∙ up.place_same;
      so_far = w.so_far ∙ ap (λ s. s ++ reverse es) up.told_same;
    }

-- with names for what the code computes
pub tell_more : (v : SessionState) (k : List ℕ) (d n : ℕ) (e : Step) (o : Outcome) (r : PlainRecord) (place : Option KeyPlace) (es : List Event) → Telling v k d place es → 0 < d → Trailed v d n e o r
    → (change : Option KeyChange) → change ≡ key_change k (chunk_of place) r.moves r.notes
    → (before : Option KeyPlace) → before ≡ key_place_before k r.moves r.notes place
    → (stored : Bool) → stored ≡ is_key k (stored_key e o)
    → (found : Option EventKind) → found ≡ event_by stored before place (note_of change)
    → (more : List Event) → more ≡ es ++ told n found
    → Telling v k (d - 1) before more
tell_more v k d n e o r place es w pos h change ce before be stored se found fe more me =
    let s = at v.root v.rows h.row.parent in
    let t = at v.root v.rows n in
    let recalls = trail_recalls v d n e o r h in
    let here : place ≡ key_place_of (at v.root v.rows n) k = w.placed ∙ ap (λ u. key_place_of u k) (node_state v d n e o r w.climb pos h) in
    let is : event (at v.root v.rows h.row.parent) e k ≡ found =
    tells_at k s t e o r recalls place here
    ∙ ap (λ b. event_by b (key_place_before k r.moves r.notes place) place (note_of (key_change k (chunk_of place) r.moves r.notes))) (sym se)
    ∙ ap (λ b. event_by stored b place (note_of (key_change k (chunk_of place) r.moves r.notes))) (sym be)
    ∙ ap (λ b. event_by stored before place (note_of b)) (sym ce)
    ∙ sym fe in
    record {
      climb = climbs v d n e o r w.climb pos h;
      placed = be ∙ ap (key_place_before k r.moves r.notes) here ∙ sym (was_at k s t e o r recalls);
      so_far = w.so_far ∙ ap (λ l. l ++ reverse es) (story_more v d n e o r w.climb pos h k)
          ∙ ap (λ c. (story v.root v.rows h.row.parent k ++ told n c) ++ reverse es) is
          ∙ append_assoc (story v.root v.rows h.row.parent k) (told n found) (reverse es)
          ∙ ap (λ l. story v.root v.rows h.row.parent k ++ l) (sym (reverse_told n found es))
          ∙ ap (λ l. story v.root v.rows h.row.parent k ++ reverse l) (sym me);
    }

pub tell_ends : (v : SessionState) (k : List ℕ) (d : ℕ) (place : Option KeyPlace) (es : List Event) → Telling v k d place es → d ≡ 0 → reverse es ≡ story v.root v.rows v.current k
tell_ends v k d place es w e = sym (w.so_far ∙ ap (λ l. events_along v.root v.rows k l ++ reverse es) (no_nodes (lineage v.rows w.climb.node) (w.climb.deep ∙ e)))
