-- Entries with their footprints: they leave and enter a list as bare entries do, and the others keep their footprints.
use Rattle.std.specs.Prelude.{◌==◌, Bool, false, ◌≡◌, ℕ, suc, zero, true, cond, Option, None, Some, List, [], ◌∷◌, map, slice_index_or, slice_set, ◌⊎◌, refl, ◌+◌}
use Rattle.rev_model.specs.Chunk.{same_chunk, same_entry}
use Rattle.rev_queues.specs.declared.members.Member.{Member}
use Rattle.rev_queues.specs.declared.members.Member.TheVariants.{Chunk, Mark}
use Rattle.std.specs.List.{sum_by}
use Rattle.std.proofs.Common.{sym, ◌∙◌, ap, inl, inr}
use Rattle.std.proofs.lemmas.List.{map-set}
use Rattle.std.proofs.lemmas.List.Sums.{sum_by-cons}
use Rattle.rev_links.specs.Rings.{In}
use Rattle.rev_model.specs.Lists.{without, behind, insert}
use Rattle.rev_model.specs.declared.Entry.{Entry}
use Rattle.rev_model.specs.declared.Entry.TheVariants.{Chunk, Mark}
use Rattle.rev_queues.specs.Entries.{Queued, entries, footprints, queued_with, without_entry, behind_entry, insert_entry}

-- ---- members
abbrev pub same_member : Member → Member → Bool
same_member (Chunk x) (Chunk y) = same_chunk x y
same_member (Chunk x) (Mark q) = false
same_member (Mark q) (Chunk y) = false
same_member (Mark q) (Mark r) = q.number == r.number

-- ---- the same words on bare entries
pub entries-queued_with : (e : Entry) (n : ℕ) → (queued_with e n).entry ≡ e
entries-queued_with (Chunk x) n = refl
entries-queued_with Mark n = refl

pub entries-without : (e : Entry) (l : List Queued) → entries (without_entry e l) ≡ without same_entry e (entries l)
entries-without e [] = refl
entries-without e (q ∷ qs) = go (same_entry e q.entry) (entries-without e qs)
  where
    go : (b : Bool) → entries (without_entry e qs) ≡ without same_entry e (entries qs)
        → entries (cond b qs (q ∷ without_entry e qs)) ≡ cond b (entries qs) (q.entry ∷ without same_entry e (entries qs))
    go true ih = refl
    go false ih = ap (λ es. q.entry ∷ es) ih

pub entries-behind : (y : Entry) (n : Queued) (l : List Queued) → entries (behind_entry y n l) ≡ behind same_entry y n.entry (entries l)
entries-behind y n [] = refl
entries-behind y n (q ∷ qs) = go (same_entry y q.entry) (entries-behind y n qs)
  where
    go : (b : Bool) → entries (behind_entry y n qs) ≡ behind same_entry y n.entry (entries qs)
        → entries (cond b (q ∷ n ∷ qs) (q ∷ behind_entry y n qs)) ≡ cond b (q.entry ∷ n.entry ∷ entries qs) (q.entry ∷ behind same_entry y n.entry (entries qs))
    go true ih = refl
    go false ih = ap (λ es. q.entry ∷ es) ih

pub entries-insert : (n : Queued) (after : Option Entry) (l : List Queued) → entries (insert_entry n after l) ≡ insert same_entry n.entry after (entries l)
entries-insert n None l = refl
entries-insert n (Some y) l = entries-behind y n l

pub entries-set : (qs : List (List Queued)) (n : ℕ) (l : List Queued) → map entries (slice_set qs n l) ≡ slice_set (map entries qs) n (entries l)
entries-set qs n l = map-set entries qs n l

pub entries-at : (qs : List (List Queued)) (n : ℕ) → slice_index_or (map entries qs) n [] ≡ entries (slice_index_or qs n [])
entries-at [] n = refl
entries-at (q ∷ qs) zero = refl
entries-at (q ∷ qs) (suc n) = entries-at qs n

-- a list of lists of which one lost an entry, or got one
pub entries-taken : (qs : List (List Queued)) (n : ℕ) (e : Entry)
    → map entries (slice_set qs n (without_entry e (slice_index_or qs n []))) ≡ slice_set (map entries qs) n (without same_entry e (slice_index_or (map entries qs) n []))
entries-taken qs n e =
    entries-set qs n (without_entry e (slice_index_or qs n []))
    ∙ ap (slice_set (map entries qs) n) (entries-without e (slice_index_or qs n []) ∙ ap (without same_entry e) (sym (entries-at qs n)))

pub entries-put : (qs : List (List Queued)) (n : ℕ) (e : Entry) (footprint : ℕ) (after : Option Entry)
    → map entries (slice_set qs n (insert_entry (queued_with e footprint) after (slice_index_or qs n []))) ≡ slice_set (map entries qs) n (insert same_entry e after (slice_index_or (map entries qs) n []))
entries-put qs n e footprint after =
    entries-set qs n (insert_entry (queued_with e footprint) after (slice_index_or qs n []))
    ∙ ap (slice_set (map entries qs) n)
    (entries-insert (queued_with e footprint) after (slice_index_or qs n [])
    ∙ (ap (λ x. insert same_entry x after (entries (slice_index_or qs n []))) (entries-queued_with e footprint)
    ∙ ap (insert same_entry e after) (sym (entries-at qs n))))

-- ---- who is left keeps its footprint
pub In-without_entry : (q : Queued) (e : Entry) (l : List Queued) → In q (without_entry e l) → In q l
In-without_entry q e [] m = absurd m
In-without_entry q e (y ∷ ys) m = go (same_entry e y.entry) (λ k. In-without_entry q e ys k) m
  where
    go : (b : Bool) → (In q (without_entry e ys) → In q ys) → In q (cond b ys (y ∷ without_entry e ys)) → In q (y ∷ ys)
    go true ih k = inr k
    go false ih k = elim k [ inl u ↦ inl u | inr w ↦ inr (ih w) ]

In-behind_entry : (q : Queued) (y : Entry) (n : Queued) (l : List Queued) → In q (behind_entry y n l) → (n ≡ q) ⊎ In q l
In-behind_entry q y n [] m = elim m [ inl u ↦ inl u | inr w ↦ absurd w ]
In-behind_entry q y n (z ∷ zs) m = go (same_entry y z.entry) (λ k. In-behind_entry q y n zs k) m
  where
    go : (b : Bool) → (In q (behind_entry y n zs) → (n ≡ q) ⊎ In q zs) → In q (cond b (z ∷ n ∷ zs) (z ∷ behind_entry y n zs)) → (n ≡ q) ⊎ In q (z ∷ zs)
    go true ih k = elim k [ inl u ↦ inr (inl u) | inr w ↦ (elim w [ inl u ↦ inl u | inr v ↦ inr (inr v) ]) ]
    go false ih k = elim k [ inl u ↦ inr (inl u) | inr w ↦ (elim (ih w) [ inl u ↦ inl u | inr v ↦ inr (inr v) ]) ]

pub In-insert_entry : (q n : Queued) (after : Option Entry) (l : List Queued) → In q (insert_entry n after l) → (n ≡ q) ⊎ In q l
In-insert_entry q n None l m = m
In-insert_entry q n (Some y) l m = In-behind_entry q y n l m

-- in lists of which one was exchanged
pub In-set : (q : Queued) (qs : List (List Queued)) (n : ℕ) (l : List Queued) (p : ℕ) → In q (slice_index_or (slice_set qs n l) p []) → In q l ⊎ In q (slice_index_or qs p [])
In-set q [] n l p m = inr m
In-set q (x ∷ xs) zero l zero m = inl m
In-set q (x ∷ xs) zero l (suc p) m = inr m
In-set q (x ∷ xs) (suc n) l zero m = inr m
In-set q (x ∷ xs) (suc n) l (suc p) m = In-set q xs n l p m

-- each entry of the lists without one stood in them, with its footprint
pub taken_stood : (q : Queued) (qs : List (List Queued)) (n : ℕ) (e : Entry) (p : ℕ)
    → In q (slice_index_or (slice_set qs n (without_entry e (slice_index_or qs n []))) p []) → (r : ℕ) × In q (slice_index_or qs r [])
taken_stood q qs n e p m = elim (In-set q qs n (without_entry e (slice_index_or qs n [])) p m) [
  | inl w ↦ (n, In-without_entry q e (slice_index_or qs n []) w)
  | inr w ↦ (p, w)
]

-- each entry of the lists with a new one is that one, or stood in them with its footprint
pub put_stood : (q : Queued) (qs : List (List Queued)) (place : ℕ) (n : Queued) (after : Option Entry) (p : ℕ)
    → In q (slice_index_or (slice_set qs place (insert_entry n after (slice_index_or qs place []))) p []) → (n ≡ q) ⊎ ((r : ℕ) × In q (slice_index_or qs r []))
put_stood q qs place n after p m = elim (In-set q qs place (insert_entry n after (slice_index_or qs place [])) p m) [
  | inl w ↦ (elim (In-insert_entry q n after (slice_index_or qs place []) w) [ inl u ↦ inl u | inr v ↦ inr (place, v) ])
  | inr w ↦ inr (p, w)
]

-- the bytes of a list are the sum of what its entries weigh, where that is what they count
pub footprints_weigh : (weight : Entry → ℕ) (l : List Queued) → ((q : Queued) → In q l → q.footprint ≡ weight q.entry) → footprints l ≡ sum_by weight (entries l)
footprints_weigh weight [] h = refl
footprints_weigh weight (q ∷ qs) h =
    let here = h q (inl refl) in
    let more = footprints_weigh weight qs (λ r m. h r (inr m)) in
    let a = sum_by-cons (λ (r : Queued). r.footprint) q qs in
    let b = sum_by-cons weight q.entry (entries qs) in
    a ∙ (ap (λ n. n + footprints qs) here ∙ (ap (λ n. weight q.entry + n) more ∙ sym b))
