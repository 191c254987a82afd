-- The walk along the links of one bucket.
use Rattle.std.proofs.Common.{◌≡◌, ℕ, ◌-◌, ◌%◌, ◌<◌, ◌≤◌, List, Some, ◌⊎◌, length, inl, inr, sym, ◌∙◌, ap, subst, arith, get_or}
use Rattle.std.proofs.Math.ListN.{get_or-map}
use Rattle.std.proofs.lemmas.List.{length-map}
use Rattle.std.proofs.lemmas.Bool.{cases_lt}
use Rattle.std.proofs.lemmas.Option.{get_or_from_slice_get, slice_get_within, slice_get-get_or}
use Rattle.rev_tree.specs.declared.mention.Mention.{Mention}
use Rattle.rev_tree.specs.declared.links.Entry.{Entry}
use Rattle.rev_tree.specs.declared.links.Head.{Head}
use Rattle.rev_tree.specs.Mentions.{Holds}
use Rattle.rev_tree.specs.Links.{mention_of, mentions_of, links_of, lasts_of, bucket_at, node_at, Leads, Linked, LeadsPast, IsSound, no_mention, Rises}
use Rattle.rev_tree.proofs.Linking.{no_entry, no_head}

-- the link c leads into the bucket of the hash h, and no mention of h up to node d lies past it
pub record Seeks (ms : List Mention) (m h d c : ℕ) : Type 0 where
  pub below : c ≤ length ms
  pub home : 0 < c → bucket_at ms m (c - 1) ≡ h % m
  pub last : (i : ℕ) → i < length ms → (get_or ms i no_mention).hash ≡ h → node_at ms i ≤ d → i < c

-- the walk begins at the head of the hash's bucket
pub begins : (heads : List Head) (es : List Entry) (h d b : ℕ) → IsSound heads es → b ≡ h % length heads → b < length heads → Seeks (mentions_of es) (length heads) h d (get_or heads b no_head).last
begins heads es h d b s is w =
    let m = length heads in
    let f : get_or (lasts_of heads) b 0 ≡ (get_or heads b no_head).last = get_or-map (λ (x : Head). x.last) heads b no_head in
    let l : Leads (mentions_of es) m (length es) b (get_or heads b no_head).last = subst (λ c. Leads (mentions_of es) m (length es) b c) f (s.linked.at_head b w) in
    let e : length (mentions_of es) ≡ length es = length-map es mention_of in
    let lb : (get_or heads b no_head).last ≤ length es = l.below in
    record {
      below = omega arith;
      home = λ p. l.home p ∙ is;
      last = λ i k t _. let v : i < length es = omega arith in l.last i v (ap (λ x. x % m) t ∙ sym is);
    }

-- the mention that the walk stands at is another, or it is of a node past d
seek_more : (m : ℕ) (lasts : List ℕ) (ms : List Mention) (links : List ℕ) (h d c e : ℕ) → Linked m lasts ms links (length ms) → Seeks ms m h d c → 0 < c
    → ((get_or ms (c - 1) no_mention).hash ≡ h → node_at ms (c - 1) ≤ d → ⊥) → e ≡ get_or links (c - 1) 0
    → Seeks ms m h d e
seek_more m lasts ms links h d c e l s p n f =
    let sb : c ≤ length ms = s.below in
    let j : c - 1 < length ms = omega arith in
    let o = l.at_link (c - 1) j in
    let ob : get_or links (c - 1) 0 ≤ c - 1 = o.below in
    record {
      below = omega arith;
      home = λ k. rw f (o.home (subst (λ x. 0 < x) f k) ∙ s.home p);
      last = λ i k t u. elim (cases_lt i (c - 1)) [
        | inl v ↦ rw f (o.last i v (ap (λ x. x % m) t ∙ sym (s.home p)))
        | inr v ↦ let w : i < c = s.last i k t u in let z : c - 1 ≡ i = omega arith in
            absurd (n (ap (λ x. (get_or ms x no_mention).hash) z ∙ t) (subst (λ x. node_at ms x ≤ d) (sym z) u))
      ];
    }

-- the link e leads past nodes over d alone
pub seek_past : (ms : List Mention) (m h d c e b : ℕ) → Rises ms → b ≡ h % m → Seeks ms m h d c → LeadsPast ms m b d c e → Seeks ms m h d e
seek_past ms m h d c e b r f s p =
    let sb : c ≤ length ms = s.below in
    let before : e < c = p.before in
    record {
      below = omega arith;
      home = λ _. p.home ∙ f;
      last = λ i k t u. elim (cases_lt i e) [
        | inl v ↦ v
        | inr v ↦
            let w : e - 1 ≤ i = omega arith in
            let x : node_at ms (e - 1) ≤ node_at ms i = r (e - 1) i w k in
            let y : d < node_at ms (e - 1) = p.past in
            absurd (omega arith)
      ];
    }

-- the link c leads past them to its entry where its tests hold
pub leads_past_it : (es : List Entry) (m b d a c p : ℕ) → 0 < c → c < a → d < (get_or es (c - 1) no_entry).node → p ≡ (get_or es (c - 1) no_entry).hash % m → p ≡ b → LeadsPast (mentions_of es) m b d a c
leads_past_it es m b d a c p some before past is same =
    let f : get_or (mentions_of es) (c - 1) no_mention ≡ mention_of (get_or es (c - 1) no_entry) = get_or-map mention_of es (c - 1) no_entry in
    record {
      some = some;
      before = before;
      home = ap (λ (x : Mention). x.hash % m) f ∙ (sym is ∙ same);
      past = subst (λ (x : Mention). d < x.node) (sym f) past;
    }

-- what is held stands at a place
held_at : (ms : List Mention) (h n : ℕ) → Holds ms h n → (i : ℕ) × (i < length ms) × ((get_or ms i no_mention).hash ≡ h) × (node_at ms i ≡ n)
held_at ms h n k =
    let e = get_or_from_slice_get ms k.0 _ no_mention k.1 in
    (k.0, slice_get_within ms k.0 _ k.1, ap (λ (x : Mention). x.hash) e, ap (λ (x : Mention). x.node) e)

-- no mention of the hash up to node d is later than the one that the walk stands at
seek_found : (ms : List Mention) (m h d c : ℕ) → Rises ms → Seeks ms m h d c → 0 < c → (n : ℕ) → Holds ms h n → n ≤ d → n ≤ node_at ms (c - 1)
seek_found ms m h d c r s p n k b =
    let a = held_at ms h n k in
    let u : node_at ms a.0 ≤ d = rw a.3 b in
    let v : a.0 < c = s.last a.0 a.1 a.2 u in
    let sb : c ≤ length ms = s.below in
    subst (λ x. x ≤ node_at ms (c - 1)) a.3 (r a.0 (c - 1) (omega arith) (omega arith))

-- the walk ends where no mention of the hash up to node d is
pub seek_end : (ms : List Mention) (m h d c : ℕ) → Seeks ms m h d c → c ≤ 0 → (n : ℕ) → Holds ms h n → n ≤ d → n ≤ 0
seek_end ms m h d c s z n k b =
    let a = held_at ms h n k in
    let u : node_at ms a.0 ≤ d = rw a.3 b in
    let v : a.0 < c = s.last a.0 a.1 a.2 u in
    absurd (omega arith)

-- the same at entries, where the walk stands at one
module _ (heads : List Head) (es : List Entry) (sound : IsSound heads es) (h d c : ℕ) (s : Seeks (mentions_of es) (length heads) h d c) (p : 0 < c) where
  stands_at : get_or (mentions_of es) (c - 1) no_mention ≡ mention_of (get_or es (c - 1) no_entry)
  stands_at = get_or-map mention_of es (c - 1) no_entry

  -- it says something else
  pub goes_on : (((get_or es (c - 1) no_entry).hash ≡ h) × (d < (get_or es (c - 1) no_entry).node)) ⊎ ((get_or es (c - 1) no_entry).hash ≡ h → ⊥)
      → Seeks (mentions_of es) (length heads) h d (get_or es (c - 1) no_entry).earlier
  goes_on other =
      let n : (get_or es (c - 1) no_entry).hash ≡ h → (get_or es (c - 1) no_entry).node ≤ d → ⊥ = λ a b. elim other [ inl (_, past) ↦ omega arith | inr ne ↦ ne a ] in
      let e = ap (λ (m : Mention). m.hash) stands_at in
      let f = ap (λ (m : Mention). m.node) stands_at in
      let l = subst (Linked (length heads) (lasts_of heads) (mentions_of es) (links_of es)) (sym (length-map es mention_of)) sound.linked in
      seek_more (length heads) (lasts_of heads) (mentions_of es) (links_of es) h d c (get_or es (c - 1) no_entry).earlier l s p
      (λ a b. n (sym e ∙ a) (subst (λ x. x ≤ d) f b)) (sym (get_or-map (λ (x : Entry). x.earlier) es (c - 1) no_entry))

  -- it says what is asked for
  pub finds : (n : ℕ) → Holds (mentions_of es) h n → n ≤ d → n ≤ (get_or es (c - 1) no_entry).node
  finds n k b =
      let f = ap (λ (m : Mention). m.node) stands_at in
      subst (λ x. n ≤ x) f (seek_found (mentions_of es) (length heads) h d c sound.rises s p n k b)

  -- and the log holds it
  pub holds_found : (get_or es (c - 1) no_entry).hash ≡ h → Holds (mentions_of es) h (get_or es (c - 1) no_entry).node
  holds_found e =
      let b : c ≤ length (mentions_of es) = s.below in
      let w : c - 1 < length (mentions_of es) = omega arith in
      (c - 1, slice_get-get_or (mentions_of es) (c - 1) no_mention w ∙ ap Some (stands_at ∙ ap (λ k. record { hash = k; node = (get_or es (c - 1) no_entry).node }) e))
