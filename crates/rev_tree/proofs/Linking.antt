-- Links when a mention comes behind the others, and when an entry is linked.
use Rattle.std.proofs.Common.{◌≡◌, ◌≢◌, ℕ, zero, suc, ◌+◌, ◌-◌, ◌%◌, ◌<◌, ◌≤◌, List, length, replicate, inl, inr, refl, sym, ◌∙◌, ap, subst, arith, get_or}
use Rattle.std.proofs.lemmas.Bool.{cases_eq, cases_lt}
use Rattle.std.proofs.Math.ListN.{set, get_or-map}
use Rattle.std.proofs.Math.Seq.{map-set_same}
use Rattle.std.proofs.lemmas.List.{get_or-set_same, get_or-set_other, length-set, length-map, map-set}
use Rattle.rev_tree.specs.declared.mention.Mention.{Mention}
use Rattle.rev_tree.specs.declared.links.Entry.{Entry}
use Rattle.rev_tree.specs.declared.links.Head.{Head}
use Rattle.rev_tree.specs.Links.{mention_of, mentions_of, links_of, lasts_of, bucket_at, Leads, Linked, IsLinked, no_mention}

-- a link below k rests on the buckets of the first k alone
pub leads_same : (ms ns : List Mention) (m k b d c : ℕ) → ((i : ℕ) → i < k → bucket_at ns m i ≡ bucket_at ms m i) → d ≡ b → Leads ms m k b c → Leads ns m k d c
leads_same ms ns m k b d c s f l =
    let u : c ≤ k = l.below in
    record {
      below = l.below;
      home = λ p. let v : c - 1 < k = omega arith in s (c - 1) v ∙ (l.home p ∙ sym f);
      last = λ i h e. l.last i h (sym (s i h) ∙ (e ∙ f));
    }

-- the last mention of its bucket
pub leads_here : (ms : List Mention) (m n b : ℕ) → bucket_at ms m n ≡ b → Leads ms m (n + 1) b (n + 1)
leads_here ms m n b e =
    let z : n + 1 - 1 ≡ n = omega arith in
    record { below = omega arith; home = λ _. rw z e; last = λ i h _. h }

-- a mention more in another bucket
pub leads_more : (ms : List Mention) (m n b c : ℕ) → bucket_at ms m n ≢ b → Leads ms m n b c → Leads ms m (n + 1) b c
leads_more ms m n b c ne l =
    let u : c ≤ n = l.below in
    record {
      below = omega arith;
      home = l.home;
      last = λ i h e. elim (cases_lt i n) [
        | inl k ↦ l.last i k e
        | inr k ↦ let z : i ≡ n = omega arith in absurd (ne (ap (bucket_at ms m) (sym z) ∙ e))
      ];
    }

-- the entry n is linked in front of its bucket, which is p of m
module _ (m : ℕ) (lasts : List ℕ) (ms : List Mention) (links : List ℕ) (n p : ℕ) (l : Linked m lasts ms links n) (is : bucket_at ms m n ≡ p) (w : p < m) (u : p < length lasts) (v : n < length links) where
  pub head_more : (b : ℕ) → b < m → Leads ms m (n + 1) b (get_or (set lasts p (n + 1)) b 0)
  head_more b h = elim (cases_eq b p) [
    | inl e ↦ subst (λ a. Leads ms m (n + 1) a (get_or (set lasts p (n + 1)) a 0)) (sym e)
        (subst (λ c. Leads ms m (n + 1) p c) (sym (get_or-set_same lasts p (n + 1) 0 u)) (leads_here ms m n p is))
    | inr e ↦ subst (λ c. Leads ms m (n + 1) b c) (sym (get_or-set_other lasts p b (n + 1) 0 e))
        (leads_more ms m n b (get_or lasts b 0) (λ f. e (sym f ∙ is)) (l.at_head b h))
  ]

  pub link_more : (j : ℕ) → j < n + 1 → Leads ms m j (bucket_at ms m j) (get_or (set links n (get_or lasts p 0)) j 0)
  link_more j h = elim (cases_eq j n) [
    | inl e ↦ subst (λ a. Leads ms m a (bucket_at ms m a) (get_or (set links n (get_or lasts p 0)) a 0)) (sym e)
        (subst (λ c. Leads ms m n (bucket_at ms m n) c) (sym (get_or-set_same links n (get_or lasts p 0) 0 v))
        (subst (λ b. Leads ms m n b (get_or lasts p 0)) (sym is) (l.at_head p w)))
    | inr e ↦ let k : j < n = omega arith in
        subst (λ c. Leads ms m j (bucket_at ms m j) c) (sym (get_or-set_other links n j (get_or lasts p 0) 0 e)) (l.at_link j k)
  ]

  pub linked_more : Linked m (set lasts p (n + 1)) ms (set links n (get_or lasts p 0)) (n + 1)
  linked_more = record { some = l.some; at_head = head_more; at_link = link_more }

-- nothing is linked yet
pub linked_none : (m : ℕ) (lasts : List ℕ) (ms : List Mention) (links : List ℕ) → 0 < m → ((b : ℕ) → b < m → get_or lasts b 0 ≡ 0) → Linked m lasts ms links 0
linked_none m lasts ms links s z = record {
  some = s;
  at_head = λ b h. subst (λ c. Leads ms m 0 b c) (sym (z b h)) (record { below = omega arith; home = λ p. absurd (omega arith); last = λ i k _. absurd (omega arith) });
  at_link = λ j h. absurd (omega arith);
}

-- the links of the first n rest on the first n mentions and links alone
pub linked_same : (m : ℕ) (lasts : List ℕ) (ms ns : List Mention) (links links' : List ℕ) (n : ℕ)
    → ((i : ℕ) → i < n → get_or ns i no_mention ≡ get_or ms i no_mention) → ((i : ℕ) → i < n → get_or links' i 0 ≡ get_or links i 0)
    → Linked m lasts ms links n → Linked m lasts ns links' n
linked_same m lasts ms ns links links' n s t l =
    let u : (i : ℕ) → i < n → bucket_at ns m i ≡ bucket_at ms m i = λ i h. ap (λ (x : Mention). x.hash % m) (s i h) in
    record {
      some = l.some;
      at_head = λ b h. leads_same ms ns m n b b (get_or lasts b 0) u refl (l.at_head b h);
      at_link = λ j h. subst (λ c. Leads ns m j (bucket_at ns m j) c) (sym (t j h))
          (leads_same ms ns m j (bucket_at ms m j) (bucket_at ns m j) (get_or links j 0) (λ i k. u i (omega arith)) (u j h) (l.at_link j h));
    }

abbrev pub no_entry : Entry
no_entry = record { hash = 0; node = 0; earlier = 0; skip = record { bits = 0 } }

abbrev pub no_head : Head
no_head = record { last = 0; root = record { bits = 0 } }

-- the entry n gets the link of its bucket's head, and becomes the head
module _ (heads : List Head) (es : List Entry) (n p : ℕ) (e : Entry) (same : mention_of e ≡ mention_of (get_or es n no_entry)) where
  pub mentions_kept : mentions_of (set es n e) ≡ mentions_of es
  mentions_kept = map-set_same mention_of es n e no_entry same

  pub entry_linked : (h : Head) → IsLinked heads es n → n < length es → p ≡ (get_or es n no_entry).hash % length heads → p < length heads → e.earlier ≡ (get_or heads p no_head).last
      → h.last ≡ n + 1 → IsLinked (set heads p h) (set es n e) (n + 1)
  entry_linked h l w is v f g =
      let m = length heads in
      let b : bucket_at (mentions_of es) m n ≡ p = ap (λ (x : Mention). x.hash % m) (get_or-map mention_of es n no_entry) ∙ sym is in
      let k : n < length (links_of es) = let z = length-map es (λ (x : Entry). x.earlier) in omega arith in
      let c : p < length (lasts_of heads) = let z = length-map heads (λ (x : Head). x.last) in omega arith in
      let r = linked_more m (lasts_of heads) (mentions_of es) (links_of es) n p l b v c k in
      let q : get_or (lasts_of heads) p 0 ≡ e.earlier = get_or-map (λ (x : Head). x.last) heads p no_head ∙ sym f in
      let u : set (links_of es) n (get_or (lasts_of heads) p 0) ≡ links_of (set es n e) = ap (set (links_of es) n) q ∙ sym (map-set (λ (x : Entry). x.earlier) es n e) in
      let t : set (lasts_of heads) p (n + 1) ≡ lasts_of (set heads p h) = ap (set (lasts_of heads) p) (sym g) ∙ sym (map-set (λ (x : Head). x.last) heads p h) in
      subst (λ z. Linked z (lasts_of (set heads p h)) (mentions_of (set es n e)) (links_of (set es n e)) (n + 1)) (sym (length-set heads p h))
      (subst (λ ls. Linked m ls (mentions_of (set es n e)) (links_of (set es n e)) (n + 1)) t
      (subst (λ ns. Linked m (set (lasts_of heads) p (n + 1)) ns (links_of (set es n e)) (n + 1)) (sym mentions_kept)
      (subst (λ ls. Linked m (set (lasts_of heads) p (n + 1)) (mentions_of es) ls (n + 1)) u r)))

-- heads that lead to no entry
empty_heads : (m b : ℕ) (h : Head) → h.last ≡ 0 → get_or (lasts_of (replicate m h)) b 0 ≡ 0
empty_heads zero zero h e = refl
empty_heads zero (suc b) h e = refl
empty_heads (suc m) zero h e = e
empty_heads (suc m) (suc b) h e = empty_heads m b h e

pub unlinked : (heads : List Head) (es : List Entry) (m : ℕ) (h : Head) → 0 < length heads → heads ≡ replicate m h → h.last ≡ 0 → IsLinked heads es 0
unlinked heads es m h s e z = linked_none (length heads) (lasts_of heads) (mentions_of es) (links_of es) s (λ b _. ap (λ hs. get_or (lasts_of hs) b 0) e ∙ empty_heads m b h z)
