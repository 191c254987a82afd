-- A pull leaves pages alone, and what room needs is enough.
use Rattle.std.specs.Prelude.{ℕ, ◌≡◌, ◌+◌, ◌-◌, ◌*◌, ◌≤◌, cond, ◌||◌, List, [], ◌∷◌, Option, None, Some, length, refl, zero, suc}
use Rattle.std.proofs.Common.{sym, ◌∙◌, ap, subst, arith, inl, inr}
use Rattle.std.proofs.lemmas.Bool.{cases_Bool}
use Rattle.rev_items.specs.Plain.{PlainItem}
use Rattle.std.specs.FinMap as map
use Rattle.std.specs.Ordering.{eq_by_cmp, nat_cmp}
use Rattle.std.specs.Cmp.Lexicographic.{slice_cmp, nat_list_cmp_total}
use Rattle.rev_model.specs.State.{State, Keys, free_of, queue_of, item_at, find}
use Rattle.rev_model.specs.Words.{is_dead, tail, over, idle}
use Rattle.rev_model.specs.Pull.{page_of, pull, pull_tail, pull_item, pull_live, takes_all, evicts, squeezed, squeezed_by, room, room_by, given, or_carved, fronted, carved, taken_or}
use Rattle.rev_model.specs.declared.ChunkRef.{ChunkRef}
use Rattle.rev_model.specs.declared.Queue.{Queue}
use Rattle.rev_model.specs.declared.Queue.TheVariants.{Hot, Warm, Cold, Temp}
use Rattle.rev_model.specs.declared.PullMode.{PullMode}
use Rattle.rev_model.specs.declared.PullMode.TheVariants.{Evicting, ShareZero}
use Rattle.rev_model.specs.declared.Form.{Form}
use Rattle.rev_model.specs.declared.Form.TheVariants.{Fresh, Pool, Withdrawn}
use Rattle.rev_maintainer.specs.Rooming.{need_by, room_need}

-- what a pull leaves alone
pub record SamePages (s t : State) : Type 0 where
  pub fixed : t.fixed ≡ s.fixed
  pub owner : t.owner ≡ s.owner
  pub globals : t.globals ≡ s.globals
  -- no key is new, and none leads elsewhere
  pub keys : (k : List ℕ) (x : ChunkRef) → find t k ≡ Some x → find s k ≡ Some x

-- nor is one where a key leaves
kept : (m : Keys) (l k : List ℕ) (x : ChunkRef) → map.get (map.remove m l) k ≡ Some x → map.get m k ≡ Some x
kept m l k x e =
    let by_key : cond (eq_by_cmp (slice_cmp nat_cmp) k l) None (map.get m k) ≡ Some x = sym (map.get-remove nat_list_cmp_total m l k) ∙ e in
    elim (cases_Bool (eq_by_cmp (slice_cmp nat_cmp) k l)) [
      | inl f ↦ let none : None ≡ Some x = rw f at by_key in absurd (cc)
      | inr f ↦ rw f at by_key
    ]

same_pages_self : (s : State) → SamePages s s
same_pages_self s = record { fixed = refl; owner = refl; globals = refl; keys = λ k x h. h }

same_pages_live : (s : State) (c : ℕ) (q : Queue) (m : PullMode) (x : ChunkRef) (i : PlainItem) → SamePages s (pull_live s c q m x i).0
same_pages_live s c Hot m x i = elim (cases_Bool i.bits.active) [
  | inl e ↦ rw e (record { fixed = refl; owner = refl; globals = refl; keys = λ k x h. h })
  | inr e ↦ rw e (elim (cases_Bool (takes_all m || (over s c Hot || idle s c Hot i))) [
    | inl f ↦ rw f (record { fixed = refl; owner = refl; globals = refl; keys = λ k x h. h })
    | inr f ↦ rw f (same_pages_self s)
  ])
]
same_pages_live s c Warm m x i = elim (cases_Bool i.bits.active) [
  | inl e ↦ rw e (record { fixed = refl; owner = refl; globals = refl; keys = λ k x h. h })
  | inr e ↦ rw e (elim (cases_Bool (over s c Warm || idle s c Warm i)) [
    | inl f ↦ rw f (record { fixed = refl; owner = refl; globals = refl; keys = λ k x h. h })
    | inr f ↦ rw f (same_pages_self s)
  ])
]
same_pages_live s c Cold m x i = elim (cases_Bool (evicts m)) [
  | inl e ↦ rw e (record { fixed = refl; owner = refl; globals = refl; keys = λ k y h. kept s.index i.key k y h })
  | inr e ↦ rw e (elim (cases_Bool i.bits.active) [
    | inl f ↦ rw f (record { fixed = refl; owner = refl; globals = refl; keys = λ k x h. h })
    | inr f ↦ rw f (same_pages_self s)
  ])
]
same_pages_live s c Temp m x i = same_pages_self s

same_pages_item : (s : State) (c : ℕ) (q : Queue) (m : PullMode) (x : ChunkRef) (o : Option PlainItem) → SamePages s (pull_item s c q m x o).0
same_pages_item s c q m x None = same_pages_self s
same_pages_item s c q m x (Some i) = elim (cases_Bool (is_dead s.globals i)) [
  | inl e ↦ rw e (record { fixed = refl; owner = refl; globals = refl; keys = λ k y h. kept s.index i.key k y h })
  | inr e ↦ rw e (same_pages_live s c q m x i)
]

same_pages_tail : (s : State) (c : ℕ) (q : Queue) (m : PullMode) (o : Option ChunkRef) → SamePages s (pull_tail s c q m o).0
same_pages_tail s c q m None = same_pages_self s
same_pages_tail s c q m (Some x) = same_pages_item s c q m x (item_at s x)

pub same_pages_pull : (s : State) (c : ℕ) (q : Queue) (m : PullMode) → SamePages s (pull s c q m).0
same_pages_pull s c q m = same_pages_tail s c q m (tail (queue_of s c q))

same_pages_by : (s : State) (c : ℕ) (o : Option ChunkRef) → SamePages s (squeezed_by s c o)
same_pages_by s c (Some x) = same_pages_pull s c Cold Evicting
same_pages_by s c None = same_pages_pull s c Hot ShareZero

pub same_pages_squeezed : (s : State) (c : ℕ) → SamePages s (squeezed s c)
same_pages_squeezed s c = same_pages_by s c (tail (queue_of s c Cold))

-- and with it the page that a class gets
pub same_page_of : (s t : State) (c : ℕ) → SamePages s t → page_of t c ≡ page_of s c
same_page_of s t c k = rw (k.fixed, k.owner) refl

-- the moves of a squeeze and of the rounds that follow
pub need_more : (k n : ℕ) (t : State) (c : ℕ) → page_of t c ≡ None → n ≤ 5 → n ≤ 4 + length (free_of t c) → n + room_need k t c ≤ 4 * (k + 1) + 2
need_more k n t c e a b = rw e (by_list (free_of t c) b)
  where
    by_list : (l : List ChunkRef) → n ≤ 4 + length l → n + need_by k l None ≤ 4 * (k + 1) + 2
    by_list [] h = omega (arith, h)
    by_list (x ∷ xs) h = omega (arith, a)

pub need_least : (k : ℕ) (l : List ChunkRef) (p : Option (ℕ × Form)) → need_by 0 l p ≤ need_by k l p
need_least k (x ∷ xs) p = omega arith
need_least k [] (Some p) = omega arith
need_least k [] None = omega arith

pub need_some : (k : ℕ) (l : List ChunkRef) (p : Option (ℕ × Form)) → 1 ≤ need_by k l p
need_some k (x ∷ xs) p = omega arith
need_some k [] (Some p) = omega arith
need_some k [] None = omega arith

-- ---- room changes neither the configuration nor the globals, and each key that is left leads where it led

pub record SameGlobals (s t : State) : Type 0 where
  pub fixed : t.fixed ≡ s.fixed
  pub globals : t.globals ≡ s.globals
  pub keys : (k : List ℕ) (x : ChunkRef) → find t k ≡ Some x → find s k ≡ Some x

same_globals_self : (s : State) → SameGlobals s s
same_globals_self s = record { fixed = refl; globals = refl; keys = λ k x h. h }

abbrev SameGlobalsIf : State → Option (State × ChunkRef) → Type 0
SameGlobalsIf s None = Unit {0}
SameGlobalsIf s (Some (t, x)) = SameGlobals s t

same_globals_fronted : (s t : State) (c : ℕ) (l : List ChunkRef) → SameGlobals s t → SameGlobalsIf s (fronted t c l)
same_globals_fronted s t c [] h = tt
same_globals_fronted s t c (x ∷ xs) h = record { fixed = h.fixed; globals = h.globals; keys = h.keys }

same_globals_carved : (s : State) (c : ℕ) (p : Option (ℕ × Form)) → SameGlobals s (carved s c p)
same_globals_carved s c None = same_globals_self s
same_globals_carved s c (Some (p, Fresh)) = record { fixed = refl; globals = refl; keys = λ k x h. h }
same_globals_carved s c (Some (p, Pool)) = record { fixed = refl; globals = refl; keys = λ k x h. h }
same_globals_carved s c (Some (p, Withdrawn)) = record { fixed = refl; globals = refl; keys = λ k x h. h }

same_globals_or : (s : State) (c : ℕ) (o : Option (State × ChunkRef)) → SameGlobalsIf s o → SameGlobalsIf s (or_carved s c o)
same_globals_or s c (Some r) h = h
same_globals_or s c None h = same_globals_fronted s (carved s c (page_of s c)) c (free_of (carved s c (page_of s c)) c) (same_globals_carved s c (page_of s c))

same_globals_taken : (s : State) (o : Option (State × ChunkRef)) (later : State × Option ChunkRef) → SameGlobalsIf s o → SameGlobals s later.0 → SameGlobals s (taken_or o later).0
same_globals_taken s (Some (t, x)) later h k = h
same_globals_taken s None later h k = k

pub same_globals_room : (k : ℕ) (s : State) (c : ℕ) → SameGlobals s (room_by k s c).0
same_globals_room zero s c = record { fixed = refl; globals = refl; keys = λ k x h. h }
same_globals_room (suc k) s c =
    let more = same_globals_room k (squeezed s c) c in
    let same_pages = same_pages_squeezed s c in
    same_globals_taken s (given s c) (room_by k (squeezed s c) c) (same_globals_or s c (fronted s c (free_of s c)) (same_globals_fronted s s c (free_of s c) (same_globals_self s)))
    (record { fixed = more.fixed ∙ same_pages.fixed; globals = more.globals ∙ same_pages.globals; keys = λ l x h. same_pages.keys l x (more.keys l x h) })

-- ---- a round that got no chunk

pub next_need : (s t : State) (c k a b r : ℕ) → free_of s c ≡ [] → page_of s c ≡ None → page_of t c ≡ None → (k ≡ 0 → ⊥) → a + room_need k s c ≤ r → b ≤ a + 5 → b ≤ a + 4 + length (free_of t c) → b + room_need (k - 1) t c ≤ r
next_need s t c k a b r none page later pos room five few =
    let here : a + (4 * k + 2) ≤ r = rw (none, page) at room in
    let more : (b - a) + room_need (k - 1) t c ≤ 4 * (k - 1 + 1) + 2 = need_more (k - 1) (b - a) t c later (omega (arith, five)) (omega (arith, few)) in
    omega (arith, here, more, pos)

pub later_room : (s t : State) (c k : ℕ) (r : State × Option ChunkRef) → (k ≡ 0 → ⊥) → None ≡ given s c → t ≡ squeezed s c → r ≡ room_by (k - 1) t c → r ≡ room_by k s c
later_room s t c zero r pos none next done = absurd (pos refl)
later_room s t c (suc k) r pos none next done =
    let less : suc k - 1 ≡ k = omega arith in
    done ∙ ap (λ n. room_by n t c) less ∙ ap (λ u. room_by k u c) next ∙ ap (λ o. taken_or o (room_by k (squeezed s c) c)) none

pub same_globals_after : (s t : State) (c : ℕ) (o : Option ChunkRef) → (t, o) ≡ room s c → SameGlobals s t
same_globals_after s t c o e = subst (λ (r : State × Option ChunkRef). SameGlobals s r.0) (sym e) (same_globals_room 10 s c)

-- a round that got a chunk
pub given_room : (s t : State) (c k : ℕ) (x : ChunkRef) → (k ≡ 0 → ⊥) → Some (t, x) ≡ given s c → (t, Some x) ≡ room_by k s c
given_room s t c zero x pos e = absurd (pos refl)
given_room s t c (suc k) x pos e = ap (λ o. taken_or o (room_by k (squeezed s c) c)) e
