-- Lines that are held in a run and in a tree: what they are together.
use Rattle.std.proofs.Common.{◌≡◌, ℕ, zero, suc, ◌+◌, ◌-◌, ◌<◌, ◌≤◌, nat_le, nat_lt, Bool, true, false, inl, inr, ◌⊎◌, Option, Some, None, option_to_list, IfSome, IfNone, Result, Ok, Err, IfOk, OnOk, OnErr, MatchResult, List, [], ◌∷◌, ◌++◌, length, get_or, set, refl, sym, ◌∙◌, ap, subst, arith}
use Rattle.std.proofs.lemmas.Bool.Decides.{eqb_tells, leb_tells, nat_tests}
use Rattle.std.proofs.lemmas.Cmp.{ranked}
use Rattle.std.specs.BTreeMap.{insert_entry}
use Rattle.std.specs.List.{All, insert as insert_at}
use Rattle.std.specs.List.Sorted.{IsNonDecreasingBy, IsBinarySearchResult, IsSearchInRange}
use Rattle.std.specs.Map.{keys_of}
use Rattle.std.specs.Ordering.{nat_cmp, ordering_index, is_lt}
use Rattle.rev_watch.specs.Held.{together, AreAbove, IsRun, IsNear, is_first}
use Rattle.rev_watch.specs.Window.{is_held, is_late, put_of}
use Rattle.rev_watch.specs.declared.window.Put.TheVariants.{Given}

rank : (x y : ℕ) → (x < y) ⊎ ((x ≡ y) ⊎ (y < x))
rank x y = elim (leb_tells (suc x) y) [
  | inl p ↦ inl p.1
  | inr p ↦ elim (eqb_tells x y) [
    | inl q ↦ inr (inl q.1)
    | inr q ↦ inr (inr (omega (arith, p.1, q.1)))
  ]
]

order-rises : (x y k : ℕ) → x ≤ y → ordering_index (nat_cmp x k) ≤ ordering_index (nat_cmp y k)
order-rises x y k h = grind (arith, nat_tests)

pub had-as : {E : Type 0} (r : Result Bool E) (x y : Bool) → x ≡ y → IfOk r (λ had. had ≡ x) → IfOk r (λ had. had ≡ y)
had-as (Ok b) x y e h = h ∙ e
had-as (Err f) x y e h = tt

module _ {T : Type 0} where
  abbrev insert : List (ℕ × T) → ℕ → T → List (ℕ × T)
  insert lines k v = insert_entry nat_cmp lines k v

  -- ---- whether a line of a number is held

  held-cons : (k : ℕ) (e : ℕ × T) (es : List (ℕ × T)) → (k ≡ e.0 → ⊥) → is_held k (e ∷ es) ≡ is_held k es
  held-cons k e es n = elim (leb_tells (suc k) e.0) [
    | inl p ↦ rw p.0 refl
    | inr p ↦ elim (eqb_tells k e.0) [
      | inl q ↦ absurd (n q.1)
      | inr q ↦ rw (p.0, q.0) refl
    ]
  ]

  held-first : (k : ℕ) (e : ℕ × T) (es : List (ℕ × T)) → k ≡ e.0 → is_held k (e ∷ es) ≡ true
  held-first k e es s = elim (leb_tells (suc k) e.0) [
    | inl p ↦ absurd (omega (arith, p.1, s))
    | inr p ↦ elim (eqb_tells k e.0) [
      | inl q ↦ rw (p.0, q.0) refl
      | inr q ↦ absurd (omega (arith, q.1, s))
    ]
  ]

  held-tail : (k : ℕ) (e : ℕ × T) (es : List (ℕ × T)) → is_held k (e ∷ es) ≡ false → (k ≡ e.0 → ⊥) × (is_held k es ≡ false)
  held-tail k e es h = elim (eqb_tells k e.0) [
    | inl q ↦ absurd (let r : true ≡ false = sym (held-first k e es q.1) ∙ h in cc)
    | inr q ↦ (q.1, sym (held-cons k e es q.1) ∙ h)
  ]

  -- ---- a line goes to its place

  insert-less : (e : ℕ × T) (es : List (ℕ × T)) (k : ℕ) (v : T) → k < e.0 → insert (e ∷ es) k v ≡ (k, v) ∷ e ∷ es
  insert-less e es k v h = elim (leb_tells (suc k) e.0) [
    | inl p ↦ rw p.0 refl
    | inr p ↦ absurd (omega (arith, p.1, h))
  ]

  insert-same : (e : ℕ × T) (es : List (ℕ × T)) (k : ℕ) (v : T) → k ≡ e.0 → insert (e ∷ es) k v ≡ (e.0, v) ∷ es
  insert-same e es k v h = elim (leb_tells (suc k) e.0) [
    | inl p ↦ absurd (omega (arith, p.1, h))
    | inr p ↦ elim (eqb_tells k e.0) [
      | inl q ↦ rw (p.0, q.0) refl
      | inr q ↦ absurd (omega (arith, q.1, h))
    ]
  ]

  insert-more : (e : ℕ × T) (es : List (ℕ × T)) (k : ℕ) (v : T) → e.0 < k → insert (e ∷ es) k v ≡ e ∷ insert es k v
  insert-more e es k v h = elim (leb_tells (suc k) e.0) [
    | inl p ↦ absurd (omega (arith, p.1, h))
    | inr p ↦ elim (eqb_tells k e.0) [
      | inl q ↦ absurd (omega (arith, q.1, h))
      | inr q ↦ rw (p.0, q.0) refl
    ]
  ]

  -- the first number is above this one
  abbrev FirstAbove : ℕ → List (ℕ × T) → Type 0
  FirstAbove k [] = Unit {0}
  FirstAbove k (e ∷ es) = k < e.0

  insert-front : (es : List (ℕ × T)) (k : ℕ) (v : T) → FirstAbove k es → insert es k v ≡ (k, v) ∷ es
  insert-front [] k v h = refl
  insert-front (e ∷ es) k v h = insert-less e es k v h

  first-insert : (j : ℕ) (es : List (ℕ × T)) (k : ℕ) (v : T) → FirstAbove j es → j < k → FirstAbove j (insert es k v)
  first-insert j [] k v h l = l
  first-insert j (e ∷ es) k v h l = elim (rank k e.0) [
    | inl a ↦ subst (FirstAbove j) (sym (insert-less e es k v a)) l
    | inr r ↦ elim r [
      | inl a ↦ subst (FirstAbove j) (sym (insert-same e es k v a)) h
      | inr a ↦ subst (FirstAbove j) (sym (insert-more e es k v a)) h
    ]
  ]

  -- two lines go to their places in either order
  insert-rising : (es : List (ℕ × T)) (j : ℕ) (v : T) (k : ℕ) (w : T) → j < k → insert (insert es j v) k w ≡ insert (insert es k w) j v
  insert-rising [] j v k w c = insert-more (j, v) [] k w c ∙ sym (insert-less (k, w) [] j v c)
  insert-rising (e ∷ es) j v k w c = elim (rank j e.0) [
    | inl a ↦
        ap (λ l. insert l k w) (insert-less e es j v a) ∙ insert-more (j, v) (e ∷ es) k w c
        ∙ sym (insert-front (insert (e ∷ es) k w) j v (first-insert j (e ∷ es) k w a c))
    | inr r ↦ elim r [
      | inl a ↦
          ap (λ l. insert l k w) (insert-same e es j v a) ∙ insert-more (e.0, v) es k w (omega (arith, a, c))
          ∙ sym (ap (λ l. insert l j v) (insert-more e es k w (omega (arith, a, c))) ∙ insert-same e (insert es k w) j v a)
      | inr a ↦
          ap (λ l. insert l k w) (insert-more e es j v a) ∙ insert-more e (insert es j v) k w (omega (arith, a, c))
          ∙ ap (λ l. e ∷ l) (insert-rising es j v k w c)
          ∙ sym (ap (λ l. insert l j v) (insert-more e es k w (omega (arith, a, c))) ∙ insert-more e (insert es k w) j v a)
    ]
  ]

  insert-swap : (es : List (ℕ × T)) (j : ℕ) (v : T) (k : ℕ) (w : T) → (j ≡ k → ⊥) → insert (insert es j v) k w ≡ insert (insert es k w) j v
  insert-swap es j v k w n = elim (rank j k) [
    | inl a ↦ insert-rising es j v k w a
    | inr r ↦ elim r [
      | inl a ↦ absurd (n a)
      | inr a ↦ sym (insert-rising es k w j v a)
    ]
  ]

  insert-twice : (es : List (ℕ × T)) (k : ℕ) (v w : T) → insert (insert es k v) k w ≡ insert es k w
  insert-twice [] k v w = insert-same (k, v) [] k w refl
  insert-twice (e ∷ es) k v w = elim (rank k e.0) [
    | inl a ↦ ap (λ l. insert l k w) (insert-less e es k v a) ∙ insert-same (k, v) (e ∷ es) k w refl ∙ sym (insert-less e es k w a)
    | inr r ↦ elim r [
      | inl a ↦ ap (λ l. insert l k w) (insert-same e es k v a) ∙ insert-same (e.0, v) es k w a ∙ sym (insert-same e es k w a)
      | inr a ↦
          ap (λ l. insert l k w) (insert-more e es k v a) ∙ insert-more e (insert es k v) k w a
          ∙ ap (λ l. e ∷ l) (insert-twice es k v w) ∙ sym (insert-more e es k w a)
    ]
  ]

  length-insert : (es : List (ℕ × T)) (k : ℕ) (v : T) → is_held k es ≡ false → length (insert es k v) ≡ length es + 1
  length-insert [] k v h = omega arith
  length-insert (e ∷ es) k v h =
      let t = held-tail k e es h in
      elim (rank k e.0) [
        | inl a ↦ omega (arith, ap length (insert-less e es k v a))
        | inr r ↦ elim r [
          | inl a ↦ absurd (t.0 a)
          | inr a ↦ omega (arith, ap length (insert-more e es k v a), length-insert es k v t.1)
        ]
      ]

  held-insert : (k : ℕ) (es : List (ℕ × T)) (j : ℕ) (v : T) → (k ≡ j → ⊥) → is_held k (insert es j v) ≡ is_held k es
  held-insert k [] j v n = held-cons k (j, v) [] n
  held-insert k (e ∷ es) j v n = elim (rank j e.0) [
    | inl a ↦ ap (is_held k) (insert-less e es j v a) ∙ held-cons k (j, v) (e ∷ es) n
    | inr r ↦ elim r [
      | inl a ↦
          let m : k ≡ e.0 → ⊥ = λ q. n (q ∙ sym a) in
          ap (is_held k) (insert-same e es j v a) ∙ held-cons k (e.0, v) es m ∙ sym (held-cons k e es m)
      | inr a ↦
          ap (is_held k) (insert-more e es j v a)
          ∙ elim (eqb_tells k e.0) [
            | inl q ↦ held-first k e (insert es j v) q.1 ∙ sym (held-first k e es q.1)
            | inr q ↦ held-cons k e (insert es j v) q.1 ∙ held-insert k es j v n ∙ sym (held-cons k e es q.1)
          ]
    ]
  ]

  held-new : (es : List (ℕ × T)) (k : ℕ) (v : T) → is_held k (insert es k v) ≡ true
  held-new [] k v = held-first k (k, v) [] refl
  held-new (e ∷ es) k v = elim (rank k e.0) [
    | inl a ↦ ap (is_held k) (insert-less e es k v a) ∙ held-first k (k, v) (e ∷ es) refl
    | inr r ↦ elim r [
      | inl a ↦ ap (is_held k) (insert-same e es k v a) ∙ held-first k (e.0, v) es a
      | inr a ↦ ap (is_held k) (insert-more e es k v a) ∙ held-cons k e (insert es k v) (λ q. omega (arith, a, q)) ∙ held-new es k v
    ]
  ]

  -- ---- numbers above and below

  above-not_held : (k : ℕ) (es : List (ℕ × T)) → AreAbove k es → is_held k es ≡ false
  above-not_held k [] h = refl
  above-not_held k (e ∷ es) h = held-cons k e es (λ q. omega (arith, h.0, q)) ∙ above-not_held k es h.1

  above-lower : (j k : ℕ) (es : List (ℕ × T)) → AreAbove j es → k < j → AreAbove k es
  above-lower j k [] h l = tt
  above-lower j k (e ∷ es) h l = (omega (arith, h.0, l), above-lower j k es h.1 l)

  above-at : (k : ℕ) (es : List (ℕ × T)) (i : ℕ) (d : ℕ × T) → AreAbove k es → i < length es → k < (get_or es i d).0
  above-at k [] i d h l = absurd (omega (arith, l))
  above-at k (e ∷ es) zero d h l = h.0
  above-at k (e ∷ es) (suc i) d h l = above-at k es i d h.1 (omega (arith, l))

  above-set : (j : ℕ) (es : List (ℕ × T)) (i k : ℕ) (v : T) → AreAbove j es → j < k → AreAbove j (set es i (k, v))
  above-set j [] i k v h l = tt
  above-set j (e ∷ es) zero k v h l = (l, h.1)
  above-set j (e ∷ es) (suc i) k v h l = (h.0, above-set j es i k v h.1 l)

  above-push : (j : ℕ) (es : List (ℕ × T)) (k : ℕ) (v : T) → AreAbove j es → j < k → AreAbove j (es ++ (k, v) ∷ [])
  above-push j [] k v h l = (l, tt)
  above-push j (e ∷ es) k v h l = (h.0, above-push j es k v h.1 l)

  -- all numbers are below this one
  abbrev pub AreBelow : ℕ → List (ℕ × T) → Type 0
  AreBelow k [] = Unit {0}
  AreBelow k (e ∷ es) = (e.0 < k) × AreBelow k es

  pub below-not_held : (k : ℕ) (es : List (ℕ × T)) → AreBelow k es → is_held k es ≡ false
  below-not_held k [] h = refl
  below-not_held k (e ∷ es) h = held-cons k e es (λ q. omega (arith, h.0, q)) ∙ below-not_held k es h.1

  -- so they are where the last one is
  below-end : (run strays : List (ℕ × T)) (k i : ℕ) → IsRun run strays → length run ≡ suc i → ((d : ℕ × T) → (get_or run i d).0 < k) → AreBelow k run
  below-end [] strays k i h n l = tt
  below-end (e ∷ []) strays k zero h n l = (l e, tt)
  below-end (e ∷ []) strays k (suc i) h n l = absurd (omega (arith, n))
  below-end (e ∷ f ∷ run) strays k zero h n l = absurd (omega (arith, n))
  below-end (e ∷ f ∷ run) strays k (suc i) h n l =
      let rest = below-end (f ∷ run) strays k i h.2 (omega (arith, n)) l in
      (omega (arith, h.0.0, rest.0), rest)

  pub below-last : (run strays : List (ℕ × T)) (k : ℕ) → IsRun run strays → ((d : ℕ × T) → 0 < length run → (get_or run (length run - 1) d).0 < k) → AreBelow k run
  below-last [] strays k h l = tt
  below-last (e ∷ run) strays k h l =
      let last : length (e ∷ run) - 1 ≡ length run = omega arith in
      below-end (e ∷ run) strays k (length run) h refl (λ d. subst (λ n. (get_or (e ∷ run) n d).0 < k) last (l d (omega arith)))

  -- ---- all together

  held-together : (k : ℕ) (run strays : List (ℕ × T)) → is_held k run ≡ false → is_held k (together run strays) ≡ is_held k strays
  held-together k [] strays h = refl
  held-together k (e ∷ run) strays h =
      let t = held-tail k e run h in
      held-insert k (together run strays) e.0 e.1 t.0 ∙ held-together k run strays t.1

  held-run : (k : ℕ) (run strays : List (ℕ × T)) → is_held k run ≡ true → is_held k (together run strays) ≡ true
  held-run k [] strays h = absurd (cc)
  held-run k (e ∷ run) strays h = elim (eqb_tells k e.0) [
    | inl q ↦ ap (λ n. is_held n (insert (together run strays) e.0 e.1)) q.1 ∙ held-new (together run strays) e.0 e.1
    | inr q ↦ held-insert k (together run strays) e.0 e.1 q.1 ∙ held-run k run strays (sym (held-cons k e run q.1) ∙ h)
  ]

  -- a stray more
  pub insert-together : (run strays : List (ℕ × T)) (k : ℕ) (v : T) → is_held k run ≡ false → together run (insert strays k v) ≡ insert (together run strays) k v
  insert-together [] strays k v h = refl
  insert-together (e ∷ run) strays k v h =
      let t = held-tail k e run h in
      ap (λ l. insert l e.0 e.1) (insert-together run strays k v t.1) ∙ insert-swap (together run strays) k v e.0 e.1 t.0

  pub run-insert : (run strays : List (ℕ × T)) (k : ℕ) (v : T) → IsRun run strays → is_held k run ≡ false → IsRun run (insert strays k v)
  run-insert [] strays k v h n = tt
  run-insert (e ∷ run) strays k v h n =
      let t = held-tail k e run n in
      (h.0, held-insert e.0 strays k v (λ q. t.0 (sym q)) ∙ h.1, run-insert run strays k v h.2 t.1)

  -- a line more at the end of the run
  together-push : (run strays : List (ℕ × T)) (k : ℕ) (v : T) → together (run ++ (k, v) ∷ []) strays ≡ together run (insert strays k v)
  together-push [] strays k v = refl
  together-push (e ∷ run) strays k v = ap (λ l. insert l e.0 e.1) (together-push run strays k v)

  pub push-together : (run strays : List (ℕ × T)) (k : ℕ) (v : T) → AreBelow k run → together (run ++ (k, v) ∷ []) strays ≡ insert (together run strays) k v
  push-together run strays k v h = together-push run strays k v ∙ insert-together run strays k v (below-not_held k run h)

  pub run-push : (run strays : List (ℕ × T)) (k : ℕ) (v : T) → IsRun run strays → AreBelow k run → is_held k strays ≡ false → IsRun (run ++ (k, v) ∷ []) strays
  run-push [] strays k v h b n = (tt, n, tt)
  run-push (e ∷ run) strays k v h b n = (above-push e.0 run k v h.0 b.0, h.1, run-push run strays k v h.2 b.1 n)

  pub new-together : (run strays : List (ℕ × T)) (k : ℕ) → AreBelow k run → is_held k strays ≡ false → is_held k (together run strays) ≡ false
  new-together run strays k b n = held-together k run strays (below-not_held k run b) ∙ n

  pub stray-together : (run strays : List (ℕ × T)) (k : ℕ) → is_held k run ≡ false → is_held k (together run strays) ≡ is_held k strays
  stray-together run strays k n = held-together k run strays n

  pub length-together : (run strays : List (ℕ × T)) → IsRun run strays → length (together run strays) ≡ length run + length strays
  length-together [] strays h = omega arith
  length-together (e ∷ run) strays h =
      let n : is_held e.0 (together run strays) ≡ false = held-together e.0 run strays (above-not_held e.0 run h.0) ∙ h.1 in
      omega (arith, length-insert (together run strays) e.0 e.1 n, length-together run strays h.2)

  -- ---- a line of the run is exchanged for another of its number

  pub set-together : (run strays : List (ℕ × T)) (i : ℕ) (d : ℕ × T) (k : ℕ) (v : T) → IsRun run strays → i < length run → (get_or run i d).0 ≡ k →
      together (set run i (k, v)) strays ≡ insert (together run strays) k v
  set-together [] strays i d k v h l q = absurd (omega (arith, l))
  set-together (e ∷ run) strays zero d k v h l q =
      sym (ap (λ n. insert (insert (together run strays) n e.1) k v) q ∙ insert-twice (together run strays) k e.1 v)
  set-together (e ∷ run) strays (suc i) d k v h l q =
      let below : e.0 < (get_or run i d).0 = above-at e.0 run i d h.0 (omega (arith, l)) in
      ap (λ ls. insert ls e.0 e.1) (set-together run strays i d k v h.2 (omega (arith, l)) q)
      ∙ insert-swap (together run strays) k v e.0 e.1 (λ same. omega (arith, below, q, same))

  pub run-set : (run strays : List (ℕ × T)) (i : ℕ) (d : ℕ × T) (k : ℕ) (v : T) → IsRun run strays → i < length run → (get_or run i d).0 ≡ k → IsRun (set run i (k, v)) strays
  run-set [] strays i d k v h l q = absurd (omega (arith, l))
  run-set (e ∷ run) strays zero d k v h l q = subst (λ n. AreAbove n run × (is_held n strays ≡ false) × IsRun run strays) q h
  run-set (e ∷ run) strays (suc i) d k v h l q =
      let below : e.0 < (get_or run i d).0 = above-at e.0 run i d h.0 (omega (arith, l)) in
      (above-set e.0 run i k v h.0 (omega (arith, below, q)), h.1, run-set run strays i d k v h.2 (omega (arith, l)) q)

  held-at : (run : List (ℕ × T)) (i : ℕ) (d : ℕ × T) (k : ℕ) → i < length run → (get_or run i d).0 ≡ k → is_held k run ≡ true
  held-at [] i d k l q = absurd (omega (arith, l))
  held-at (e ∷ run) zero d k l q = held-first k e run (sym q)
  held-at (e ∷ run) (suc i) d k l q = elim (eqb_tells k e.0) [
    | inl s ↦ held-first k e run s.1
    | inr s ↦ held-cons k e run s.1 ∙ held-at run i d k (omega (arith, l)) q
  ]

  pub old-together : (run strays : List (ℕ × T)) (i : ℕ) (d : ℕ × T) (k : ℕ) → i < length run → (get_or run i d).0 ≡ k → is_held k (together run strays) ≡ true
  old-together run strays i d k l q = held-run k run strays (held-at run i d k l q)

  -- ---- a number above all strays

  pub strays-none : (strays : List (ℕ × T)) (k : ℕ) → (0 < length strays → false ≡ true) → is_held k strays ≡ false
  strays-none [] k h = refl
  strays-none (e ∷ strays) k h = absurd (let q = h (omega arith) in cc)

  pub strays-below : (strays : List (ℕ × T)) (last k : ℕ) → All (λ n. is_lt (nat_cmp last n) ≡ false) (keys_of strays) → nat_lt last k ≡ true → is_held k strays ≡ false
  strays-below [] last k h l = refl
  strays-below (e ∷ strays) last k h l =
      let first : is_lt (nat_cmp last e.0) ≡ false = h 0 0 (omega arith) in
      held-cons k e strays (λ q. elim (leb_tells (suc last) e.0) [
        | inl p ↦ absurd (let r = rw p.0 at first in cc)
        | inr p ↦ elim (leb_tells (suc last) k) [
          | inl m ↦ omega (arith, p.1, m.1, q)
          | inr m ↦ absurd (let r = rw m.0 at l in cc)
        ]
      ])
      ∙ strays-below strays last k (λ j d s. h (suc j) d (omega (arith, s))) l

  -- ---- more lines than may be are held

  -- then the first one is given out
  pub first-given : (held : List (ℕ × T)) (last : Option ℕ) (number : ℕ) (line : T) (all : List (ℕ × T)) (size lowest : ℕ) (given : T) (rest : List (ℕ × T)) →
      is_late number last ≡ false → is_held number held ≡ false → all ≡ insert held number line → size ≡ length all → 65536 < size → all ≡ (lowest, given) ∷ rest →
      (record { held = rest; last = Some lowest }, Given lowest given) ≡ put_of record { held = held; last = last } number line
  unfolding put_of
  first-given held last number line all size lowest given rest late had goes is more first =
      let many : nat_le (length all) 65536 ≡ false = grind (arith, nat_tests) in
      rw (late, had, ← goes, many, first) refl

  -- ---- a number is looked for in the run

  numbers-rise : (run strays : List (ℕ × T)) → IsRun run strays → (i j : ℕ) (d : ℕ × T) → i ≤ j → j < length run → (get_or run i d).0 ≤ (get_or run j d).0
  numbers-rise [] strays h i j d p l = absurd (omega (arith, l))
  numbers-rise (e ∷ run) strays h zero zero d p l = omega arith
  numbers-rise (e ∷ run) strays h zero (suc j) d p l = omega (arith, above-at e.0 run j d h.0 (omega (arith, l)))
  numbers-rise (e ∷ run) strays h (suc i) zero d p l = absurd (omega (arith, p))
  numbers-rise (e ∷ run) strays h (suc i) (suc j) d p l = numbers-rise run strays h.2 i j d (omega (arith, p)) (omega (arith, l))

  absent : (run : List (ℕ × T)) (k : ℕ) → ((j : ℕ) (d : ℕ × T) → j < length run → (get_or run j d).0 ≡ k → ⊥) → is_held k run ≡ false
  absent [] k f = refl
  absent (e ∷ run) k f = held-cons k e run (λ q. f 0 e (omega arith) (sym q)) ∙ absent run k (λ j d l. f (suc j) d (omega (arith, l)))

  -- where a number that is not held would stand: lower ones are in front of it, and higher ones behind
  pub record IsGap (run : List (ℕ × T)) (k i : ℕ) : Type 0 where
    pub within : i ≤ length run
    pub lower : (j : ℕ) (d : ℕ × T) → j < i → (get_or run j d).0 < k
    pub higher : (j : ℕ) (d : ℕ × T) → i ≤ j → j < length run → k < (get_or run j d).0

  pub gap-not_held : (run : List (ℕ × T)) (k i : ℕ) → IsGap run k i → is_held k run ≡ false
  gap-not_held run k i gap = absent run k (λ j d l q. elim (leb_tells (suc j) i) [
    | inl before ↦ omega (arith, gap.lower j d before.1, q)
    | inr behind ↦ omega (arith, gap.higher j d (omega (arith, behind.1)) l, q)
  ])

  pub searched : (run strays : List (ℕ × T)) (k : ℕ) → IsRun run strays → (r : Result ℕ ℕ) → IsSearchInRange r (length run) → IsBinarySearchResult (λ (e : ℕ × T). nat_cmp e.0 k) run r →
      MatchResult r (λ i. (i < length run) × ((d : ℕ × T) → (get_or run i d).0 ≡ k)) (IsGap run k)
  searched run strays k h (Ok i) b p = (b, λ d. ranked _ k _ (sym (p d)))
  searched run strays k h (Err i) b p =
      let rises : IsNonDecreasingBy (λ (e : ℕ × T). ordering_index (nat_cmp e.0 k)) run = λ x y d le lt. order-rises _ _ k (numbers-rise run strays h x y d le lt) in
      let parts = p rises in record {
        within = b;
        lower = λ j d l. ranked _ k _ (sym (parts.0 j d (omega arith) l));
        higher = λ j d l m. ranked _ k _ (sym (parts.1 j d l m));
      }

  pub near : (run strays : List (ℕ × T)) (k i : ℕ) → IsRun run strays → IsNear run k i → IsGap run k i
  near run strays k i h n = record {
    within = n.within;
    lower = λ j d l. omega (arith, numbers-rise run strays h j (i - 1) d (omega (arith, l)) (omega (arith, l, n.within)), n.lower d (omega (arith, l)));
    higher = n.higher;
  }

  -- ---- a line of the run goes to its place

  insert_at-together : (run strays : List (ℕ × T)) (i k : ℕ) (v : T) → is_held k run ≡ false → i ≤ length run → together (insert_at run i (k, v)) strays ≡ insert (together run strays) k v
  insert_at-together run strays zero k v n l = refl
  insert_at-together [] strays (suc i) k v n l = absurd (omega (arith, l))
  insert_at-together (e ∷ run) strays (suc i) k v n l =
      let t = held-tail k e run n in
      ap (λ ls. insert ls e.0 e.1) (insert_at-together run strays i k v t.1 (omega (arith, l))) ∙ insert-swap (together run strays) k v e.0 e.1 t.0

  pub gap-together : (run strays : List (ℕ × T)) (i k : ℕ) (v : T) → IsGap run k i → together (insert_at run i (k, v)) strays ≡ insert (together run strays) k v
  gap-together run strays i k v gap = insert_at-together run strays i k v (gap-not_held run k i gap) gap.within

  above-insert : (j : ℕ) (es : List (ℕ × T)) (i k : ℕ) (v : T) → AreAbove j es → j < k → i ≤ length es → AreAbove j (insert_at es i (k, v))
  above-insert j es zero k v h l b = (l, h)
  above-insert j [] (suc i) k v h l b = absurd (omega (arith, b))
  above-insert j (e ∷ es) (suc i) k v h l b = (h.0, above-insert j es i k v h.1 l (omega (arith, b)))

  above-all : (k : ℕ) (es : List (ℕ × T)) → ((j : ℕ) (d : ℕ × T) → j < length es → k < (get_or es j d).0) → AreAbove k es
  above-all k [] h = tt
  above-all k (e ∷ es) h = (h 0 e (omega arith), above-all k es (λ j d l. h (suc j) d (omega (arith, l))))

  pub run-gap : (run strays : List (ℕ × T)) (i k : ℕ) (v : T) → IsRun run strays → IsGap run k i → is_held k strays ≡ false → IsRun (insert_at run i (k, v)) strays
  run-gap run strays zero k v h gap n = (above-all k run (λ j d l. gap.higher j d (omega arith) l), n, h)
  run-gap [] strays (suc i) k v h gap n = absurd (omega (arith, gap.within))
  run-gap (e ∷ run) strays (suc i) k v h gap n =
      let rest : IsGap run k i = record {
        within = omega (arith, gap.within);
        lower = λ j d l. gap.lower (suc j) d (omega (arith, l));
        higher = λ j d l m. gap.higher (suc j) d (omega (arith, l)) (omega (arith, m));
      } in
      (above-insert e.0 run i k v h.0 (gap.lower 0 e (omega arith)) rest.within, h.1, run-gap run strays i k v h.2 rest n)

  -- ---- the lowest number

  first-together : (k : ℕ) (run strays : List (ℕ × T)) → AreAbove k run → FirstAbove k strays → FirstAbove k (together run strays)
  first-together k [] strays h f = f
  first-together k (e ∷ run) strays h f = first-insert k (together run strays) e.0 e.1 (first-together k run strays h.1 f) h.0

  first-of : (e : ℕ × T) (run strays : List (ℕ × T)) → is_first (e ∷ run) strays ≡ true → FirstAbove e.0 strays
  first-of e run [] f = tt
  first-of e run (t ∷ strays) f = elim (leb_tells (suc e.0) t.0) [
    | inl p ↦ p.1
    | inr p ↦ absurd (let q = rw p.0 at f in cc)
  ]

  -- it is the first one of the run
  run-first : (e : ℕ × T) (run strays : List (ℕ × T)) → IsRun (e ∷ run) strays → is_first (e ∷ run) strays ≡ true → together (e ∷ run) strays ≡ e ∷ together run strays
  run-first e run strays h f = insert-front (together run strays) e.0 e.1 (first-together e.0 run strays h.0 (first-of e run strays f))

  -- it is that of the first stray
  above-stray : (run : List (ℕ × T)) (t : ℕ × T) (strays : List (ℕ × T)) → IsRun run (t ∷ strays) → is_first run (t ∷ strays) ≡ false → AreAbove t.0 run
  above-stray [] t strays h f = tt
  above-stray (e ∷ run) t strays h f = elim (leb_tells (suc e.0) t.0) [
    | inl p ↦ absurd (let q = rw p.0 at f in cc)
    | inr p ↦
        let apart = (held-tail e.0 t strays h.1).0 in
        let below : t.0 < e.0 = omega (arith, p.1, apart) in
        (below, above-lower e.0 t.0 run h.0 below)
  ]

  stray-front : (run : List (ℕ × T)) (t : ℕ × T) (strays : List (ℕ × T)) → AreAbove t.0 run → together run (t ∷ strays) ≡ t ∷ together run strays
  stray-front [] t strays h = refl
  stray-front (e ∷ run) t strays h = ap (λ l. insert l e.0 e.1) (stray-front run t strays h.1) ∙ insert-more t (together run strays) e.0 e.1 h.0

  stray-first : (run : List (ℕ × T)) (t : ℕ × T) (strays : List (ℕ × T)) → IsRun run (t ∷ strays) → is_first run (t ∷ strays) ≡ false → together run (t ∷ strays) ≡ t ∷ together run strays
  stray-first run t strays h f = stray-front run t strays (above-stray run t strays h f)

  run-without : (run : List (ℕ × T)) (t : ℕ × T) (strays : List (ℕ × T)) → IsRun run (t ∷ strays) → IsRun run strays
  run-without [] t strays h = tt
  run-without (e ∷ run) t strays h = (h.0, (held-tail e.0 t strays h.1).1, run-without run t strays h.2)

  -- ---- what is given out

  pub run-gives : (r : Option (ℕ × T)) (old new strays all : List (ℕ × T)) → together old strays ≡ all → IsRun old strays → is_first old strays ≡ true → old ≡ option_to_list r ++ new →
      IfSome r (λ line. all ≡ line ∷ together new strays)
  run-gives None old new strays all v h f o = tt
  run-gives (Some e) old new strays all v h f o =
      sym v ∙ ap (λ l. together l strays) o ∙ run-first e new strays (subst (λ l. IsRun l strays) o h) (sym (ap (λ l. is_first l strays) o) ∙ f)

  pub strays-give : (r : Option (ℕ × T)) (run old new all : List (ℕ × T)) → together run old ≡ all → IsRun run old → is_first run old ≡ false → IfSome r (λ t. old ≡ t ∷ new) →
      IfSome r (λ line. all ≡ line ∷ together run new)
  strays-give None run old new all v h f o = tt
  strays-give (Some t) run old new all v h f o =
      sym v ∙ ap (together run) o ∙ stray-first run t new (subst (IsRun run) o h) (sym (ap (is_first run) o) ∙ f)

  pub run-popped : (r : Option (ℕ × T)) (run old new : List (ℕ × T)) → IsRun run old → IfSome r (λ t. old ≡ t ∷ new) → IfNone r ((old ≡ []) × (new ≡ [])) → IsRun run new
  run-popped None run old new h s n = subst (IsRun run) (n.0 ∙ sym n.1) h
  run-popped (Some t) run old new h s n = run-without run t new (subst (IsRun run) s h)

  -- where no stray is left and the run gives none, nothing is held
  pub none-left : (r : Option (ℕ × T)) (run old new all : List (ℕ × T)) → together run old ≡ all → is_first run old ≡ false → IfNone r ((old ≡ []) × (new ≡ [])) →
      IfNone r ((all ≡ []) × (together run new ≡ []))
  none-left (Some t) run old new all v f n = tt
  none-left None [] old new all v f n = (sym v ∙ n.0, n.1)
  none-left None (e ∷ run) old new all v f n = absurd (let q = sym (ap (is_first (e ∷ run)) n.0) ∙ f in cc)

  -- ---- a line goes to the strays

  pub run-strays : {E : Type 0} (r : Result Bool E) (run old new : List (ℕ × T)) (k : ℕ) (v : T) → IsRun run old → is_held k run ≡ false →
      OnOk r (new ≡ insert old k v) → OnErr r (new ≡ old) → IsRun run new
  run-strays (Ok b) run old new k v h n o e = subst (IsRun run) (sym o) (run-insert run old k v h n)
  run-strays (Err f) run old new k v h n o e = subst (IsRun run) (sym e) h
