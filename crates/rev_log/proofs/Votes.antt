-- Votes, counted and halved phase by phase.
use Rattle.std.proofs.Common.{◌≡◌, ℕ, suc, zero, ◌+◌, ◌-◌, ◌/◌, ◌<◌, ◌≤◌, max, Bool, true, false, cond, eqb, ltb, leb, List, [], ◌∷◌, ◌++◌, length, map, take, get_or, replicate, ◌⊎◌, inl, inr, refl, sym, ◌∙◌, ap, arith}
use Rattle.std.proofs.lemmas.Bool.{true≢false, leb-false, ltb-true, ltb-false, eqb-true, eqb-false, cases_eq, cases_lt}
use Rattle.std.proofs.lemmas.Grind.{same_number_lists}
use Rattle.std.proofs.lemmas.List.{take_more, take_all, get_or-map, length-map}
use Rattle.std.proofs.lemmas.List.Elements.{All-from_get_or, All-replicate}
use Rattle.std.proofs.lemmas.List.Folds.{list_any_at}
use Rattle.std.specs.List.{All, list_any}
use Rattle.rev_watch.specs.declared.event.Timestamp.{Timestamp}
use Rattle.rev_log.specs.declared.seconds.Runs.{Runs}
use Rattle.rev_log.specs.Seconds.{count, counts_for, counted, half, aged, most, next_runs, IsMiddle, IsBest}

-- ---- one vote more

module _ (stored evicted : Timestamp) (elapsed : ℕ) where
  pub length-counted : (n : ℕ) (xs : List ℕ) → length (counted stored evicted elapsed n xs) ≡ length xs
  length-counted n [] = refl
  length-counted n (x ∷ xs) = ap suc (length-counted (suc n) xs)

  pub get_or-counted : (n : ℕ) (xs : List ℕ) (k : ℕ) → k < length xs → get_or (counted stored evicted elapsed n xs) k 0 ≡ count stored evicted elapsed (n + k) (get_or xs k 0)
  get_or-counted n [] k h = absurd (omega arith)
  get_or-counted n (x ∷ xs) zero h = let z : n ≡ n + 0 = omega arith in ap (λ m. count stored evicted elapsed m x) z
  get_or-counted n (x ∷ xs) (suc k) h = get_or-counted (suc n) xs k (omega arith) ∙ (let e : suc n + k ≡ n + suc k = omega arith in ap (λ m. count stored evicted elapsed m (get_or xs k 0)) e)

  -- so far the votes were counted, and those from the phase on were not
  pub record IsCounted (old new : List ℕ) (phase : ℕ) : Type 0 where
    pub long : length new ≡ length old
    pub done : (k : ℕ) → k < phase → get_or new k 0 ≡ count stored evicted elapsed k (get_or old k 0)
    pub rest : (k : ℕ) → phase ≤ k → get_or new k 0 ≡ get_or old k 0

  pub counted_all : (old new : List ℕ) (phase : ℕ) → length old ≤ phase → IsCounted old new phase → new ≡ counted stored evicted elapsed 0 old
  counted_all old new phase h s =
      same_number_lists new (counted stored evicted elapsed 0 old) (s.long ∙ sym (length-counted 0 old))
      (λ k l. let within : k < length old = omega (arith, l, s.long) in
      s.done k (omega (arith, within, h)) ∙ (let e : k ≡ 0 + k = omega arith in ap (λ m. count stored evicted elapsed m (get_or old k 0)) e) ∙ sym (get_or-counted 0 old k within))

  more : (b : Bool) (n : ℕ) → cond b (n + 1) n ≤ n + 1
  more true n = omega arith
  more false n = omega arith

  -- none is above 65536 then
  pub few-counted : (xs : List ℕ) → All (λ n. n < 65536) xs → All (λ n. n ≤ 65536) (counted stored evicted elapsed 0 xs)
  few-counted xs few =
      All-from_get_or (λ n. n ≤ 65536) (counted stored evicted elapsed 0 xs) 0
      (λ k l. let within : k < length xs = omega (arith, l, length-counted 0 xs) in
      let e = get_or-counted 0 xs k within in
      let h = more (counts_for stored evicted elapsed (0 + k)) (get_or xs k 0) in
      omega (arith, e, h, few k 0 within))

-- ---- half as many

pub record IsHalved (old new : List ℕ) (phase : ℕ) : Type 0 where
  pub long : length new ≡ length old
  pub done : (k : ℕ) → k < phase → get_or new k 0 ≡ half (get_or old k 0)
  pub rest : (k : ℕ) → phase ≤ k → get_or new k 0 ≡ get_or old k 0

pub halved_all : (old new : List ℕ) (phase : ℕ) → length old ≤ phase → IsHalved old new phase → new ≡ map half old
halved_all old new phase h s =
    same_number_lists new (map half old) (s.long ∙ sym (length-map old half))
    (λ k l. let within : k < length old = omega (arith, l, s.long) in
    s.done k (omega (arith, within, h)) ∙ sym (get_or-map half old k 0 0 within))

-- none has 65536 votes once they are aged
pub few-aged : (xs : List ℕ) → All (λ n. n ≤ 65536) xs → All (λ n. n < 65536) (aged xs)
few-aged xs few = by (list_any (leb 65536) xs) refl where
  below : list_any (leb 65536) xs ≡ false → (k : ℕ) → k < length xs → get_or xs k 0 < 65536
  below none k l = at (leb 65536 (get_or xs k 0)) refl where
    at : (b : Bool) → leb 65536 (get_or xs k 0) ≡ b → get_or xs k 0 < 65536
    at true t = absurd (true≢false (sym (list_any_at (leb 65536) xs k 0 l t) ∙ none))
    at false t = leb-false 65536 (get_or xs k 0) t

  by : (b : Bool) → list_any (leb 65536) xs ≡ b → All (λ n. n < 65536) (cond b (map half xs) xs)
  by true t =
      All-from_get_or (λ n. n < 65536) (map half xs) 0
      (λ k l. let within : k < length xs = omega (arith, l, length-map xs half) in
      let e = get_or-map half xs k 0 0 within in
      let h = few k 0 within in
      omega (arith, e, h))
  by false t = All-from_get_or (λ n. n < 65536) xs 0 (below t)

-- ---- the most votes

most-push : (xs : List ℕ) (x : ℕ) → most (xs ++ x ∷ []) ≡ max (most xs) x
most-push [] x = omega arith
most-push (y ∷ xs) x = let h = most-push xs x in omega (arith, h)

pub most-more : (xs : List ℕ) (i : ℕ) → i < length xs → most (take (i + 1) xs) ≡ max (most (take i xs)) (get_or xs i 0)
most-more xs i h = ap most (take_more xs i 0 h) ∙ most-push (take i xs) (get_or xs i 0)

pub most-all : (xs : List ℕ) (i : ℕ) → length xs ≤ i → most (take i xs) ≡ most xs
most-all xs i h = ap most (take_all i xs h)

most-replicate : (n : ℕ) → most (replicate n 0) ≡ 0
most-replicate zero = refl
most-replicate (suc n) = let h = most-replicate n in omega (arith, h)

-- without votes
pub best-none : (votes : List ℕ) (phase : ℕ) → most votes ≡ 0 → phase ≡ 0 → IsBest votes phase
best-none votes phase e p = record { none = λ _. p; some = λ h. absurd (omega (arith, e, h)) }

pub best-some : (votes : List ℕ) (phase : ℕ) → (most votes ≡ 0 → ⊥) → IsMiddle votes phase → IsBest votes phase
best-some votes phase n m = record { none = λ e. absurd (n e); some = λ _. m }

pub best-new : (n : ℕ) → IsBest (replicate n 0) 0
best-new n = best-none (replicate n 0) 0 (most-replicate n) refl

pub few-new : (n : ℕ) → All (λ m. m < 65536) (replicate n 0)
few-new n = All-replicate (λ m. m < 65536) n 0 (omega arith)

-- ---- the longest run

-- what is known of the runs in front of a phase: the one that ends there, and the longest
pub record HasRun (votes : List ℕ) (phase run start longest : ℕ) : Type 0 where
  pub here : run ≤ phase
  pub ends : (k : ℕ) → phase ≤ k + run → k < phase → get_or votes k 0 ≡ most votes
  pub stops : (k : ℕ) → suc k + run ≡ phase → get_or votes k 0 ≡ most votes → ⊥
  pub within : start + longest ≤ phase
  pub best : (k : ℕ) → start ≤ k → k < start + longest → get_or votes k 0 ≡ most votes
  pub most_long : (s n : ℕ) → s + n ≤ phase → ((k : ℕ) → s ≤ k → k < s + n → get_or votes k 0 ≡ most votes) → n ≤ longest
  pub first : (s : ℕ) → s + longest ≤ phase → ((k : ℕ) → s ≤ k → k < s + longest → get_or votes k 0 ≡ most votes) → start ≤ s

runs_none : (votes : List ℕ) → HasRun votes 0 0 0 0
runs_none votes = record {
  here = omega arith;
  ends = λ k a b. absurd (omega arith);
  stops = λ k a b. omega arith;
  within = omega arith;
  best = λ k a b. absurd (omega arith);
  most_long = λ s n a b. omega arith;
  first = λ s a b. omega arith;
}

-- a run that goes on begins no earlier than the one that ends here
begins : (votes : List ℕ) (phase run start longest s n : ℕ) → HasRun votes phase run start longest → s + n ≡ suc phase → 0 < n → ((k : ℕ) → s ≤ k → k < s + n → get_or votes k 0 ≡ most votes) → n ≤ run + 1
begins votes phase run start longest s n h e p all = by (cases_lt (run + 1) n) where
  by : (run + 1 < n) ⊎ (n ≤ run + 1) → n ≤ run + 1
  by (inr l) = l
  by (inl l) = absurd (h.stops (phase - suc run) (omega (arith, l, e)) (all (phase - suc run) (omega (arith, l, e)) (omega (arith, l, e))))

module _ (votes : List ℕ) (phase run start longest : ℕ) (h : HasRun votes phase run start longest) where
  -- the phase has the most votes, and the run that it ends is the longest
  runs_longer : get_or votes phase 0 ≡ most votes → longest < run + 1 → HasRun votes (phase + 1) (run + 1) (phase + 1 - (run + 1)) (run + 1)
  runs_longer e l =
      let ends : (k : ℕ) → phase + 1 ≤ k + (run + 1) → k < phase + 1 → get_or votes k 0 ≡ most votes = λ k a b. at k a (cases_eq k phase) b in
      record {
        here = omega (arith, h.here);
        ends = ends;
        stops = λ k a b. h.stops k (omega (arith, a)) b;
        within = omega (arith, h.here);
        best = λ k a b. ends k (omega (arith, a, b, h.here)) (omega (arith, b, h.here));
        most_long = λ s n a b. long s n a b (cases_lt (s + n) (phase + 1));
        first = λ s a b. begin s a b (cases_lt (s + (run + 1)) (phase + 1));
      }
    where
      at : (k : ℕ) → phase + 1 ≤ k + (run + 1) → (k ≡ phase) ⊎ (k ≡ phase → ⊥) → k < phase + 1 → get_or votes k 0 ≡ most votes
      at k a (inl t) b = ap (λ i. get_or votes i 0) t ∙ e
      at k a (inr t) b = h.ends k (omega (arith, a)) (omega (arith, b, t))

      long : (s n : ℕ) → s + n ≤ phase + 1 → ((k : ℕ) → s ≤ k → k < s + n → get_or votes k 0 ≡ most votes) → (s + n < phase + 1) ⊎ (phase + 1 ≤ s + n) → n ≤ run + 1
      long s n a b (inl t) = let m = h.most_long s n (omega (arith, t)) b in omega (arith, m, l)
      long s n a b (inr t) = by (cases_lt 0 n) where
        by : (0 < n) ⊎ (n ≤ 0) → n ≤ run + 1
        by (inl p) = begins votes phase run start longest s n h (omega (arith, a, t)) p b
        by (inr p) = omega (arith, p)

      begin : (s : ℕ) → s + (run + 1) ≤ phase + 1 → ((k : ℕ) → s ≤ k → k < s + (run + 1) → get_or votes k 0 ≡ most votes) → (s + (run + 1) < phase + 1) ⊎ (phase + 1 ≤ s + (run + 1)) → phase + 1 - (run + 1) ≤ s
      begin s a b (inl t) = absurd (let m = h.most_long s (run + 1) (omega (arith, t)) b in omega (arith, m, l))
      begin s a b (inr t) = omega (arith, t)

  -- the phase has the most votes, and another run is as long as the one that it ends
  runs_on : get_or votes phase 0 ≡ most votes → run + 1 ≤ longest → HasRun votes (phase + 1) (run + 1) start longest
  runs_on e l = record {
    here = omega (arith, h.here);
    ends = λ k a b. at k a (cases_eq k phase) b;
    stops = λ k a b. h.stops k (omega (arith, a)) b;
    within = omega (arith, h.within);
    best = h.best;
    most_long = λ s n a b. long s n a b (cases_lt (s + n) (phase + 1));
    first = λ s a b. begin s a b (cases_lt (s + longest) (phase + 1));
  }
    where
      at : (k : ℕ) → phase + 1 ≤ k + (run + 1) → (k ≡ phase) ⊎ (k ≡ phase → ⊥) → k < phase + 1 → get_or votes k 0 ≡ most votes
      at k a (inl t) b = ap (λ i. get_or votes i 0) t ∙ e
      at k a (inr t) b = h.ends k (omega (arith, a)) (omega (arith, b, t))

      long : (s n : ℕ) → s + n ≤ phase + 1 → ((k : ℕ) → s ≤ k → k < s + n → get_or votes k 0 ≡ most votes) → (s + n < phase + 1) ⊎ (phase + 1 ≤ s + n) → n ≤ longest
      long s n a b (inl t) = h.most_long s n (omega (arith, t)) b
      long s n a b (inr t) = by (cases_lt 0 n) where
        by : (0 < n) ⊎ (n ≤ 0) → n ≤ longest
        by (inl p) = let m = begins votes phase run start longest s n h (omega (arith, a, t)) p b in omega (arith, m, l)
        by (inr p) = omega (arith, p)

      begin : (s : ℕ) → s + longest ≤ phase + 1 → ((k : ℕ) → s ≤ k → k < s + longest → get_or votes k 0 ≡ most votes) → (s + longest < phase + 1) ⊎ (phase + 1 ≤ s + longest) → start ≤ s
      begin s a b (inl t) = h.first s (omega (arith, t)) b
      begin s a b (inr t) = let w = h.within in omega (arith, w, t)

  -- the phase has fewer
  runs_end : (get_or votes phase 0 ≡ most votes → ⊥) → HasRun votes (phase + 1) 0 start longest
  runs_end e = record {
    here = omega arith;
    ends = λ k a b. absurd (omega (arith, a, b));
    stops = λ k a b. e (ap (λ i. get_or votes i 0) (omega (arith, a)) ∙ b);
    within = omega (arith, h.within);
    best = h.best;
    most_long = λ s n a b. long s n a b (cases_lt (s + n) (phase + 1));
    first = λ s a b. begin s a b (cases_lt (s + longest) (phase + 1));
  }
    where
      long : (s n : ℕ) → s + n ≤ phase + 1 → ((k : ℕ) → s ≤ k → k < s + n → get_or votes k 0 ≡ most votes) → (s + n < phase + 1) ⊎ (phase + 1 ≤ s + n) → n ≤ longest
      long s n a b (inl t) = h.most_long s n (omega (arith, t)) b
      long s n a b (inr t) = by (cases_lt 0 n) where
        by : (0 < n) ⊎ (n ≤ 0) → n ≤ longest
        by (inl p) = absurd (e (b phase (omega (arith, a, t, p)) (omega (arith, t))))
        by (inr p) = omega (arith, p)

      begin : (s : ℕ) → s + longest ≤ phase + 1 → ((k : ℕ) → s ≤ k → k < s + longest → get_or votes k 0 ≡ most votes) → (s + longest < phase + 1) ⊎ (phase + 1 ≤ s + longest) → start ≤ s
      begin s a b (inl t) = h.first s (omega (arith, t)) b
      begin s a b (inr t) = let w = h.within in omega (arith, w, t)

  -- at the end
  middle_all : length votes ≡ phase → (result : ℕ) → result ≡ start + longest / 2 → IsMiddle votes result
  middle_all e result r = record {
    start = start;
    count = longest;
    run = record { within = omega (arith, e, h.within); best = h.best };
    longest = λ other n a. h.most_long other n (omega (arith, e, a.within)) a.best;
    first = λ other a. h.first other (omega (arith, e, a.within)) a.best;
    middle = r;
  }

-- the same of the runs that the code keeps
pub record HasRuns (votes : List ℕ) (phase : ℕ) (runs : Runs) : Type 0 where
  pub has : HasRun votes phase runs.run runs.start runs.longest

pub has_none : (votes : List ℕ) → HasRuns votes 0 (record { run = 0; start = 0; longest = 0 })
has_none votes = record { has = runs_none votes }

pub has_more : (votes : List ℕ) (phase : ℕ) (runs : Runs) (best : Bool) → best ≡ eqb (get_or votes phase 0) (most votes) → HasRuns votes phase runs → HasRuns votes (phase + 1) (next_runs runs phase best)
has_more votes phase runs true e h = by (ltb runs.longest (runs.run + 1)) refl where
  same : get_or votes phase 0 ≡ most votes
  same = eqb-true (get_or votes phase 0) (most votes) (sym e)

  by : (b : Bool) → ltb runs.longest (runs.run + 1) ≡ b → HasRuns votes (phase + 1) (cond b (record { run = runs.run + 1; start = phase + 1 - (runs.run + 1); longest = runs.run + 1 }) (record { run = runs.run + 1; start = runs.start; longest = runs.longest }))
  by true t = record { has = runs_longer votes phase runs.run runs.start runs.longest h.has same (ltb-true runs.longest (runs.run + 1) t) }
  by false t = record { has = runs_on votes phase runs.run runs.start runs.longest h.has same (ltb-false runs.longest (runs.run + 1) t) }
has_more votes phase runs false e h = record { has = runs_end votes phase runs.run runs.start runs.longest h.has (eqb-false (get_or votes phase 0) (most votes) (sym e)) }

pub middle_has : (votes : List ℕ) (phase : ℕ) (runs : Runs) → HasRuns votes phase runs → length votes ≡ phase → (result : ℕ) → result ≡ runs.start + runs.longest / 2 → IsMiddle votes result
middle_has votes phase runs h e result r = middle_all votes phase runs.run runs.start runs.longest h.has e result r
