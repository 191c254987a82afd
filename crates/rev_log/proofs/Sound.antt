-- What the tables and lists say of the events that wait, where events come and go.
use Rattle.std.proofs.Common.{◌≡◌, ℕ, ℤ, suc, ◌+◌, ◌-◌, ◌<◌, ◌≤◌, ◌^◌, Bool, true, false, cond, leb, List, [], ◌∷◌, ◌++◌, length, drop, get_or, unwrap_or, Option, Some, None, refl, sym, ◌∙◌, ap, ap₂, subst, inl, inr, arith, length-append}
use Rattle.std.proofs.lemmas.Bool.{leb-true}
use Rattle.std.proofs.lemmas.List.{nil_from_length}
use Rattle.std.specs.List.{slice_get}
use Rattle.rev_watch.specs.declared.event.Event.{Event}
use Rattle.rev_watch.specs.declared.event.LogLine.{LogLine}
use Rattle.rev_log.specs.declared.coming.Coming.{Coming}
use Rattle.rev_log.specs.declared.spans.Span.{Span}
use Rattle.rev_log.specs.declared.spans.Stored.{Stored}
use Rattle.rev_log.specs.Events.{key_of, connection_of, commanded_key, is_look_up, move_source, time_left}
use Rattle.rev_log.specs.Foresight.{Numbered, PlainForesight, marked_by, pushed, popped, popped_from, first_naming, first_naming_any, IsOf, next_of, MayVote}
use Rattle.rev_log.specs.Seconds.{voted}
use Rattle.rev_log.specs.Spans.{item_of, vote_of}
use Rattle.rev_log.specs.Waiting.{events, at_place, joined, first_at, last_at, next_at, links, link, span_in, span_at, span_behind, span_without, number_in, number_behind, mark_for, look_up_at, live, moves_at, move_here, moves_behind, next_in, IsSound}
use Rattle.rev_log.proofs.Naming.{place-within}
use Rattle.rev_log.proofs.Links.{last_of_key, links-push}
use Rattle.rev_log.proofs.Spanning.{first, last, last-known, firsts-push, lasts-push, firsts-pop, lasts-pop}
use Rattle.rev_log.proofs.LookUps.{looked_up-push, looked_up-pop, mark_for-marked_by, events-marked_by, numbered-marked_by}
use Rattle.rev_log.proofs.Moving.{moves-push, moves-pop}
use Rattle.rev_log.proofs.Finding.{at_any, first-found, next-found}

module _ {A : Type 0} where
  -- nothing waits
  sound-empty : IsSound {A = A} 0 [] [] [] [] []
  sound-empty = record {
    fits = omega arith;
    numbered = tt;
    linked = refl;
    moved = refl;
    firsts = λ key. refl;
    lasts = λ key. refl;
    looked_up = λ c. refl;
  }

  pub sound-none : {xs : List (Coming A)} {nexts : List (Option ℕ)} {moves : List (ℕ × ℕ)} {keys : List (List ℕ × Span)} {connections : List (ℤ × ℕ)} → xs ≡ [] → nexts ≡ [] → moves ≡ [] → keys ≡ [] → connections ≡ [] → IsSound 0 xs nexts moves keys connections
  sound-none {xs} {nexts} {moves} {keys} {connections} a b c d e =
      subst (λ l. IsSound {A = A} 0 l nexts moves keys connections) (sym a) (subst (λ l. IsSound {A = A} 0 [] l moves keys connections) (sym b) (subst (λ l. IsSound {A = A} 0 [] [] l keys connections) (sym c) (subst (λ l. IsSound {A = A} 0 [] [] [] l connections) (sym d) (subst (λ l. IsSound {A = A} 0 [] [] [] [] l) (sym e) sound-empty))))

  events-push : (ys : List (Coming A)) (x : Coming A) → events (ys ++ x ∷ []) ≡ events ys ++ x.line.event ∷ []
  events-push [] x = refl
  events-push (y ∷ ys) x = ap (λ l. y.line.event ∷ l) (events-push ys x)

  pub length-events : (ys : List (Coming A)) → length (events ys) ≡ length ys
  length-events [] = refl
  length-events (y ∷ ys) = ap suc (length-events ys)

  numbered-push : (n : ℕ) (ys : List (Coming A)) (x : Coming A) → Numbered n ys → x.number ≡ n + length ys → Numbered n (ys ++ x ∷ [])
  numbered-push n [] x h e = (omega (arith, e), tt)
  numbered-push n (y ∷ ys) x h e = (h.0, numbered-push (suc n) ys x h.1 (omega (arith, e)))

  -- ---- one more event waits

  abbrev pub coming : LogLine A → ℕ → Coming A
  coming line number = record { line = line; number = number; own = false }

  -- those that waited are marked by the rule
  pub marked-push : {n : ℕ} {xs : List (Coming A)} {nexts : List (Option ℕ)} {moves : List (ℕ × ℕ)} {keys : List (List ℕ × Span)} {connections : List (ℤ × ℕ)} → IsSound n xs nexts moves keys connections → (e : Event A)
      → mark_for n (connection_of e) (commanded_key e) connections xs ≡ marked_by e xs
  marked-push {n} {xs} {nexts} {moves} {keys} {connections} s e = mark_for-marked_by n e connections xs s.looked_up

  pub length-marked : (e : Event A) (xs : List (Coming A)) → length (marked_by e xs) ≡ length xs
  length-marked e xs = sym (length-events (marked_by e xs)) ∙ ap length (events-marked_by e xs) ∙ length-events xs

  pub sound-push : {n : ℕ} {xs : List (Coming A)} {nexts : List (Option ℕ)} {moves : List (ℕ × ℕ)} {keys new_keys : List (List ℕ × Span)} {connections new_connections : List (ℤ × ℕ)} → IsSound n xs nexts moves keys connections
      → (line : LogLine A) (number : ℕ) (leaves : Bool) (stored : Option Stored) → number ≡ n + length xs → suc number < 2 ^ 64
      → ((q : List ℕ) → span_in new_keys q ≡ span_behind (key_of line.event) keys number leaves stored q)
      → ((c : ℤ) → number_in new_connections c ≡ number_behind (connection_of line.event) (is_look_up line.event) number connections c)
      → IsSound n (marked_by line.event xs ++ coming line number ∷ []) (link n (last (span_at (key_of line.event) keys)) number nexts ++ None ∷ []) (moves ++ move_here (move_source line.event) number []) new_keys new_connections
  sound-push {n} {xs} {nexts} {moves} {keys} {new_keys} {connections} {new_connections} s line number leaves stored here fits spans lines =
      let e = line.event in
      let ys = marked_by e xs in
      let es = events xs in
      let all : events (ys ++ coming line number ∷ []) ≡ es ++ e ∷ [] = events-push ys (coming line number) ∙ ap (λ l. l ++ e ∷ []) (events-marked_by e xs) in
      let count : number ≡ n + length es = here ∙ ap (λ m. n + m) (sym (length-events xs)) in
      record {
        fits = omega (arith, length-append ys (coming line number ∷ []), length-marked e xs, here, fits);
        numbered = numbered-push n ys (coming line number) (numbered-marked_by e n xs s.numbered) (here ∙ ap (λ m. n + m) (sym (length-marked e xs)));
        linked =
            ap₂ (λ l m. link n l m nexts ++ None ∷ []) (last-known e keys n es s.firsts s.lasts) count
            ∙ ap (λ l. link n (last_of_key (key_of e) n es) (n + length es) l ++ None ∷ []) s.linked
            ∙ sym (links-push e n es)
            ∙ ap (links n) (sym all);
        moved = ap₂ (λ l m. l ++ move_here (move_source e) m []) s.moved count ∙ sym (moves-push n es e) ∙ ap (moves_at n) (sym all);
        firsts = λ q. ap first (spans q) ∙ ap (λ m. first (span_behind (key_of e) keys m leaves stored q)) count ∙ firsts-push e keys n es s.firsts s.lasts leaves stored q ∙ ap (first_at q n) (sym all);
        lasts = λ q. ap last (spans q) ∙ ap (λ m. last (span_behind (key_of e) keys m leaves stored q)) count ∙ lasts-push e keys n es s.firsts s.lasts leaves stored q ∙ ap (last_at q n) (sym all);
        looked_up = λ c. ap (live n) (lines c) ∙ ap (λ m. live n (number_behind (connection_of e) (is_look_up e) m connections c)) count ∙ looked_up-push e connections n es s.looked_up c ∙ ap (look_up_at c n) (sym all);
      }

  -- the same step by step: room was made for the event, and then the lists were written
  pub sound-pushed : {n : ℕ} {xs made marks pushed_xs : List (Coming A)} {nexts made_nexts linked pushed_nexts : List (Option ℕ)} {moves made_moves pushed_moves : List (ℕ × ℕ)} {keys new_keys : List (List ℕ × Span)} {connections made_connections new_connections : List (ℤ × ℕ)} {known : Option Span} {before : Option ℕ}
      → IsSound n xs nexts moves keys connections
      → (line : LogLine A) (number : ℕ) (leaves : Bool) (stored : Option Stored) → number ≡ n + length xs → suc number < 2 ^ 64
      → made ≡ xs → made_nexts ≡ nexts → made_moves ≡ moves → made_connections ≡ connections
      → known ≡ span_at (key_of line.event) keys
      → ((q : List ℕ) → span_in new_keys q ≡ span_behind (key_of line.event) keys number leaves stored q)
      → before ≡ last known
      → linked ≡ link n before number made_nexts
      → marks ≡ mark_for n (connection_of line.event) (commanded_key line.event) made_connections made
      → ((c : ℤ) → number_in new_connections c ≡ number_behind (connection_of line.event) (is_look_up line.event) number made_connections c)
      → pushed_moves ≡ made_moves ++ move_here (move_source line.event) number []
      → pushed_nexts ≡ linked ++ None ∷ []
      → pushed_xs ≡ marks ++ coming line number ∷ []
      → IsSound n pushed_xs pushed_nexts pushed_moves new_keys new_connections
  sound-pushed {n} {xs} {made} {marks} {pushed_xs} {nexts} {made_nexts} {linked} {pushed_nexts} {moves} {made_moves} {pushed_moves} {keys} {new_keys} {connections} {made_connections} {new_connections} {known} {before} s line number leaves stored here fits w x m c k spans b l marks_are lines pm pn pw =
      let e = line.event in
      let at_line : (d : ℤ) → number_in new_connections d ≡ number_behind (connection_of e) (is_look_up e) number connections d =
      λ d. lines d ∙ ap (λ z. number_behind (connection_of e) (is_look_up e) number z d) c in
      let marked_xs : marks ≡ marked_by e xs = marks_are ∙ ap₂ (λ y z. mark_for n (connection_of e) (commanded_key e) y z) c w ∙ marked-push s e in
      let linked_nexts : linked ≡ link n (last (span_at (key_of e) keys)) number nexts = l ∙ ap₂ (λ y z. link n y number z) (b ∙ ap last k) x in
      subst (λ z. IsSound n z pushed_nexts pushed_moves new_keys new_connections) (sym (pw ∙ ap (λ z. z ++ coming line number ∷ []) marked_xs))
      (subst (λ z. IsSound n (marked_by e xs ++ coming line number ∷ []) z pushed_moves new_keys new_connections) (sym (pn ∙ ap (λ z. z ++ None ∷ []) linked_nexts))
      (subst (λ z. IsSound n (marked_by e xs ++ coming line number ∷ []) (link n (last (span_at (key_of e) keys)) number nexts ++ None ∷ []) z new_keys new_connections) (sym (pm ∙ ap (λ z. z ++ move_here (move_source e) number []) m))
      (sound-push s line number leaves stored here fits spans at_line)))

  -- and the events that wait then
  pub pushed-is : {n : ℕ} {xs made marks pushed_xs : List (Coming A)} {nexts : List (Option ℕ)} {moves : List (ℕ × ℕ)} {keys : List (List ℕ × Span)} {connections made_connections : List (ℤ × ℕ)}
      → IsSound n xs nexts moves keys connections
      → (f : PlainForesight A) → f.first ≡ n → f.waiting ≡ xs
      → (line : LogLine A) (number : ℕ) → number ≡ n + length xs
      → made ≡ xs → made_connections ≡ connections
      → marks ≡ mark_for n (connection_of line.event) (commanded_key line.event) made_connections made
      → pushed_xs ≡ marks ++ coming line number ∷ []
      → pushed_xs ≡ pushed f line
  pushed-is {n} {xs} {made} {marks} {pushed_xs} {nexts} {moves} {keys} {connections} {made_connections} s f p q line number here w c marks_are pw =
      let e = line.event in
      let marked_xs : marks ≡ marked_by e xs = marks_are ∙ ap₂ (λ y z. mark_for n (connection_of e) (commanded_key e) y z) c w ∙ marked-push s e in
      let count : number ≡ f.first + length f.waiting = here ∙ ap₂ (λ y z. y + length z) (sym p) (sym q) in
      pw ∙ ap₂ (λ y m. y ++ coming line m ∷ []) (marked_xs ∙ ap (marked_by e) (sym q)) count

  -- a vote is one of the eviction's
  pub votes-may : (votes new : List ℕ) (known : Option Span) (line : LogLine A) → new ≡ vote_of votes (item_of known) (time_left line.event) line.time → MayVote votes new line
  votes-may votes new known line e = by (item_of known) (time_left line.event) refl e where
    some : (stored : Stored) (left : ℕ) → time_left line.event ≡ Some left → (b : Bool) → leb left stored.ttl ≡ b → new ≡ cond b (voted votes stored.time line.time (stored.ttl - left)) votes → MayVote votes new line
    some stored left t true h v = inr (record { stored = stored.time; ttl = stored.ttl; left = left; evicted = t; less = leb-true left stored.ttl h; voted_so = v })
    some stored left t false h v = inl v

    by : (s : Option Stored) (l : Option ℕ) → time_left line.event ≡ l → new ≡ vote_of votes s l line.time → MayVote votes new line
    by None l t v = inl v
    by (Some stored) None t v = inl v
    by (Some stored) (Some left) t v = some stored left t (leb left stored.ttl) refl v

  -- ---- the first event is gone

  pub sound-pop : {n : ℕ} {x : Coming A} {xs : List (Coming A)} {next : Option ℕ} {nexts : List (Option ℕ)} {moves : List (ℕ × ℕ)} {keys new_keys : List (List ℕ × Span)} {connections : List (ℤ × ℕ)} → IsSound n (x ∷ xs) (next ∷ nexts) moves keys connections
      → ((q : List ℕ) → span_in new_keys q ≡ span_without (key_of x.line.event) keys next q)
      → IsSound (n + 1) xs nexts (moves_behind (move_source x.line.event) moves) new_keys connections
  sound-pop {n} {x} {xs} {next} {nexts} {moves} {keys} {new_keys} {connections} s spans =
      let e = x.line.event in
      let es = events xs in
      let at : next ≡ next_at (key_of e) (suc n) es = heads s.linked in
      let here : IsSound (suc n) xs nexts (moves_behind (move_source e) moves) new_keys connections = record {
        fits = let f = s.fits in omega arith;
        numbered = s.numbered.1;
        linked = tails s.linked;
        moved = ap (moves_behind (move_source e)) s.moved ∙ moves-pop n es e;
        firsts = λ q. ap first (spans q) ∙ ap (λ o. first (span_without (key_of e) keys o q)) at ∙ firsts-pop e keys n es s.firsts s.lasts q;
        lasts = λ q. ap last (spans q) ∙ ap (λ o. last (span_without (key_of e) keys o q)) at ∙ lasts-pop e keys n es s.firsts s.lasts q;
        looked_up = looked_up-pop e connections n es s.looked_up;
      } in
      subst (λ m. IsSound m xs nexts (moves_behind (move_source e) moves) new_keys connections) (omega arith) here
    where
      heads : {X : Type 0} {a b : X} {l m : List X} → a ∷ l ≡ b ∷ m → a ≡ b
      heads e = cc

      tails : {X : Type 0} {a b : X} {l m : List X} → a ∷ l ≡ b ∷ m → l ≡ m
      tails e = cc

  -- the same step by step
  pub sound-popped : {n : ℕ} {x : Coming A} {xs rest : List (Coming A)} (nexts : List (Option ℕ)) {rest_nexts : List (Option ℕ)} {moves rest_moves : List (ℕ × ℕ)} {keys new_keys : List (List ℕ × Span)} {connections : List (ℤ × ℕ)} {first : Option (Option ℕ)} {next : Option ℕ}
      → IsSound n xs nexts moves keys connections
      → xs ≡ x ∷ rest
      → rest_nexts ≡ drop 1 nexts
      → (0 < length nexts → first ≡ Some (get_or nexts 0 None))
      → next ≡ unwrap_or first None
      → ((q : List ℕ) → span_in new_keys q ≡ span_without (key_of x.line.event) keys next q)
      → rest_moves ≡ moves_behind (move_source x.line.event) moves
      → IsSound (n + 1) rest rest_nexts rest_moves new_keys connections
  sound-popped {n} {x} {xs} {rest} [] s e r f u spans m = absurd (empty (s.linked ∙ ap (λ l. links n (events l)) e)) where
    empty : {X : Type 0} {a : X} {l : List X} → [] ≡ a ∷ l → ⊥
    empty e = cc
  sound-popped {n} {x} {xs} {rest} (y ∷ ys) {rest_nexts} {moves} {rest_moves} {keys} {new_keys} {connections} {first} {next} s e r f u spans m =
      let there : first ≡ Some y = f (omega arith) in
      let at : next ≡ y = u ∙ ap (λ o. unwrap_or o None) there in
      subst (λ z. IsSound (n + 1) rest z rest_moves new_keys connections) (sym r)
      (subst (λ z. IsSound (n + 1) rest ys z new_keys connections) (sym m)
      (sound-pop (subst (λ z. IsSound n z (y ∷ ys) moves keys connections) e s) (λ q. spans q ∙ ap (λ o. span_without (key_of x.line.event) keys o q) at)))

  -- where none waits nothing is given out
  pub popped-none : (first : ℕ) (waiting same : List (Coming A)) (votes : List ℕ) (f : PlainForesight A) → record { first = first; waiting = waiting; votes = votes } ≡ f → waiting ≡ same → length waiting ≡ 0 → (record { first = first; waiting = same; votes = votes }, None) ≡ popped f
  popped-none first waiting same votes f v e n =
      ap₂ (λ l g. popped_from l g) (sym (nil_from_length waiting n) ∙ ap (λ g. g.waiting) v) (ap (λ l. record { first = first; waiting = l; votes = votes }) (sym e) ∙ v)

  -- ---- what is found

  pub found-first : {n : ℕ} {xs : List (Coming A)} {nexts : List (Option ℕ)} {moves : List (ℕ × ℕ)} {keys : List (List ℕ × Span)} {connections : List (ℤ × ℕ)} → IsSound n xs nexts moves keys connections
      → (key : List ℕ) → at_any n xs (first (span_in keys key)) ≡ first_naming key xs
  found-first {n} {xs} s key = ap (at_any n xs) (s.firsts key) ∙ first-found key n xs

  -- behind an event that was given out stand all
  pub found-all : (f : PlainForesight A) (x : Coming A) → x.number < f.first → next_of f x ≡ first_naming_any (key_of x.line.event) f.waiting
  found-all f x h = let z : suc x.number - f.first ≡ 0 = omega (arith, h) in ap (λ i. first_naming_any (key_of x.line.event) (drop i f.waiting)) z

  -- behind one that waits stand those from the next place on
  pub found-next : {n : ℕ} {xs : List (Coming A)} {nexts : List (Option ℕ)} {moves : List (ℕ × ℕ)} {keys : List (List ℕ × Span)} {connections : List (ℤ × ℕ)} → IsSound n xs nexts moves keys connections
      → (f : PlainForesight A) → f.first ≡ n → f.waiting ≡ xs → (x : Coming A) → n ≤ x.number → IsOf f x → at_any n xs (next_in n nexts x.number) ≡ next_of f x
  found-next {n} {xs} {nexts} s f p q x h (inl before) = absurd (omega (arith, p, h, before))
  found-next {n} {xs} {nexts} s f p q x h (inr here) =
      let place = x.number - n in
      let found : slice_get xs place ≡ Some x = ap₂ (λ l m. slice_get l (x.number - m)) (sym q) (sym p) ∙ here in
      ap (λ o. at_any n xs (joined (at_place o nexts))) (place-within n x.number h)
      ∙ ap (λ l. at_any n xs (joined (slice_get l place))) s.linked
      ∙ next-found n place xs x found
      ∙ (let z : suc (x.number - n) ≡ suc x.number - f.first = omega (arith, h, p) in ap₂ (λ i l. first_naming_any (key_of x.line.event) (drop i l)) z (sym q))
