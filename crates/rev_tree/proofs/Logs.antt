-- The log when a mention comes behind the others.
use Rattle.std.proofs.Common.{◌≡◌, ℕ, ◌+◌, ◌-◌, ◌<◌, ◌^◌, Bool, ◌&&◌, IsTrue, eqb, List, [], ◌∷◌, ◌++◌, Some, ◌⊎◌, length, inl, inr, sym, ◌∙◌, ap, subst, arith, get_or, length-append}
use Rattle.std.proofs.lemmas.Bool.{cases_lt}
use Rattle.std.proofs.lemmas.Bool.Decides.{nat_tests}
use Rattle.std.specs.List.{slice_get}
use Rattle.std.proofs.Math.Seq.{get_or-append_seam}
use Rattle.std.specs.Vec.{with_items}
use Rattle.std.specs.declared.vec.Vec.{Vec}
use Rattle.std.proofs.lemmas.List.{get_or_append_left, length-map, map-append, with_items_is}
use Rattle.std.specs.Option.{option_map}
use Rattle.std.proofs.lemmas.Option.{get_or_from_slice_get, slice_get_within, slice_get-get_or, slice_get-map}
use Rattle.rev_tree.specs.declared.mention.Mention.{Mention}
use Rattle.rev_tree.specs.Mentions.{Holds, Within}
use Rattle.rev_tree.specs.declared.links.Entry.{Entry}
use Rattle.rev_tree.specs.declared.links.Head.{Head}
use Rattle.rev_tree.specs.Links.{mention_of, mentions_of, links_of, lasts_of, node_at, no_mention, Rises, IsLinked, IsSound}
use Rattle.rev_tree.proofs.Linking.{linked_same}

module _ (ms : List Mention) (x : Mention) where
  pub one_more : length (ms ++ x ∷ []) ≡ length ms + 1
  one_more = let e = length-append ms (x ∷ []) in omega arith

  pub before_it : (i : ℕ) → i < length ms → get_or (ms ++ x ∷ []) i no_mention ≡ get_or ms i no_mention
  before_it i h = get_or_append_left ms (x ∷ []) no_mention i h

  pub it : get_or (ms ++ x ∷ []) (length ms) no_mention ≡ x
  it = get_or-append_seam ms x [] no_mention

  pub held_more : (h n : ℕ) → Holds ms h n → Holds (ms ++ x ∷ []) h n
  held_more h n (i, e) =
      let w : i < length ms = slice_get_within ms i _ e in
      let v : i < length (ms ++ x ∷ []) = let o = one_more in omega arith in
      (i, slice_get-get_or (ms ++ x ∷ []) i no_mention v ∙ ap Some (before_it i w ∙ get_or_from_slice_get ms i _ no_mention e))

  -- nothing else came in
  pub only_it : (h n : ℕ) → Holds (ms ++ x ∷ []) h n → Holds ms h n ⊎ ((h ≡ x.hash) × (n ≡ x.node))
  only_it h n (i, e) =
      let m : Mention = record { hash = h; node = n } in
      let v : i < length (ms ++ x ∷ []) = slice_get_within (ms ++ x ∷ []) i m e in
      let o = one_more in
      let g : get_or (ms ++ x ∷ []) i no_mention ≡ m = get_or_from_slice_get (ms ++ x ∷ []) i m no_mention e in
      elim (cases_lt i (length ms)) [
        | inl k ↦ inl (i, slice_get-get_or ms i no_mention k ∙ ap Some (sym (before_it i k) ∙ g))
        | inr k ↦ let z : i ≡ length ms = omega arith in
            let s : m ≡ x = sym g ∙ (ap (λ j. get_or (ms ++ x ∷ []) j no_mention) z ∙ it) in
            inr (ap (λ (y : Mention). y.hash) s, ap (λ (y : Mention). y.node) s)
      ]

  pub holds_it : Holds (ms ++ x ∷ []) x.hash x.node
  holds_it =
      let v : length ms < length (ms ++ x ∷ []) = let o = one_more in omega arith in
      (length ms, slice_get-get_or (ms ++ x ∷ []) (length ms) no_mention v ∙ ap Some it)

  pub within_more : Within ms x.node → Within (ms ++ x ∷ []) x.node
  within_more w i m e =
      let v : i < length (ms ++ x ∷ []) = slice_get_within (ms ++ x ∷ []) i m e in
      let o = one_more in
      let g : get_or (ms ++ x ∷ []) i no_mention ≡ m = get_or_from_slice_get (ms ++ x ∷ []) i m no_mention e in
      elim (cases_lt i (length ms)) [
        | inl k ↦ w i m (slice_get-get_or ms i no_mention k ∙ ap Some (sym (before_it i k) ∙ g))
        | inr k ↦ let z : i ≡ length ms = omega arith in
            let s : m ≡ x = sym g ∙ (ap (λ j. get_or (ms ++ x ∷ []) j no_mention) z ∙ it) in
            rw s (omega arith)
      ]

  -- nodes do not fall where the last one is not under the others
  pub rises_more : Within ms x.node → Rises ms → Rises (ms ++ x ∷ [])
  rises_more w r i j h k =
      let o = one_more in
      elim (cases_lt j (length ms)) [
        | inl v ↦ let u : i < length ms = omega arith in
            let a = ap (λ (y : Mention). y.node) (before_it i u) in
            let b = ap (λ (y : Mention). y.node) (before_it j v) in
            rw (a, b) (r i j h v)
        | inr v ↦ let z : j ≡ length ms = omega arith in
            let b : node_at (ms ++ x ∷ []) j ≡ x.node = ap (node_at (ms ++ x ∷ [])) z ∙ ap (λ (y : Mention). y.node) it in
            rw b (elim (cases_lt i (length ms)) [
              | inl u ↦ let a = ap (λ (y : Mention). y.node) (before_it i u) in
                  rw a (w i (get_or ms i no_mention) (slice_get-get_or ms i no_mention u))
              | inr u ↦ let y : i ≡ length ms = omega arith in
                  let a : node_at (ms ++ x ∷ []) i ≡ x.node = ap (node_at (ms ++ x ∷ [])) y ∙ ap (λ (y : Mention). y.node) it in
                  rw a (omega arith)
            ])
      ]

-- an entry comes behind the others
module _ (heads : List Head) (es : List Entry) (x : Entry) where
  mentions_more : mentions_of (es ++ x ∷ []) ≡ mentions_of es ++ mention_of x ∷ []
  mentions_more = map-append mention_of es (x ∷ [])

  -- it is not linked yet, and the others are as they were
  linked_before : (n : ℕ) → n ≡ length es → IsLinked heads es (length es) → IsLinked heads (es ++ x ∷ []) n
  linked_before n e l =
      let a = length-map es mention_of in
      let b = length-map es (λ (y : Entry). y.earlier) in
      rw e (linked_same (length heads) (lasts_of heads) (mentions_of es) (mentions_of (es ++ x ∷ [])) (links_of es) (links_of (es ++ x ∷ [])) (length es)
      (λ i h. let w : i < length (mentions_of es) = omega arith in rw mentions_more (before_it (mentions_of es) (mention_of x) i w))
      (λ i h. let w : i < length (links_of es) = omega arith in rw (map-append (λ (y : Entry). y.earlier) es (x ∷ [])) (get_or_append_left (links_of es) (x.earlier ∷ []) 0 i w))
      l)

  -- once all are linked again
  sound_more : (hs : List Head) (ws : List Entry) (n : ℕ) → n ≡ length es → n < 2 ^ 32 - 1 → Within (mentions_of es) x.node → IsSound heads es
      → mentions_of ws ≡ mentions_of es ++ mention_of x ∷ [] → IsLinked hs ws (n + 1) → IsSound hs ws
  sound_more hs ws n e f w s v l =
      let a = length-map es mention_of in
      let b = length-map ws mention_of in
      let d : length (mentions_of ws) ≡ length (mentions_of es) + 1 = ap length v ∙ one_more (mentions_of es) (mention_of x) in
      let k : n + 1 ≡ length ws = omega arith in
      record {
        linked = subst (IsLinked hs ws) k l;
        rises = subst Rises (sym v) (rises_more (mentions_of es) (mention_of x) w s.rises);
        few = omega arith;
      }

-- the same for a list in another's place
pub ready : (heads cs : List Head) (es vs ds : List Entry) (x : Entry) (n : ℕ) → cs ≡ heads → vs ≡ es ++ x ∷ [] → ds ≡ vs → n ≡ length es → IsLinked heads es (length es) → IsLinked cs ds n
ready heads cs es vs ds x n a b d e l =
    subst (λ hs. IsLinked hs ds n) (sym a) (subst (λ ws. IsLinked heads ws n) (sym (d ∙ b)) (linked_before heads es x n e l))

-- entries in a `Vec`, behind which x was pushed, and whose links were set since
module _ {Z : Type 0} (v : Vec Entry Z) (es ds ws : List Entry) (x : Entry) (pushed : v.items ≡ es ++ x ∷ []) (lent : ds ≡ v.items) (kept : mentions_of ws ≡ mentions_of ds) (as_many : length ws ≡ length ds) where
  written : (with_items v ws).items ≡ ws
  written = with_items_is v ws (as_many ∙ (ap length lent ∙ sym v.ok.0))

  noted_behind : mentions_of ws ≡ mentions_of es ++ mention_of x ∷ []
  noted_behind = kept ∙ (ap mentions_of (lent ∙ pushed) ∙ map-append mention_of es (x ∷ []))

  pub noted : (ms : List Mention) → mentions_of es ≡ ms → mentions_of (with_items v ws).items ≡ ms ++ mention_of x ∷ []
  noted ms a = ap mentions_of written ∙ (noted_behind ∙ ap (λ ns. ns ++ mention_of x ∷ []) a)

  -- all are linked again
  pub sound_noted : {Y : Type 0} (u : Vec Head Y) (cs hs : List Head) (ms : List Mention) (n : ℕ) → cs ≡ u.items → length hs ≡ length cs → mentions_of es ≡ ms → n ≡ length es → n < 2 ^ 32 - 1
      → Within ms x.node → IsSound u.items es → IsLinked hs ws (n + 1) → IsSound (with_items u hs).items (with_items v ws).items
  sound_noted u cs hs ms n lent_heads as_many_heads view e f w s l =
      let a : (with_items u hs).items ≡ hs = with_items_is u hs (as_many_heads ∙ (ap length lent_heads ∙ sym u.ok.0)) in
      let w' : Within (mentions_of es) x.node = subst (λ ns. Within ns x.node) (sym view) w in
      rw (a, written) (sound_more u.items es x hs ws n e f w' s noted_behind l)

-- the same entries, all linked anew
pub sound_again : {Y Z : Type 0} (u : Vec Head Y) (v : Vec Entry Z) (old cs hs : List Head) (ds ws : List Entry) → cs ≡ u.items → length hs ≡ length cs → ds ≡ v.items → length ws ≡ length ds
    → mentions_of ws ≡ mentions_of ds → IsSound old v.items → IsLinked hs ws (length ws) → IsSound (with_items u hs).items (with_items v ws).items
sound_again u v old cs hs ds ws a b d e f s l =
    let heads_are : (with_items u hs).items ≡ hs = with_items_is u hs (b ∙ (ap length a ∙ sym u.ok.0)) in
    let entries_are : (with_items v ws).items ≡ ws = with_items_is v ws (e ∙ (ap length d ∙ sym v.ok.0)) in
    let k : length ws ≡ length v.items = e ∙ ap length d in
    let few : length v.items < 2 ^ 32 = s.few in
    rw (heads_are, entries_are) (record { linked = l; rises = subst Rises (sym (f ∙ ap mentions_of d)) s.rises; few = omega arith })

-- an entry that says what was asked for
pub entry_holds : (es ds : List Entry) (ms : List Mention) (i : ℕ) (x : Entry) (m : Mention) (h n : ℕ) (q : Bool) → ds ≡ es → mentions_of es ≡ ms → slice_get ds i ≡ Some x → m ≡ mention_of x
    → q ≡ (eqb m.hash h && eqb m.node n) → IsTrue q → Holds ms h n
entry_holds es ds ms i x m h n q lent view at is test t =
    let u : IsTrue (eqb m.hash h && eqb m.node n) = subst IsTrue test t in
    let a : m.hash ≡ h = asked_hash m.hash h m.node n u in
    let b : m.node ≡ n = asked_node m.hash h m.node n u in
    subst (λ ns. Holds ns h n) (ap mentions_of lent ∙ view) (i, slice_get-map mention_of ds i ∙ (ap (option_map mention_of) at ∙ cc))
  where
    asked_hash : (a h b n : ℕ) → IsTrue (eqb a h && eqb b n) → a ≡ h
    asked_hash a h b n t = grind (arith, nat_tests)

    asked_node : (a h b n : ℕ) → IsTrue (eqb a h && eqb b n) → b ≡ n
    asked_node a h b n t = grind (arith, nat_tests)
