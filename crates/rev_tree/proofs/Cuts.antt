-- Records that are cut from one list: one more, only the first, and one that is written over.
use Rattle.std.specs.Prelude.{not}
use Rattle.std.proofs.Common.{ℕ, zero, suc, ◌≡◌, ◌+◌, ◌-◌, ◌<◌, ◌≤◌, false, List, [], ◌∷◌, ◌++◌, length, map, take, drop, set, get_or, slice_range, refl, sym, ap, subst, ◌∙◌, arith}
use Rattle.std.proofs.lemmas.List.{take-take, drop-take, drop-drop, take-map, drop-map, map-append, length-map, length-append, get_or-set_same, length-drop, length-take, take-append-le, drop-append-le}
use Rattle.std.proofs.Math.Seq.{take-length, take-append_seam, drop-append_seam}
use Rattle.rev_inverse.specs.declared.changes.Change.{Change}
use Rattle.rev_inverse.specs.Record.{PlainRecord, PlainChange, IsWhole, plain_change, in_order, notes_in, whole, fitted, no_record}
use Rattle.rev_tree.specs.declared.records.Extent.{Extent}
use Rattle.rev_tree.specs.Cuts.{first_of, cut_by, Tiles}

pub length-cut : (es : List Extent) (gs : List PlainChange) → length (cut_by es gs) ≡ length es
length-cut [] gs = refl
length-cut (e ∷ es) gs = ap suc (length-cut es (drop e.count gs))

tiles_le : (s : ℕ) (es : List Extent) (n : ℕ) → Tiles s es n → s ≤ n
tiles_le s [] n t = omega (arith, t)
tiles_le s (e ∷ es) n t = omega (arith, tiles_le (s + e.count) es n t.1)

-- what is behind the first extent
record Behind (s : ℕ) (x : Extent) (es : List Extent) (gs : List PlainChange) : Type 0 where
  pub few : x.count ≤ length gs
  pub rest : Tiles (s + x.count) es (s + x.count + length (drop x.count gs))

behind : (s : ℕ) (x : Extent) (es : List Extent) (gs : List PlainChange) → Tiles s (x ∷ es) (s + length gs) → Behind s x es gs
behind s x es gs t =
    let few : x.count ≤ length gs = omega (arith, tiles_le (s + x.count) es (s + length gs) t.1) in
    record {
      few = few;
      rest = subst (λ m. Tiles (s + x.count) es m) (omega (arith, few, length-drop x.count gs)) t.1;
    }

-- ---- one more

first_whole : (e : Extent) (new : List PlainChange) → e.count ≡ length new → e.is_turned ≡ false → first_of e new ≡ whole new
first_whole e new n f =
    ap (λ k. whole (in_order e.is_turned (take k new))) n
    ∙ ap (λ l. whole (in_order e.is_turned l)) (take-length new)
    ∙ ap (λ b. whole (in_order b new)) f

pub cut_more : (s : ℕ) (es : List Extent) (gs new : List PlainChange) (e : Extent) → Tiles s es (s + length gs) → e.count ≡ length new → e.is_turned ≡ false → cut_by (es ++ e ∷ []) (gs ++ new) ≡ cut_by es gs ++ whole new ∷ []
cut_more s [] [] new e t n f = ap (λ r. r ∷ []) (first_whole e new n f)
cut_more s [] (g ∷ gs) new e t n f = absurd (omega (arith, t))
cut_more s (x ∷ es) gs new e t n f =
    let b = behind s x es gs t in
    ap (λ l. whole (in_order x.is_turned l) ∷ cut_by (es ++ e ∷ []) (drop x.count (gs ++ new))) (take-append-le x.count gs new b.few)
    ∙ ap (λ l. first_of x gs ∷ cut_by (es ++ e ∷ []) l) (drop-append-le x.count gs new b.few)
    ∙ ap (λ l. first_of x gs ∷ l) (cut_more (s + x.count) es (drop x.count gs) new e b.rest n f)

pub tiles_more : (s : ℕ) (es : List Extent) (n : ℕ) (e : Extent) → Tiles s es n → e.start ≡ n → Tiles s (es ++ e ∷ []) (n + e.count)
tiles_more s [] n e t is = (is ∙ sym t, ap (λ k. k + e.count) t)
tiles_more s (x ∷ es) n e t is = (t.0, tiles_more (s + x.count) es n e t.1 is)

-- ---- the first k

start_ge : (s : ℕ) (es : List Extent) (n k : ℕ) (e : Extent) → Tiles s es n → k < length es → e ≡ get_or es k e → s ≤ e.start
start_ge s [] n k e t lt is = absurd (omega (arith, lt))
start_ge s (x ∷ es) n zero e t lt is = omega (arith, ap (λ (y : Extent). y.start) is, t.0)
start_ge s (x ∷ es) n (suc k) e t lt is = omega (arith, start_ge (s + x.count) es n k e t.1 (omega (arith, lt)) is)

pub cut_take : (s : ℕ) (es : List Extent) (gs : List PlainChange) (k : ℕ) (e : Extent) (off : ℕ) → Tiles s es (s + length gs) → k < length es → e ≡ get_or es k e → e.start ≡ s + off → cut_by (take k es) (take off gs) ≡ take k (cut_by es gs)
cut_take s [] gs k e off t lt is at = absurd (omega (arith, lt))
cut_take s (x ∷ es) gs zero e off t lt is at = refl
cut_take s (x ∷ es) gs (suc k) e off t lt is at =
    let b = behind s x es gs t in
    let more = start_ge (s + x.count) es (s + length gs) k e t.1 (omega (arith, lt)) is in
    let within : x.count ≤ off = omega (arith, more, at) in
    let rest : off ≡ x.count + (off - x.count) = omega (arith, within) in
    ap (λ l. whole (in_order x.is_turned l) ∷ cut_by (take k es) (drop x.count (take off gs))) (take-take x.count off gs within)
    ∙ ap (λ m. first_of x gs ∷ cut_by (take k es) (drop x.count (take m gs))) rest
    ∙ ap (λ l. first_of x gs ∷ cut_by (take k es) l) (drop-take x.count (off - x.count) gs)
    ∙ ap (λ l. first_of x gs ∷ l) (cut_take (s + x.count) es (drop x.count gs) k e (off - x.count) b.rest (omega (arith, lt)) is (omega (arith, at, within)))

pub tiles_take : (s : ℕ) (es : List Extent) (n k : ℕ) (e : Extent) → Tiles s es n → k < length es → e ≡ get_or es k e → Tiles s (take k es) e.start
tiles_take s [] n k e t lt is = absurd (omega (arith, lt))
tiles_take s (x ∷ es) n zero e t lt is = sym (ap (λ (y : Extent). y.start) is ∙ t.0)
tiles_take s (x ∷ es) n (suc k) e t lt is = (t.0, tiles_take (s + x.count) es n k e t.1 (omega (arith, lt)) is)

-- ---- one that is written over

-- a list with the entries from a place on written over
abbrev pub over : ℕ → List PlainChange → List PlainChange → List PlainChange
over i gs ws = take i gs ++ (ws ++ drop (length ws) (drop i gs))

-- the extent the other way round
abbrev pub flipped : Extent → Extent
flipped e = record e { is_turned = not e.is_turned }

over_first : (x : Extent) (es : List Extent) (gs ws : List PlainChange) → length ws ≡ x.count → cut_by (flipped x ∷ es) (ws ++ drop (length ws) gs) ≡ whole (in_order (not x.is_turned) ws) ∷ cut_by es (drop x.count gs)
over_first x es gs ws n =
    ap (λ k. whole (in_order (not x.is_turned) (take k (ws ++ drop (length ws) gs))) ∷ cut_by es (drop k (ws ++ drop (length ws) gs))) (sym n)
    ∙ ap (λ l. whole (in_order (not x.is_turned) l) ∷ cut_by es (drop (length ws) (ws ++ drop (length ws) gs))) (take-append_seam ws (drop (length ws) gs))
    ∙ ap (λ l. whole (in_order (not x.is_turned) ws) ∷ cut_by es l) (drop-append_seam ws (drop (length ws) gs))
    ∙ ap (λ k. whole (in_order (not x.is_turned) ws) ∷ cut_by es (drop k gs)) n

-- the first entries of such a list, and the others
over_take : (a b : ℕ) (gs ws : List PlainChange) → a + b ≤ length gs → take a (over (a + b) gs ws) ≡ take a gs
over_take a b gs ws le =
    let long : length (take (a + b) gs) ≡ a + b = omega (arith, le, length-take (a + b) gs) in
    take-append-le a (take (a + b) gs) (ws ++ drop (length ws) (drop (a + b) gs)) (omega (arith, long)) ∙ take-take a (a + b) gs (omega arith)

over_drop : (a b : ℕ) (gs ws : List PlainChange) → a + b ≤ length gs → drop a (over (a + b) gs ws) ≡ over b (drop a gs) ws
over_drop a b gs ws le =
    let long : length (take (a + b) gs) ≡ a + b = omega (arith, le, length-take (a + b) gs) in
    drop-append-le a (take (a + b) gs) (ws ++ drop (length ws) (drop (a + b) gs)) (omega (arith, long))
    ∙ ap (λ l. l ++ (ws ++ drop (length ws) (drop (a + b) gs))) (drop-take a b gs)
    ∙ ap (λ l. take b (drop a gs) ++ (ws ++ drop (length ws) l)) (sym (drop-drop b a gs))

-- what is known of the i-th record, whose changes begin `off` behind the first
pub record At (s : ℕ) (es : List Extent) (gs : List PlainChange) (i : ℕ) (e : Extent) (off : ℕ) : Type 0 where
  pub start : e.start ≡ s + off
  pub within : off + e.count ≤ length gs
  pub is : get_or (cut_by es gs) i no_record ≡ whole (in_order e.is_turned (take e.count (drop off gs)))
  pub turned : (ws : List PlainChange) → length ws ≡ e.count → cut_by (set es i (flipped e)) (over off gs ws) ≡ set (cut_by es gs) i (whole (in_order (not e.is_turned) ws))

pub at : (s : ℕ) (es : List Extent) (gs : List PlainChange) (i : ℕ) (e : Extent) → Tiles s es (s + length gs) → i < length es → e ≡ get_or es i e → At s es gs i e (e.start - s)
at s [] gs i e t lt is = absurd (omega (arith, lt))
at s (x ∷ es) gs zero e t lt is =
    let b = behind s x es gs t in
    let start : e.start ≡ s = ap (λ (y : Extent). y.start) is ∙ t.0 in
    let count : e.count ≡ x.count = ap (λ (y : Extent). y.count) is in
    let none : e.start - s ≡ 0 = omega (arith, start) in
    subst (λ off. At s (x ∷ es) gs zero e off) (sym none) (record {
      start = omega (arith, start);
      within = omega (arith, count, b.few);
      is = ap (λ y. first_of y gs) (sym is);
      turned = λ ws n.
          ap (λ y. cut_by (flipped y ∷ es) (ws ++ drop (length ws) gs)) is
          ∙ over_first x es gs ws (n ∙ count)
          ∙ ap (λ (y : Extent). whole (in_order (not y.is_turned) ws) ∷ cut_by es (drop x.count gs)) (sym is);
    })
at s (x ∷ es) gs (suc i) e t lt is =
    let b = behind s x es gs t in
    let h = at (s + x.count) es (drop x.count gs) i e b.rest (omega (arith, lt)) is in
    let off : ℕ = e.start - (s + x.count) in
    let all : e.start - s ≡ x.count + off = omega (arith, h.start) in
    let within : x.count + off + e.count ≤ length gs = omega (arith, h.within, b.few, length-drop x.count gs) in
    subst (λ k. At s (x ∷ es) gs (suc i) e k) (sym all) (record {
      start = omega (arith, h.start);
      within = within;
      is = h.is ∙ ap (λ l. whole (in_order e.is_turned (take e.count l))) (drop-drop off x.count gs);
      turned = λ ws n.
          ap (λ l. whole (in_order x.is_turned l) ∷ cut_by (set es i (flipped e)) (drop x.count (over (x.count + off) gs ws))) (over_take x.count off gs ws (omega (arith, within)))
          ∙ ap (λ l. first_of x gs ∷ cut_by (set es i (flipped e)) l) (over_drop x.count off gs ws (omega (arith, within)))
          ∙ ap (λ l. first_of x gs ∷ l) (h.turned ws n);
    })

pub tiles_flip : (s : ℕ) (es : List Extent) (n i : ℕ) (e : Extent) → Tiles s es n → e ≡ get_or es i e → Tiles s (set es i (flipped e)) n
tiles_flip s [] n i e t is = t
tiles_flip s (x ∷ es) n zero e t is = (ap (λ (y : Extent). y.start) is ∙ t.0, subst (λ k. Tiles (s + k) es n) (sym (ap (λ (y : Extent). y.count) is)) t.1)
tiles_flip s (x ∷ es) n (suc i) e t is = (t.0, tiles_flip (s + x.count) es n i e t.1 is)

-- ---- as the fields have it

whole_is : (r : PlainRecord) → IsWhole r → whole r.changes ≡ fitted r
whole_is r w =
    ap (λ m. let z : PlainRecord = record { moves = m; notes = notes_in r.changes; room = length m; changes = r.changes } in z) (sym w.moves)
    ∙ ap (λ n. record (fitted r) { notes = n }) (sym w.notes)

pub tiles_top : {A : Type 0} (es : List Extent) (items : List (Change A)) → Tiles 0 es (length items) → Tiles 0 es (0 + length (map plain_change items))
tiles_top es items t = subst (λ m. Tiles 0 es m) (omega (arith, length-map items plain_change)) t

pub pushed : {A : Type 0} (es : List Extent) (items : List (Change A)) (r : PlainRecord) (e : Extent) → Tiles 0 es (length items) → IsWhole r → e.count ≡ length r.changes → e.is_turned ≡ false → cut_by (es ++ e ∷ []) (map plain_change items ++ r.changes) ≡ cut_by es (map plain_change items) ++ fitted r ∷ []
pushed es items r e t w n f =
    cut_more 0 es (map plain_change items) r.changes e (tiles_top es items t) n f
    ∙ ap (λ x. cut_by es (map plain_change items) ++ x ∷ []) (whole_is r w)

pub found : {A : Type 0} (es : List Extent) (items : List (Change A)) (i : ℕ) (e : Extent) → Tiles 0 es (length items) → i < length es → e ≡ get_or es i e → At 0 es (map plain_change items) i e e.start
found es items i e t lt is =
    let none : e.start - 0 ≡ e.start = omega arith in
    subst (λ o. At 0 es (map plain_change items) i e o) none (at 0 es (map plain_change items) i e (tiles_top es items t) lt is)

-- the changes of a part of the changes
pub part_of : {A : Type 0} (items : List (Change A)) (a n : ℕ) → map plain_change (take n (drop a items)) ≡ take n (drop a (map plain_change items))
part_of items a n = sym (take-map plain_change n (drop a items)) ∙ ap (take n) (sym (drop-map plain_change a items))

range_of : {A : Type 0} (items : List (Change A)) (a n : ℕ) → map plain_change (slice_range items a (a + n)) ≡ take n (drop a (map plain_change items))
range_of items a n =
    let e : (a + n) - a ≡ n = omega arith in
    ap (λ k. map plain_change (take k (drop a items))) e ∙ part_of items a n

-- the record that stands in a part of the changes
pub there : {A : Type 0} (es : List Extent) (items : List (Change A)) (i : ℕ) (e : Extent) → Tiles 0 es (length items) → i < length es → e ≡ get_or es i e
    → get_or (cut_by es (map plain_change items)) i no_record ≡ whole (in_order e.is_turned (map plain_change (slice_range items e.start (e.start + e.count))))
there es items i e t lt is = (found es items i e t lt is).is ∙ ap (λ l. whole (in_order e.is_turned l)) (sym (range_of items e.start e.count))

-- changes of which a part is written over
abbrev pub with_part : {A : Type 0} → List (Change A) → ℕ → List (Change A) → List (Change A)
with_part items i ws = take i items ++ (ws ++ drop (length ws) (drop i items))

changes_over : {A : Type 0} (items ws : List (Change A)) (i : ℕ) → map plain_change (with_part items i ws) ≡ over i (map plain_change items) (map plain_change ws)
changes_over items ws i =
    map-append plain_change (take i items) (ws ++ drop (length ws) (drop i items))
    ∙ ap (λ l. l ++ map plain_change (ws ++ drop (length ws) (drop i items))) (sym (take-map plain_change i items))
    ∙ ap (λ l. take i (map plain_change items) ++ l) (
    map-append plain_change ws (drop (length ws) (drop i items))
    ∙ ap (λ l. map plain_change ws ++ l) (
    sym (drop-map plain_change (length ws) (drop i items))
    ∙ ap (drop (length ws)) (sym (drop-map plain_change i items))
    ∙ ap (λ n. drop n (drop i (map plain_change items))) (sym (length-map ws plain_change))
    )
    )

pub long_part : {A : Type 0} (es : List Extent) (items : List (Change A)) (i : ℕ) (e : Extent) (ws : List (Change A)) → Tiles 0 es (length items) → i < length es → e ≡ get_or es i e → length ws ≡ e.count → length (with_part items e.start ws) ≡ length items
long_part es items i e ws t lt is n =
    let f = found es items i e t lt is in
    let within : e.start + length ws ≤ length items = omega (arith, f.within, n, length-map items plain_change) in
    omega (
      arith,
      within,
      length-append (take e.start items) (ws ++ drop (length ws) (drop e.start items)),
      length-append ws (drop (length ws) (drop e.start items)),
      length-take e.start items,
      length-drop (length ws) (drop e.start items),
      length-drop e.start items,
    )

-- what is left where the changes of a record are written over and its extent is flipped
pub record Turns {A : Type 0} (es : List Extent) (items : List (Change A)) (i : ℕ) (e : Extent) (ws left : List (Change A)) : Type 0 where
  pub all : cut_by (set es i (flipped e)) (map plain_change left) ≡ set (cut_by es (map plain_change items)) i (whole (in_order (not e.is_turned) (map plain_change ws)))
  pub here : get_or (cut_by (set es i (flipped e)) (map plain_change left)) i no_record ≡ whole (in_order (not e.is_turned) (map plain_change ws))
  pub tiles : Tiles 0 (set es i (flipped e)) (length left)

pub turns : {A : Type 0} (es : List Extent) (items : List (Change A)) (i : ℕ) (e : Extent) (ws left : List (Change A)) → Tiles 0 es (length items) → i < length es → e ≡ get_or es i e → length ws ≡ e.count → left ≡ with_part items e.start ws → Turns es items i e ws left
turns es items i e ws left t lt is n same =
    let f = found es items i e t lt is in
    let gs = map plain_change items in
    let new : PlainRecord = whole (in_order (not e.is_turned) (map plain_change ws)) in
    let all = ap (λ l. cut_by (set es i (flipped e)) (map plain_change l)) same ∙ ap (cut_by (set es i (flipped e))) (changes_over items ws e.start) ∙ f.turned (map plain_change ws) (length-map ws plain_change ∙ n) in
    record {
      all = all;
      here = ap (λ l. get_or l i no_record) all ∙ get_or-set_same (cut_by es gs) i new no_record (subst (λ k. i < k) (sym (length-cut es gs)) lt);
      tiles = subst (λ k. Tiles 0 (set es i (flipped e)) k) (sym (ap length same ∙ long_part es items i e ws t lt is n)) (tiles_flip 0 es (length items) i e t is);
    }
