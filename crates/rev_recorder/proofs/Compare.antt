-- How a hand's entries are compared with the log.
use Rattle.std.proofs.Common.{◌≡◌, ◌⊎◌, inl, inr, ℕ, zero, suc, ◌+◌, ◌<◌, ◌==◌, Bool, true, false, cond, List, [], ◌∷◌, ◌++◌, length, map, take, drop, get_or, slice_get, Option, Some, None, option_map, refl, sym, ap, ◌∙◌, subst, arith, add-one, append_assoc, drop-cons, All}
use Rattle.std.specs.List.{list_any}
use Rattle.std.proofs.lemmas.List.{length-take-le, take_more, get_or-map, get_or_default}
use Rattle.std.proofs.Math.Nat.{eq-or-lt_of_le}
use Rattle.std.proofs.lemmas.List.Folds.{Any-from_list_any, list_any_at}
use Rattle.std.proofs.lemmas.Option.{slice_get_within, get_or_from_slice_get, slice_get-get_or, slice_get-map}
use Rattle.std.proofs.Math.Seq.{get_or-append_seam}
use Rattle.std.proofs.lemmas.Bool.Decides.{nat_tests}
use Rattle.rev_model.specs.Actor.{Step}
use Rattle.rev_model.specs.declared.Outcome.{Outcome}
use Rattle.rev_undotree.specs.declared.session.NodeId.{NodeId}
use Rattle.rev_tree.specs.Steps.{outcome_of}
use Rattle.rev_tree.specs.Rows.{Row, row_of, at}
use Rattle.rev_tree.specs.Positions.{SessionState}
use Rattle.rev_recorder.specs.declared.hand.Call.TheVariants.{Play}
use Rattle.rev_recorder.specs.declared.hand.Call.{Call}
use Rattle.rev_recorder.specs.declared.hand.LogRow.{LogRow}
use Rattle.rev_recorder.specs.Hands.{PlainEntry, PlainHand, told, calls_from, calls_of, has_player, Agrees, HasPlayers, IsHeldBy, IsTrueEntry, IsTrueOf}

-- from a row of the player on
pub calls-here : (player place : ℕ) (log : List LogRow) (d : LogRow) → place < length log → (get_or log place d).player ≡ player
    → calls_from player place (drop place log) ≡ (place, (get_or log place d).call) ∷ calls_from player (place + 1) (drop (place + 1) log)
calls-here player place log d within is =
    let same : ((get_or log place d).player == player) ≡ true = grind (arith, nat_tests) in
    let split : drop place log ≡ get_or log place d ∷ drop (place + 1) log = rw add-one (drop-cons log place d within) in
    rw (split, same) refl

-- from a row of another player on
pub calls-other : (player place : ℕ) (log : List LogRow) (d : LogRow) → place < length log → ((get_or log place d).player ≡ player → ⊥)
    → calls_from player place (drop place log) ≡ calls_from player (place + 1) (drop (place + 1) log)
calls-other player place log d within not =
    let other : ((get_or log place d).player == player) ≡ false = grind (arith, nat_tests) in
    let split : drop place log ≡ get_or log place d ∷ drop (place + 1) log = rw add-one (drop-cons log place d within) in
    rw (split, other) refl

-- what an entry tells stands at its place among what the entries tell
pub told-at : (entries : List PlainEntry) (next : ℕ) (entry : PlainEntry) → entry ≡ get_or entries next entry → next < length entries → get_or (map told entries) next (told entry) ≡ told entry
told-at entries next entry is within = get_or-map told entries next entry (told entry) within ∙ ap told (sym is)

-- a list whose next element is another
pub differs : (keys : List (ℕ × Call)) (next : ℕ) (x y : ℕ × Call) (rest : List (ℕ × Call)) → next < length keys → get_or keys next y ≡ y → (y ≡ x → ⊥) → keys ≡ take next keys ++ x ∷ rest → ⊥
differs keys next x y rest within at not is =
    let len : length (take next keys) ≡ next = length-take-le next keys (omega arith) in
    let seam : get_or (take next keys ++ x ∷ rest) next y ≡ x = rw len at (get_or-append_seam (take next keys) x rest y) in
    not (sym at ∙ (ap (λ (ks : List (ℕ × Call)). get_or ks next y) is ∙ seam))

-- one more element
pub extends : (keys : List (ℕ × Call)) (next : ℕ) (x : ℕ × Call) (rest all : List (ℕ × Call)) → next < length keys → get_or keys next x ≡ x → all ≡ take next keys ++ x ∷ rest → all ≡ take (next + 1) keys ++ rest
extends keys next x rest all within at is =
    let more : take (next + 1) keys ≡ take next keys ++ x ∷ [] = rw at at (take_more keys next x within) in
    is ∙ sym (rw (more, append_assoc) refl)

-- what a list of calls holds, it holds behind one more
later : (b : Bool) (x y : ℕ × Call) (calls : List (ℕ × Call)) → (j : ℕ) × (slice_get calls j ≡ Some y) → (j : ℕ) × (slice_get (cond b (x ∷ calls) calls) j ≡ Some y)
later true x y calls found = (suc found.0, found.1)
later false x y calls found = found

-- a row of the log is among its player's calls
pub calls-has : (player base : ℕ) (log : List LogRow) (place : ℕ) (row : LogRow) → slice_get log place ≡ Some row → row.player ≡ player
    → (j : ℕ) × (slice_get (calls_from player base log) j ≡ Some (base + place, row.call))
calls-has player base [] place row at is = absurd (let P : Option LogRow → Type 0 = elim [ None ↦ Unit {0} | Some r ↦ ⊥ ] in subst P at tt)
calls-has player base (r ∷ log) zero row at is =
    let eq : r ≡ row = cc in
    let same : (r.player == player) ≡ true = let k : r.player ≡ player = ap (λ (q : LogRow). q.player) eq ∙ is in grind (arith, nat_tests) in
    let here : Some (base, r.call) ≡ Some (base + 0, row.call) = let n : base + 0 ≡ base = omega arith in rw n (ap (λ (q : LogRow). Some (base, q.call)) eq) in
    (0, rw same here)
calls-has player base (r ∷ log) (suc place) row at is =
    let rest = calls-has player (base + 1) log place row at is in
    let number : base + 1 + place ≡ base + suc place = omega arith in
    let found : (j : ℕ) × (slice_get (calls_from player (base + 1) log) j ≡ Some (base + suc place, row.call)) = (rest.0, rest.1 ∙ ap (λ (n : ℕ). Some (n, row.call)) number) in
    later (r.player == player) (base, r.call) (base + suc place, row.call) (calls_from player (base + 1) log) found

-- an entry behind what it tells
mapped : (found : Option PlainEntry) (y : ℕ × Call) → option_map told found ≡ Some y → (entry : PlainEntry) × (found ≡ Some entry) × (told entry ≡ y)
mapped None y is = absurd (let P : Option (ℕ × Call) → Type 0 = elim [ None ↦ Unit {0} | Some r ↦ ⊥ ] in subst P is tt)
mapped (Some entry) y is = (entry, refl, cc)

-- where every hand agrees, and each row's player has a hand, each row is some hand's entry
pub held-from : (hands : List PlainHand) (log : List LogRow) (session : SessionState) → All (Agrees log session) hands → HasPlayers hands log
    → (place : ℕ) (row : LogRow) → slice_get log place ≡ Some row → IsHeldBy hands place row
held-from hands log session agree has place row at =
    let found = Any-from_list_any (λ (hand : PlainHand). hand.player == row.player) hands (has place row at) in
    let hand : PlainHand = found.1 in
    let whose : hand.player ≡ row.player = let test = found.4 in grind (arith, nat_tests) in
    let true_hand : Agrees log session hand = subst (Agrees log session) found.3 (agree found.0 hand found.2) in
    let call = calls-has row.player 0 log place row at refl in
    let listed : slice_get (calls_of hand.player log) call.0 ≡ Some (place, row.call) =
    let number : 0 + place ≡ place = omega arith in
    rw whose (call.1 ∙ ap (λ (n : ℕ). Some (n, row.call)) number) in
    let told_there : option_map told (slice_get hand.entries call.0) ≡ Some (place, row.call) =
    sym (slice_get-map told hand.entries call.0) ∙ (ap (λ (cs : List (ℕ × Call)). slice_get cs call.0) true_hand.calls ∙ listed) in
    let entry = mapped (slice_get hand.entries call.0) (place, row.call) told_there in
    let there : slice_get hands found.0 ≡ Some hand = slice_get-get_or hands found.0 hand found.2 ∙ ap (λ (h : PlainHand). Some h) found.3 in
    (found.0, hand, call.0, entry.0, there, whose, entry.1, entry.2)

-- a row whose player has no hand is no hand's entry
pub lost : (hands : List PlainHand) (place : ℕ) (row : LogRow) → has_player row.player hands ≡ false → IsHeldBy hands place row → ⊥
lost hands place row none held =
    let test : PlainHand → Bool = λ hand. hand.player == row.player in
    let hand : PlainHand = held.1 in
    let is : get_or hands held.0 hand ≡ hand = get_or_from_slice_get hands held.0 hand hand held.4 in
    let same : (hand.player == row.player) ≡ true = let e : hand.player ≡ row.player = held.5 in grind (arith, nat_tests) in
    let some : list_any test hands ≡ true = list_any_at test hands held.0 hand (slice_get_within hands held.0 hand held.4) (rw is same) in
    cc

-- what each of the first so many has, and the next one, each of one more has
pub one-more : {X : Type 0} (P : X → Type 0) (xs : List X) (n : ℕ) (x : X) → n < length xs → x ≡ get_or xs n x → ((k : ℕ) (d : X) → k < n → P (get_or xs k d)) → P x
    → (k : ℕ) (d : X) → k < n + 1 → P (get_or xs k d)
one-more {X} P xs n x within is each here k d lt =
    let split : (k ≡ n) ⊎ (k < n) = eq-or-lt_of_le (omega (arith, lt)) in
    let Q : ℕ → Type 0 = λ m. P (get_or xs m d) in
    elim split as (λ _. Q k) [
      | inl same ↦ subst Q (sym same) (subst P (is ∙ get_or_default xs n x d within) here)
      | inr less ↦ each k d less
    ]

-- the same of hands whose player an earlier hand has
pub second-more : (hands : List PlainHand) (n : ℕ) (hand : PlainHand) → n < length hands → hand ≡ get_or hands n hand
    → ((k : ℕ) (h : PlainHand) → k < n → slice_get hands k ≡ Some h → has_player h.player (take k hands) ≡ true → h.entries ≡ [])
    → (has_player hand.player (take n hands) ≡ true → hand.entries ≡ [])
    → (k : ℕ) (h : PlainHand) → k < n + 1 → slice_get hands k ≡ Some h → has_player h.player (take k hands) ≡ true → h.entries ≡ []
second-more hands n hand within is each here k h lt found earlier =
    let split : (k ≡ n) ⊎ (k < n) = eq-or-lt_of_le (omega (arith, lt)) in
    elim split as (λ _. h.entries ≡ []) [
      | inl same ↦
          let there : slice_get hands n ≡ Some h = subst (λ (m : ℕ). slice_get hands m ≡ Some h) same found in
          let before : has_player h.player (take n hands) ≡ true = subst (λ (m : ℕ). has_player h.player (take m hands) ≡ true) same earlier in
          let one : hand ≡ h = is ∙ get_or_from_slice_get hands n h hand there in
          let P : PlainHand → Type 0 = λ x. has_player x.player (take n hands) ≡ true in
          sym (ap (λ (x : PlainHand). x.entries) one) ∙ here (subst P (sym one) before)
      | inr less ↦ each k h less found earlier
    ]

-- an entry of a play is true just where its outcome is the step's, once its copy is the row's step
pub true-play : (session : SessionState) (entry : PlainEntry) (n : NodeId) (r : Row) (copy step : Step) (outcome : Outcome)
    → entry.receipt.call ≡ Play n → entry.step ≡ Some copy → row_of session.rows n.0 ≡ Some r → step ≡ r.step → outcome ≡ outcome_of (at session.root session.rows r.parent) r.step → copy ≡ step
    → (entry.receipt.outcome ≡ outcome → IsTrueEntry session entry) × (IsTrueEntry session entry → entry.receipt.outcome ≡ outcome)
true-play session entry n r copy step outcome call kept found is gives same =
    let answer : Row → Outcome = λ q. outcome_of (at session.root session.rows q.parent) q.step in
    let P : Call → Type 0 = λ c. (entry.receipt.outcome ≡ outcome → IsTrueOf session c entry.step entry.receipt.outcome) × (IsTrueOf session c entry.step entry.receipt.outcome → entry.receipt.outcome ≡ outcome) in
    let told_true : entry.receipt.outcome ≡ outcome → IsTrueOf session (Play n) entry.step entry.receipt.outcome = λ e. (r, found, kept ∙ ap (λ (s : Step). Some s) (same ∙ is), e ∙ gives) in
    let true_told : IsTrueOf session (Play n) entry.step entry.receipt.outcome → entry.receipt.outcome ≡ outcome =
    λ t. let one : t.0 ≡ r = (let e : Some t.0 ≡ Some r = sym t.1 ∙ found in cc) in t.3 ∙ (ap answer one ∙ sym gives) in
    subst P (sym call) (told_true, true_told)

-- a list without a first element
pub no-first : {X : Type 0} (xs : List X) → None ≡ slice_get xs 0 → xs ≡ []
no-first [] h = refl
no-first (x ∷ xs) h = cc
