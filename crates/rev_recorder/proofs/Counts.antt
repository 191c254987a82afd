-- How long the log is, and the entries of all hands together.
use Rattle.std.proofs.Common.{◌≡◌, ℕ, zero, suc, ◌+◌, ◌<◌, ◌≤◌, ◌==◌, Bool, true, false, cond, List, [], ◌∷◌, length, map, take, get_or, slice_get, Option, Some, None, refl, sym, ap, ◌∙◌, subst, arith, All, sum_by}
use Rattle.std.proofs.lemmas.List.{length-map}
use Rattle.std.proofs.lemmas.List.Sums.{sum_by-cons}
use Rattle.std.proofs.lemmas.List.Folds.{Any-from_list_any, list_any_at}
use Rattle.std.proofs.lemmas.Option.{slice_get_within, get_or_from_slice_get, slice_get-get_or}
use Rattle.std.proofs.lemmas.Bool.Decides.{nat_tests}
use Rattle.rev_tree.specs.Positions.{SessionState}
use Rattle.rev_recorder.specs.declared.hand.Call.{Call}
use Rattle.rev_recorder.specs.declared.hand.LogRow.{LogRow}
use Rattle.rev_recorder.specs.Hands.{PlainHand, told, calls_from, calls_of, has_player, Agrees, HasPlayers, HasOneEach, IsSecond, Settles}
use Rattle.rev_recorder.proofs.Legal.{refuted}
use Rattle.rev_recorder.proofs.Compare.{calls-has}

-- how many hands are a player's
abbrev owners : ℕ → List PlainHand → ℕ
owners player [] = 0
owners player (hand ∷ hands) = cond (player == hand.player) (suc (owners player hands)) (owners player hands)

-- how many calls of the log the hands' players made, each hand counted
abbrev weight : ℕ → List LogRow → List PlainHand → ℕ
weight place log [] = 0
weight place log (hand ∷ hands) = length (calls_from hand.player place log) + weight place log hands

-- an empty log has no calls
weight-nil : (place : ℕ) (hands : List PlainHand) → weight place [] hands ≡ 0
weight-nil place [] = refl
weight-nil place (hand ∷ hands) = omega (arith, weight-nil place hands)

weight-step : (b : Bool) (x : ℕ × Call) (calls : List (ℕ × Call)) (w o v : ℕ) → w ≡ o + v → length (cond b (x ∷ calls) calls) + w ≡ cond b (suc o) o + (length calls + v)
weight-step true x calls w o v h = omega (arith, h)
weight-step false x calls w o v h = omega (arith, h)

-- a row more counts once for each hand of its player
weight-row : (place : ℕ) (row : LogRow) (log : List LogRow) (hands : List PlainHand) → weight place (row ∷ log) hands ≡ owners row.player hands + weight (place + 1) log hands
weight-row place row log [] = refl
weight-row place row log (hand ∷ hands) =
    weight-step (row.player == hand.player) (place, row.call) (calls_from hand.player (place + 1) log) (weight place (row ∷ log) hands) (owners row.player hands) (weight (place + 1) log hands) (weight-row place row log hands)

-- where each row has one hand
weight-exact : (place : ℕ) (log : List LogRow) (hands : List PlainHand) → ((k : ℕ) (row : LogRow) → slice_get log k ≡ Some row → owners row.player hands ≡ 1) → weight place log hands ≡ length log
weight-exact place [] hands each = weight-nil place hands
weight-exact place (row ∷ log) hands each =
    let rest = weight-exact (place + 1) log hands (λ k r at. each (suc k) r at) in
    omega (arith, weight-row place row log hands, each 0 row refl, rest)

-- where each row has a hand
weight-least : (place : ℕ) (log : List LogRow) (hands : List PlainHand) → ((k : ℕ) (row : LogRow) → slice_get log k ≡ Some row → 1 ≤ owners row.player hands) → length log ≤ weight place log hands
weight-least place [] hands each = omega arith
weight-least place (row ∷ log) hands each =
    let rest = weight-least (place + 1) log hands (λ k r at. each (suc k) r at) in
    omega (arith, weight-row place row log hands, each 0 row refl, rest)

-- and one of them has two
weight-more : (place : ℕ) (log : List LogRow) (hands : List PlainHand) (k : ℕ) (row : LogRow) → slice_get log k ≡ Some row → 2 ≤ owners row.player hands
    → ((j : ℕ) (r : LogRow) → slice_get log j ≡ Some r → 1 ≤ owners r.player hands) → length log < weight place log hands
weight-more place [] hands k row at two each = absurd (let P : Option LogRow → Type 0 = elim [ None ↦ Unit {0} | Some r ↦ ⊥ ] in subst P at tt)
weight-more place (r ∷ log) hands zero row at two each =
    let same : r ≡ row = cc in
    let here : 2 ≤ owners r.player hands = subst (λ (q : LogRow). 2 ≤ owners q.player hands) (sym same) two in
    let rest = weight-least (place + 1) log hands (λ j q found. each (suc j) q found) in
    omega (arith, weight-row place r log hands, here, rest)
weight-more place (r ∷ log) hands (suc k) row at two each =
    let rest = weight-more (place + 1) log hands k row at two (λ j q found. each (suc j) q found) in
    omega (arith, weight-row place r log hands, each 0 r refl, rest)

-- where every hand agrees, its entries are its player's calls
sum-weight : (log : List LogRow) (session : SessionState) (hands : List PlainHand) → All (Agrees log session) hands → sum_by (λ (hand : PlainHand). length hand.entries) hands ≡ weight 0 log hands
sum-weight log session [] agree = refl
sum-weight log session (hand ∷ hands) agree =
    let first : Agrees log session hand = agree 0 hand (omega arith) in
    let here : length hand.entries ≡ length (calls_of hand.player log) = rw length-map at (ap (λ (calls : List (ℕ × Call)). length calls) first.calls) in
    let rest = sum-weight log session hands (λ k d within. agree (suc k) d (omega (arith, within))) in
    omega (arith, sum_by-cons (λ (h : PlainHand). length h.entries) hand hands, here, rest)

turned-true : (a b : ℕ) → (a == b) ≡ true → (b == a) ≡ true
turned-true a b h = grind (arith, nat_tests)

turned-false : (a b : ℕ) → (a == b) ≡ false → (b == a) ≡ false
turned-false a b h = grind (arith, nat_tests)

-- a player with a hand has one at least
owners-some-step : (b : Bool) (player : ℕ) (hand : PlainHand) (hands : List PlainHand) → (player == hand.player) ≡ b → (has_player player hands ≡ true → 1 ≤ owners player hands) → has_player player (hand ∷ hands) ≡ true → 1 ≤ owners player (hand ∷ hands)
owners-some-step true player hand hands is rest has = rw is (omega arith)
owners-some-step false player hand hands is rest has = rw is (rest (rw (turned-false player hand.player is) at has))

owners-some : (player : ℕ) (hands : List PlainHand) → has_player player hands ≡ true → 1 ≤ owners player hands
owners-some player [] has = cc
owners-some player (hand ∷ hands) has = owners-some-step (player == hand.player) player hand hands refl (owners-some player hands) has

-- a player without one has none
owners-none-step : (b : Bool) (player : ℕ) (hand : PlainHand) (hands : List PlainHand) → (player == hand.player) ≡ b → (has_player player hands ≡ false → owners player hands ≡ 0) → has_player player (hand ∷ hands) ≡ false → owners player (hand ∷ hands) ≡ 0
owners-none-step true player hand hands is rest has = absurd (let h : true ≡ false = rw (turned-true player hand.player is) at has in cc)
owners-none-step false player hand hands is rest has = rw is (rest (rw (turned-false player hand.player is) at has))

owners-none : (player : ℕ) (hands : List PlainHand) → has_player player hands ≡ false → owners player hands ≡ 0
owners-none player [] has = refl
owners-none player (hand ∷ hands) has = owners-none-step (player == hand.player) player hand hands refl (owners-none player hands) has

-- a hand of the list is its player's
has-at : (player : ℕ) (hands : List PlainHand) (k : ℕ) (hand : PlainHand) → slice_get hands k ≡ Some hand → hand.player ≡ player → has_player player hands ≡ true
has-at player hands k hand found whose =
    let is : get_or hands k hand ≡ hand = get_or_from_slice_get hands k hand hand found in
    let same : (hand.player == player) ≡ true = grind (arith, nat_tests) in
    list_any_at (λ (h : PlainHand). h.player == player) hands k hand (slice_get_within hands k hand found) (rw is same)

abbrev IsAlone : ℕ → List PlainHand → Type 0
IsAlone player hands = (k : ℕ) (hand : PlainHand) → slice_get hands k ≡ Some hand → hand.player ≡ player → has_player player (take k hands) ≡ false

-- a player none of whose hands has an earlier one has one at most
owners-one-step : (b : Bool) (player : ℕ) (hand : PlainHand) (hands : List PlainHand) → (player == hand.player) ≡ b → (IsAlone player hands → owners player hands ≤ 1) → IsAlone player (hand ∷ hands) → owners player (hand ∷ hands) ≤ 1
owners-one-step true player hand hands is rest alone =
    let mine : (hand.player == player) ≡ true = turned-true player hand.player is in
    let none : has_player player hands ≡ false = refuted (has_player player hands) (λ has.
    let found = Any-from_list_any (λ (h : PlainHand). h.player == player) hands has in
    let other : PlainHand = found.1 in
    let whose : other.player ≡ player = let test = found.4 in grind (arith, nat_tests) in
    let there : slice_get hands found.0 ≡ Some other = slice_get-get_or hands found.0 other found.2 ∙ ap (λ (h : PlainHand). Some h) found.3 in
    let never : true ≡ false = rw mine at (alone (suc found.0) other there whose) in
    cc) in
    rw is (omega (arith, owners-none player hands none))
owners-one-step false player hand hands is rest alone =
    rw is (rest (λ k other found whose. rw (turned-false player hand.player is) at (alone (suc k) other found whose)))

owners-one : (player : ℕ) (hands : List PlainHand) → IsAlone player hands → owners player hands ≤ 1
owners-one player [] alone = omega arith
owners-one player (hand ∷ hands) alone = owners-one-step (player == hand.player) player hand hands refl (owners-one player hands) alone

-- a player one of whose hands has an earlier one has two at least
owners-two-step : (b : Bool) (player : ℕ) (hand : PlainHand) (hands : List PlainHand) → (player == hand.player) ≡ b → has_player player hands ≡ true → (k : ℕ) → (has_player player (take k hands) ≡ true → 2 ≤ owners player hands)
    → has_player player (take (suc k) (hand ∷ hands)) ≡ true → 2 ≤ owners player (hand ∷ hands)
owners-two-step true player hand hands is has k rest earlier = rw is (omega (arith, owners-some player hands has))
owners-two-step false player hand hands is has k rest earlier = rw is (rest (rw (turned-false player hand.player is) at earlier))

owners-two : (player : ℕ) (hands : List PlainHand) (k : ℕ) (other : PlainHand) → slice_get hands k ≡ Some other → other.player ≡ player → has_player player (take k hands) ≡ true → 2 ≤ owners player hands
owners-two player [] k other found whose earlier = absurd (let P : Option PlainHand → Type 0 = elim [ None ↦ Unit {0} | Some r ↦ ⊥ ] in subst P found tt)
owners-two player (hand ∷ hands) zero other found whose earlier = cc
owners-two player (hand ∷ hands) (suc k) other found whose earlier =
    owners-two-step (player == hand.player) player hand hands refl (has-at player hands k other found whose) k (owners-two player hands k other found whose) earlier

-- a player with calls has a row
calls-row-step : (b : Bool) (player place : ℕ) (row : LogRow) (log : List LogRow) → (row.player == player) ≡ b
    → (0 < length (calls_from player (place + 1) log) → (j : ℕ) × (r : LogRow) × (slice_get log j ≡ Some r) × (r.player ≡ player))
    → 0 < length (calls_from player place (row ∷ log)) → (j : ℕ) × (r : LogRow) × (slice_get (row ∷ log) j ≡ Some r) × (r.player ≡ player)
calls-row-step true player place row log is rest some = (0, row, refl, let e : row.player ≡ player = grind (arith, nat_tests) in e)
calls-row-step false player place row log is rest some =
    let found = rest (rw is at some) in
    (suc found.0, found.1, found.2, found.3)

calls-row : (player place : ℕ) (log : List LogRow) → 0 < length (calls_from player place log) → (j : ℕ) × (r : LogRow) × (slice_get log j ≡ Some r) × (r.player ≡ player)
calls-row player place [] some = absurd (omega (arith, some))
calls-row player place (row ∷ log) some = calls-row-step (row.player == player) player place row log refl (calls-row player (place + 1) log) some

agrees-at : (log : List LogRow) (session : SessionState) (hands : List PlainHand) → All (Agrees log session) hands → (k : ℕ) (hand : PlainHand) → slice_get hands k ≡ Some hand → Agrees log session hand
agrees-at log session hands agree k hand found =
    subst (Agrees log session) (get_or_from_slice_get hands k hand hand found) (agree k hand (slice_get_within hands k hand found))

-- where every hand agrees, each row's player has a hand, and no second one has entries, the log is as long as the
-- entries
pub one-each : (hands : List PlainHand) (log : List LogRow) (session : SessionState) → All (Agrees log session) hands → HasPlayers hands log → HasOneEach hands
    → length log ≡ sum_by (λ (hand : PlainHand). length hand.entries) hands
one-each hands log session agree has one =
    let exact : (k : ℕ) (row : LogRow) → slice_get log k ≡ Some row → owners row.player hands ≡ 1 = λ k row at.
    let alone : IsAlone row.player hands = λ i hand found whose. refuted (has_player row.player (take i hands)) (λ earlier.
    let none : hand.entries ≡ [] = one i hand found (subst (λ (a : ℕ). has_player a (take i hands) ≡ true) (sym whose) earlier) in
    let true_hand : Agrees log session hand = agrees-at log session hands agree i hand found in
    let call = calls-has hand.player 0 log k row at (sym whose) in
    let empty : calls_of hand.player log ≡ [] = sym true_hand.calls ∙ ap (map told) none in
    let listed : slice_get [] call.0 ≡ Some (0 + k, row.call) = subst (λ (cs : List (ℕ × Call)). slice_get cs call.0 ≡ Some (0 + k, row.call)) empty call.1 in
    let P : Option (ℕ × Call) → Type 0 = elim [ None ↦ Unit {0} | Some r ↦ ⊥ ] in
    subst P listed tt) in
    let most : owners row.player hands ≤ 1 = owners-one row.player hands alone in
    let least : 1 ≤ owners row.player hands = owners-some row.player hands (has k row at) in
    omega (arith, most, least) in
    sym (sum-weight log session hands agree ∙ weight-exact 0 log hands exact)

-- a second hand with entries makes the entries more than the log's rows
pub doubled : (hands : List PlainHand) (log : List LogRow) (session : SessionState) → All (Agrees log session) hands → HasPlayers hands log → IsSecond hands → Settles hands log session → ⊥
doubled hands log session agree has second settles =
    let hand : PlainHand = second.1 in
    let true_hand : Agrees log session hand = agrees-at log session hands agree second.0 hand second.2 in
    let calls : length hand.entries ≡ length (calls_of hand.player log) = rw length-map at (ap (λ (cs : List (ℕ × Call)). length cs) true_hand.calls) in
    let some : 0 < length (calls_of hand.player log) = omega (arith, calls, second.4) in
    let found = calls-row hand.player 0 log some in
    let row : LogRow = found.1 in
    let both : 2 ≤ owners hand.player hands = owners-two hand.player hands second.0 hand second.2 refl second.3 in
    let two : 2 ≤ owners row.player hands = subst (λ (a : ℕ). 2 ≤ owners a hands) (sym found.3) both in
    let more = weight-more 0 log hands found.0 row found.2 two (λ k r at. owners-some r.player hands (has k r at)) in
    omega (arith, more, settles.count, sum-weight log session hands agree)
