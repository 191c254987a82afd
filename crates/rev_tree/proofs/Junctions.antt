-- One step along a way, as the code takes it: the first place, and the places behind it.
use Rattle.std.proofs.Common.{Fits, w64, Option, None, Some, ◌+◌, ◌≡◌, ℕ, suc, zero, ◌-◌, ◌<◌, ◌≤◌, List, [], ◌∷◌, length, get_or, set, take, drop, map, refl, ap, sym, ◌∙◌, subst, arith, ◌++◌}
use Rattle.std.proofs.lemmas.List.{take_all}
use Rattle.rev_tree.specs.Tree.{PlainNode, PlainBranch, Forks, bare, fork, forks_of, fork_at, put_fork, count}
use Rattle.rev_tree.proofs.Tree.{add_fork-forks_of}
use Rattle.rev_tree.specs.Ways.{reach, IsWay, at_end, with_node, with_fork}
use Rattle.rev_tree.specs.declared.junction.Junction.{Junction}

abbrev pub behind : List Junction → List Junction
behind w = take (length w - 1) (drop 1 w)

pub behind_is : (p : Junction) (ps : List Junction) → behind (p ∷ ps) ≡ ps
behind_is p ps = let e : suc (length ps) - 1 ≡ length ps = omega arith in rw e (take_all (length ps) ps (omega arith))

pub way_split : (w : List Junction) (d : Junction) → 1 ≤ length w → w ≡ get_or w 0 d ∷ behind w
way_split [] d h = absurd (omega arith)
way_split (p ∷ ps) d h = ap (λ z. p ∷ z) (sym (behind_is p ps))

pub length_behind : (w : List Junction) → 1 ≤ length w → length (behind w) < length w
length_behind [] h = h
length_behind (p ∷ ps) h = rw behind_is (omega arith)

pub IsWay-split : (b : PlainBranch) (w : List Junction) (d : Junction) → 1 ≤ length w → IsWay b w → ((get_or w 0 d).fork < count b.forks) × IsWay (fork_at b.forks (get_or w 0 d).fork) (behind w)
IsWay-split b w d h q = subst (λ z. IsWay b z) (way_split w d h) q

pub reach-split : (b : PlainBranch) (w : List Junction) (d : Junction) → 1 ≤ length w → reach b w ≡ reach (fork_at b.forks (get_or w 0 d).fork) (behind w)
reach-split b w d h = ap (λ z. reach b z) (way_split w d h)

pub at_end-split : (f : PlainBranch → PlainBranch) (b : PlainBranch) (w : List Junction) (d : Junction) → 1 ≤ length w → at_end f b w ≡ record { from = b.from; run = b.run; forks = put_fork b.forks (get_or w 0 d).fork (at_end f (fork_at b.forks (get_or w 0 d).fork) (behind w)) }
at_end-split f b w d h = ap (λ z. at_end f b z) (way_split w d h)

pub count-map : {X : Type 0} (v : X → PlainBranch) (bs : List X) → count (forks_of (map v bs)) ≡ length bs
count-map v [] = refl
count-map v (b ∷ bs) = ap suc (count-map v bs)

pub fork_at-map : {X : Type 0} (v : X → PlainBranch) (bs : List X) (i : ℕ) (d : X) → i < length bs → fork_at (forks_of (map v bs)) i ≡ v (get_or bs i d)
fork_at-map v [] i d h = absurd (omega arith)
fork_at-map v (b ∷ bs) zero d h = refl
fork_at-map v (b ∷ bs) (suc i) d h = fork_at-map v bs i d (omega arith)

pub put_fork-map : {X : Type 0} (v : X → PlainBranch) (bs : List X) (i : ℕ) (y : X) → forks_of (map v (set bs i y)) ≡ put_fork (forks_of (map v bs)) i (v y)
put_fork-map v [] i y = refl
put_fork-map v (b ∷ bs) zero y = refl
put_fork-map v (b ∷ bs) (suc i) y = ap (λ m. fork (v b).from (v b).run (v b).forks m) (put_fork-map v bs i y)

-- the child that the code reads at the first place of the way is the fork there
pub within_forks : {X : Type 0} (v : X → PlainBranch) (bs : List X) (b : PlainBranch) (w : List Junction) (d : Junction) → b.forks ≡ forks_of (map v bs) → 1 ≤ length w → IsWay b w → (get_or w 0 d).fork < length bs
within_forks v bs b w d e h q =
    let p = (IsWay-split b w d h q).0 in
    let n : count b.forks ≡ length bs = ap count e ∙ count-map v bs in
    omega (arith, p, n)

pub child_is : {X : Type 0} (v : X → PlainBranch) (bs : List X) (b : PlainBranch) (w : List Junction) (d : Junction) (x : X) (c : PlainBranch) → b.forks ≡ forks_of (map v bs) → 1 ≤ length w → IsWay b w → x ≡ get_or bs (get_or w 0 d).fork x → c ≡ v x → c ≡ fork_at b.forks (get_or w 0 d).fork
child_is v bs b w d x c e h q r s =
    let l : (get_or w 0 d).fork < length bs = within_forks v bs b w d e h q in
    s ∙ ap v r ∙ sym (ap (λ z. fork_at z (get_or w 0 d).fork) e ∙ fork_at-map v bs (get_or w 0 d).fork x l)

pub IsWay_down : (b : PlainBranch) (w : List Junction) (d : Junction) (c : PlainBranch) → 1 ≤ length w → IsWay b w → c ≡ fork_at b.forks (get_or w 0 d).fork → IsWay c (behind w)
IsWay_down b w d c h q e = subst (λ z. IsWay z (behind w)) (sym e) (IsWay-split b w d h q).1

pub reach_down : (b : PlainBranch) (w : List Junction) (d : Junction) (c : PlainBranch) → 1 ≤ length w → c ≡ fork_at b.forks (get_or w 0 d).fork → reach c (behind w) ≡ reach b w
reach_down b w d c h e = ap (λ z. reach z (behind w)) e ∙ sym (reach-split b w d h)

-- a branch whose child at the first place was changed, as the code rebuilds it
pub at_end_up : {X : Type 0} (v : X → PlainBranch) (bs : List X) (b : PlainBranch) (w : List Junction) (d : Junction) (y : X) (c : PlainBranch) (f : PlainBranch → PlainBranch) → b.forks ≡ forks_of (map v bs) → 1 ≤ length w → c ≡ fork_at b.forks (get_or w 0 d).fork → v y ≡ at_end f c (behind w) →
    record { from = b.from; run = b.run; forks = forks_of (map v (set bs (get_or w 0 d).fork y)) } ≡ at_end f b w
at_end_up v bs b w d y c f e h k s =
    let i = (get_or w 0 d).fork in
    let one : forks_of (map v (set bs i y)) ≡ put_fork b.forks i (at_end f (fork_at b.forks i) (behind w)) =
    put_fork-map v bs i y ∙ ap (λ z. put_fork z i (v y)) (sym e) ∙ ap (λ z. put_fork b.forks i z) (s ∙ ap (λ z. at_end f z (behind w)) k) in
    ap (λ z. let r : PlainBranch = record { from = b.from; run = b.run; forks = z } in r) one ∙ sym (at_end-split f b w d h)

pub at_end_inside : {X : Type 0} (v : X → PlainBranch) (from : ℕ) (run : List PlainNode) (bs : List X) (b : PlainBranch) (w : List Junction) (d : Junction) (y : X) (c : PlainBranch) (f : PlainBranch → PlainBranch) → ◌≡◌ {A = PlainBranch} (record { from = from; run = run; forks = forks_of (map v bs) }) b → 1 ≤ length w → c ≡ fork_at b.forks (get_or w 0 d).fork → v y ≡ at_end f c (behind w) →
    ◌≡◌ {A = PlainBranch} (record { from = from; run = run; forks = forks_of (map v (set bs (get_or w 0 d).fork y)) }) (at_end f b w)
at_end_inside v from run bs b w d y c f e h k s =
    ap (λ z. let r : PlainBranch = record { from = z.from; run = z.run; forks = forks_of (map v (set bs (get_or w 0 d).fork y)) } in r) e ∙ at_end_up v bs b w d y c f (sym (ap (λ z. z.forks) e)) h k s

-- nothing changed at the end of a way
pub put_fork-same : (f : Forks) (i : ℕ) → put_fork f i (fork_at f i) ≡ f
put_fork-same bare i = refl
put_fork-same (fork f r j m) zero = refl
put_fork-same (fork f r j m) (suc i) = ap (λ z. fork f r j z) (put_fork-same m i)

pub at_end-id : (b : PlainBranch) (w : List Junction) → at_end (λ z. z) b w ≡ b
at_end-id b [] = refl
at_end-id b (p ∷ ps) = ap (λ z. let r : PlainBranch = record { from = b.from; run = b.run; forks = z } in r) (ap (λ z. put_fork b.forks p.fork z) (at_end-id (fork_at b.forks p.fork) ps) ∙ put_fork-same b.forks p.fork)

pub split_empty : {X : Type 0} (v : X → PlainBranch) (from : ℕ) (run : List PlainNode) (bs cs : List X) (b : PlainBranch) (w : List Junction) (c : PlainBranch) → ◌≡◌ {A = PlainBranch} (record { from = from; run = run; forks = forks_of (map v bs) }) b → length w < 1 → map v cs ≡ map v bs ++ c ∷ [] →
    ◌≡◌ {A = PlainBranch} (record { from = from; run = run; forks = forks_of (map v cs) }) (at_end (with_fork c) b w)
split_empty v from run bs cs b (p ∷ ps) c e h g = absurd (omega arith)
split_empty v from run bs cs b [] c e h g =
    ap (λ z. let r : PlainBranch = record { from = from; run = run; forks = forks_of z } in r) g
    ∙ ap (λ z. let r : PlainBranch = record { from = from; run = run; forks = z } in r) (sym (add_fork-forks_of (map v bs) c))
    ∙ ap (λ z. with_fork c z) e

pub split_refused : {X : Type 0} (v : X → PlainBranch) (from : ℕ) (run : List PlainNode) (bs cs : List X) (b : PlainBranch) → ◌≡◌ {A = PlainBranch} (record { from = from; run = run; forks = forks_of (map v bs) }) b → cs ≡ bs → ◌≡◌ {A = PlainBranch} (record { from = from; run = run; forks = forks_of (map v cs) }) b
split_refused v from run bs cs b h g = ap (λ z. let r : PlainBranch = record { from = from; run = run; forks = forks_of (map v z) } in r) g ∙ h

-- a fork of the node that was held out, behind the others
append_map : {X : Type 0} (v : X → PlainBranch) (bs : List X) (y : X) → map v (bs ++ y ∷ []) ≡ map v bs ++ v y ∷ []
append_map v [] y = refl
append_map v (b ∷ bs) y = ap (λ z. v b ∷ z) (append_map v bs y)

pub sprouted : {X : Type 0} (v : X → PlainBranch) (bs cs : List X) (y : X) (k from : ℕ) (run part : List PlainNode) (f : Forks) (b : PlainBranch) (n : PlainNode) → cs ≡ bs ++ y ∷ [] → v y ≡ record { from = k; run = part; forks = f } → ◌≡◌ {A = PlainBranch} (record { from = k; run = run; forks = f }) b → b ≡ record { from = from; run = []; forks = bare } → part ≡ run ++ n ∷ [] →
    map v cs ≡ map v bs ++ record { from = from; run = n ∷ []; forks = bare } ∷ []
sprouted v bs cs y k from run part f b n ec ey eb en ep =
    ap (λ z. map v z) ec
    ∙ append_map v bs y
    ∙ ap (λ z. map v bs ++ z ∷ [])
    (ey ∙ ap (λ z. let r : PlainBranch = record { from = k; run = z; forks = f } in r) ep ∙ ap (λ z. let r : PlainBranch = record { from = z.from; run = z.run ++ n ∷ []; forks = z.forks } in r) (eb ∙ en))

-- a node pushed on the run at the end of the way, or not
pub extend_empty : (from : ℕ) (run part : List PlainNode) (f : Forks) (b : PlainBranch) (w : List Junction) (e : PlainNode) → ◌≡◌ {A = PlainBranch} (record { from = from; run = run; forks = f }) b → length w < 1 → part ≡ run ++ e ∷ [] → ◌≡◌ {A = PlainBranch} (record { from = from; run = part; forks = f }) (at_end (with_node e) b w)
extend_empty from run part f b (p ∷ ps) e h l g = absurd (omega (arith, l))
extend_empty from run part f b [] e h l g =
    ap (λ z. let r : PlainBranch = record { from = from; run = z; forks = f } in r) g ∙ ap (λ z. with_node e z) h

pub extend_refused : (from : ℕ) (run part : List PlainNode) (f : Forks) (b : PlainBranch) → ◌≡◌ {A = PlainBranch} (record { from = from; run = run; forks = f }) b → part ≡ run → ◌≡◌ {A = PlainBranch} (record { from = from; run = part; forks = f }) b
extend_refused from run part f b h g = ap (λ z. let r : PlainBranch = record { from = from; run = z; forks = f } in r) g ∙ h

-- a position in a run fits a word, and so does the next
pub next_fits : (k l : ℕ) → k ≡ l → l < 9223372036854775808 → Fits w64 (k + 1)
next_fits k l e s = omega (arith, e, s)

-- the number of the node that is held out
abbrev pub held_number : Option PlainNode → ℕ
held_number None = 0
held_number (Some n) = n.number
