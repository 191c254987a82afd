-- A tree of which some parts were taken away: runs end earlier, and some forks are empty.
use Rattle.std.proofs.Common.{◌≡◌, ℕ, suc, zero, ◌-◌, ◌<◌, ◌≤◌, Bool, true, false, List, [], ◌∷◌, ◌++◌, length, refl, ap, sym, ◌∙◌, subst, arith, Option, Some, None, ◌⊎◌, inl, inr, ⊎_elim}
use Rattle.std.proofs.lemmas.List.{length-append}
use Rattle.rev_tree.specs.Steps.{State, next}
use Rattle.rev_tree.specs.Tree.{PlainNode, PlainBranch, Forks, bare, fork, fork_at, count}
use Rattle.rev_tree.specs.Ways.{reach}
use Rattle.rev_tree.specs.States.{after, RunHolds, AllAhead, AllBut, base_at, Context, Ends, state_at, Holds}
use Rattle.rev_tree.specs.Rows.{Row, number_after, start_at, number_at, Known, KnownRun, KnownForks}
use Rattle.rev_tree.specs.Positions.{Proper, Inner}
use Rattle.rev_tree.specs.Paths.{IsPath}
use Rattle.rev_tree.specs.Order.{head_number, bar, IsFirst, Fitted}
use Rattle.rev_tree.proofs.States.{after-append}
use Rattle.rev_tree.proofs.Rows.{number_after-append}
use Rattle.rev_tree.proofs.Finds.{fitted_weaker}
use Rattle.rev_tree.specs.declared.junction.Junction.{Junction}

-- an emptied fork
abbrev pub IsHole : ℕ → List PlainNode → Forks → Type 0
IsHole f r i = (f ≡ 0) × (r ≡ []) × (i ≡ bare)

-- of forks of a run, of which the first l nodes are left, what is left
abbrev pub SubForks : ℕ → Forks → Forks → Type 0
SubForks l bare bare = Unit {0}
SubForks l bare (fork g s j n) = ⊥
SubForks l (fork f r i m) bare = ⊥
SubForks l (fork f r i m) (fork g s j n) =
    (IsHole g s j ⊎ ((g ≡ f) × (f ≤ l) × (more : List PlainNode) × (r ≡ s ++ more) × SubForks (length s) i j)) × SubForks l m n

pub record Sub (b c : PlainBranch) : Type 0 where
  pub more : List PlainNode
  pub run : b.run ≡ c.run ++ more
  pub forks : SubForks (length c.run) b.forks c.forks

-- a fork that is left
pub record SubFork (l : ℕ) (b c : PlainBranch) : Type 0 where
  pub from : c.from ≡ b.from
  pub within : b.from ≤ l
  pub sub : Sub b c

pub count_sub : (l : ℕ) (f g : Forks) → SubForks l f g → count f ≡ count g
count_sub l bare bare h = refl
count_sub l bare (fork g s j n) h = absurd h
count_sub l (fork f r i m) bare h = absurd h
count_sub l (fork f r i m) (fork g s j n) h = ap suc (count_sub l m n h.1)

child : (l : ℕ) (f g : Forks) (i : ℕ) → SubForks l f g → i < count g → IsHole (fork_at g i).from (fork_at g i).run (fork_at g i).forks ⊎ SubFork l (fork_at f i) (fork_at g i)
child l bare bare i h k = absurd (omega (arith, k))
child l bare (fork g s j n) i h k = absurd h
child l (fork f r x m) bare i h k = absurd h
child l (fork f r x m) (fork g s j n) zero h k = ⊎_elim (λ e. inl e) (λ e. inr (record { from = e.0; within = e.1; sub = record { more = e.2; run = e.3; forks = e.4 } })) h.0
child l (fork f r x m) (fork g s j n) (suc i) h k = child l m n i h.1 (omega (arith, k))

pub inner_proper : (w : List Junction) (h : ℕ) → Inner w h → Proper w h
inner_proper [] h o = tt
inner_proper (p ∷ ps) h o = o.1

hole_path : (b : PlainBranch) (w : List Junction) (h : ℕ) → IsHole b.from b.run b.forks → IsPath b w h → Inner w h → ⊥
hole_path b [] h e q o = let z = ap (λ r. length r) e.1 in omega (arith, z, q, o)
hole_path b (p ∷ ps) h e q o = let z = ap (λ f. count f) e.2 in let l = q.1 in omega (arith, z, l)

-- the fork that a position enters is left
pub down : (b c : PlainBranch) (p : Junction) (ps : List Junction) (h : ℕ) → Sub b c → IsPath c (p ∷ ps) h → Inner ps h → SubFork (length c.run) (fork_at b.forks p.fork) (fork_at c.forks p.fork)
down b c p ps h s q o = ⊎_elim (λ e. absurd (hole_path (fork_at c.forks p.fork) ps h e q.3 o)) (λ e. e) (child (length c.run) b.forks c.forks p.fork s.forks q.1)

-- runs
RunHolds-part : (s : State) (run more : List PlainNode) (k : ℕ) → RunHolds s (run ++ more) k → RunHolds s run k
RunHolds-part s [] more k h = tt
RunHolds-part s (e ∷ es) more zero h = (h.0, h.1, RunHolds-part (next s e.step) es more zero h.2)
RunHolds-part s (e ∷ es) more (suc k) h = (h.0, h.1, RunHolds-part (next s e.step) es more k h.2)

KnownRun-part : (rows : List (Option Row)) (p : ℕ) (c : Bool) (run more : List PlainNode) → KnownRun rows p c (run ++ more) → KnownRun rows p c run
KnownRun-part rows p c [] more h = tt
KnownRun-part rows p c (e ∷ es) more h = (h.0, KnownRun-part rows e.number true es more h.1)

after_sub : (s : State) (b c : PlainBranch) (j : ℕ) → Sub b c → j ≤ length c.run → after s j c.run ≡ after s j b.run
after_sub s b c j h l = sym (after-append s c.run h.more j l) ∙ ap (λ z. after s j z) (sym h.run)

number_sub : (p : ℕ) (b c : PlainBranch) (j : ℕ) → Sub b c → j ≤ length c.run → number_after p j c.run ≡ number_after p j b.run
number_sub p b c j h l = sym (number_after-append p c.run h.more j l) ∙ ap (λ z. number_after p j z) (sym h.run)

pub length_sub : (b c : PlainBranch) → Sub b c → length c.run ≤ length b.run
length_sub b c h = let e = ap (λ z. length z) h.run in let a = length-append c.run h.more in omega (arith, e, a)

runs_sub : (s : State) (b c : PlainBranch) (k : ℕ) → Sub b c → RunHolds s b.run k → RunHolds s c.run k
runs_sub s b c k h r = RunHolds-part s c.run h.more k (subst (λ z. RunHolds s z k) h.run r)

-- states
AllAhead-sub : (s : State) (run part : List PlainNode) (f g : Forks) → ((j : ℕ) → j ≤ length part → after s j part ≡ after s j run) → SubForks (length part) f g → AllAhead s run f → AllAhead s part g
AllAhead-sub s run part bare bare e h a = tt
AllAhead-sub s run part bare (fork g t j n) e h a = absurd h
AllAhead-sub s run part (fork f r i m) bare e h a = absurd h
AllAhead-sub s run part (fork f r i m) (fork g t j n) e h a =
    ⊎_elim
    (λ z. rw (z.0, z.1, z.2) (omega arith, tt, tt, AllAhead-sub s run part m n e h.1 a.3))
    (λ z.
    let here : after s f run ≡ after s f part = sym (e f z.1) in
    let start = subst (λ x. RunHolds x (t ++ z.2) 0) here (subst (λ x. RunHolds (after s f run) x 0) z.3 a.1) in
    let inner = subst (λ x. AllAhead x r i) here a.2 in
    rw z.0 (z.1, RunHolds-part (after s f part) t z.2 0 start, AllAhead-sub (after s f part) r t i j (λ k l. sym (after-append (after s f part) t z.2 k l) ∙ ap (λ x. after (after s f part) k x) (sym z.3)) z.4 inner, AllAhead-sub s run part m n e h.1 a.3))
    h.0

AllBut-sub : (k : ℕ) (s : State) (run part : List PlainNode) (f g : Forks) → ((j : ℕ) → j ≤ length part → after s j part ≡ after s j run) → SubForks (length part) f g → AllBut k s run f → AllBut k s part g
AllBut-sub k s run part bare bare e h a = tt
AllBut-sub k s run part bare (fork g t j n) e h a = absurd h
AllBut-sub k s run part (fork f r i m) bare e h a = absurd h
AllBut-sub zero s run part (fork f r i m) (fork g t j n) e h a = AllAhead-sub s run part m n e h.1 a
AllBut-sub (suc k) s run part (fork f r i m) (fork g t j n) e h a =
    ⊎_elim
    (λ z. rw (z.0, z.1, z.2) (omega arith, tt, tt, AllBut-sub k s run part m n e h.1 a.3))
    (λ z.
    let here : after s f run ≡ after s f part = sym (e f z.1) in
    let start = subst (λ x. RunHolds x (t ++ z.2) 0) here (subst (λ x. RunHolds (after s f run) x 0) z.3 a.1) in
    let inner = subst (λ x. AllAhead x r i) here a.2 in
    rw z.0 (z.1, RunHolds-part (after s f part) t z.2 0 start, AllAhead-sub (after s f part) r t i j (λ k l. sym (after-append (after s f part) t z.2 k l) ∙ ap (λ x. after (after s f part) k x) (sym z.3)) z.4 inner, AllBut-sub k s run part m n e h.1 a.3))
    h.0

-- positions of what is left are positions of the tree, with the same numbers and states
pub path_sub : (b c : PlainBranch) (w : List Junction) (h : ℕ) → Sub b c → IsPath c w h → Proper w h → IsPath b w h
path_sub b c [] h s q o = let l = length_sub b c s in omega (arith, l, q)
path_sub b c (p ∷ ps) h s q o =
    let d = down b c p ps h s q o in
    let l = length_sub b c s in
    let t = q.0 in
    (omega (arith, l, t), rw (count_sub (length c.run) b.forks c.forks s.forks) q.1, sym d.from ∙ q.2, path_sub (fork_at b.forks p.fork) (fork_at c.forks p.fork) ps h d.sub q.3 (inner_proper ps h o))

pub starts_sub : (n : ℕ) (b c : PlainBranch) (w : List Junction) (h : ℕ) → Sub b c → IsPath c w h → Proper w h → start_at n c w ≡ start_at n b w
starts_sub n b c [] h s q o = refl
starts_sub n b c (p ∷ ps) h s q o =
    ap (λ z. start_at z (fork_at c.forks p.fork) ps) (number_sub n b c p.taken s q.0)
    ∙ starts_sub (number_after n p.taken b.run) (fork_at b.forks p.fork) (fork_at c.forks p.fork) ps h (down b c p ps h s q o).sub q.3 (inner_proper ps h o)

pub reach_sub : (b c : PlainBranch) (w : List Junction) (h : ℕ) → Sub b c → IsPath c w h → Proper w h → Sub (reach b w) (reach c w) × (h ≤ length (reach c w).run)
reach_sub b c [] h s q o = (s, q)
reach_sub b c (p ∷ ps) h s q o = reach_sub (fork_at b.forks p.fork) (fork_at c.forks p.fork) ps h (down b c p ps h s q o).sub q.3 (inner_proper ps h o)

pub number_at-sub : (b c : PlainBranch) (w : List Junction) (h : ℕ) → Sub b c → IsPath c w h → Proper w h → number_at c w h ≡ number_at b w h
number_at-sub b c w h s q o =
    let r = reach_sub b c w h s q o in
    ap (λ z. number_after z h (reach c w).run) (starts_sub 0 b c w h s q o) ∙ number_sub (start_at 0 b w) (reach b w) (reach c w) h r.0 r.1

base_sub : (s : State) (b c : PlainBranch) (w : List Junction) (h : ℕ) → Sub b c → IsPath c w h → Proper w h → base_at s c w ≡ base_at s b w
base_sub s b c [] h u q o = refl
base_sub s b c (p ∷ ps) h u q o =
    ap (λ z. base_at z (fork_at c.forks p.fork) ps) (after_sub s b c p.taken u q.0)
    ∙ base_sub (after s p.taken b.run) (fork_at b.forks p.fork) (fork_at c.forks p.fork) ps h (down b c p ps h u q o).sub q.3 (inner_proper ps h o)

context_sub : (s : State) (b c : PlainBranch) (w : List Junction) (h : ℕ) → Sub b c → IsPath c w h → Proper w h → Context s b w → Context s c w
context_sub s b c [] h u q o x = tt
context_sub s b c (p ∷ ps) h u q o x =
    let e = after_sub s b c p.taken u q.0 in (
      q.0,
      runs_sub s b c p.taken u x.1,
      AllBut-sub p.fork s b.run c.run b.forks c.forks (λ j l. after_sub s b c j u l) u.forks x.2,
      q.1,
      q.2,
      subst (λ z. Context z (fork_at c.forks p.fork) ps) (sym e) (context_sub (after s p.taken b.run) (fork_at b.forks p.fork) (fork_at c.forks p.fork) ps h (down b c p ps h u q o).sub q.3 (inner_proper ps h o) x.5),
    )

ends_sub : (s : State) (b c : PlainBranch) (k : ℕ) → Sub b c → k ≤ length c.run → Ends s b k → Ends s c k
ends_sub s b c k u l x = (l, runs_sub s b c k u x.1, AllAhead-sub s b.run c.run b.forks c.forks (λ j m. after_sub s b c j u m) u.forks x.2)

pub holds_sub : (s : State) (b c : PlainBranch) (w : List Junction) (h : ℕ) → Sub b c → IsPath c w h → Proper w h → Holds s b w h → Holds s c w h
holds_sub s b c w h u q o x =
    let r = reach_sub b c w h u q o in
    record {
      context = context_sub s b c w h u q o x.context;
      ends = subst (λ z. Ends z (reach c w) h) (sym (base_sub s b c w h u q o)) (ends_sub (base_at s b w) (reach b w) (reach c w) h r.0 r.1 x.ends);
    }

pub state_sub : (s : State) (b c : PlainBranch) (w : List Junction) (h : ℕ) → Sub b c → IsPath c w h → Proper w h → state_at s c w h ≡ state_at s b w h
state_sub s b c w h u q o =
    let r = reach_sub b c w h u q o in
    ap (λ z. after z h (reach c w).run) (base_sub s b c w h u q o) ∙ after_sub (base_at s b w) (reach b w) (reach c w) h r.0 r.1

-- rows
KnownForks-sub : (rows : List (Option Row)) (p : ℕ) (run part : List PlainNode) (f g : Forks) → ((j : ℕ) → j ≤ length part → number_after p j part ≡ number_after p j run) → SubForks (length part) f g → KnownForks rows p run f → KnownForks rows p part g
KnownForks-sub rows p run part bare bare e h a = tt
KnownForks-sub rows p run part bare (fork g t j n) e h a = absurd h
KnownForks-sub rows p run part (fork f r i m) bare e h a = absurd h
KnownForks-sub rows p run part (fork f r i m) (fork g t j n) e h a =
    ⊎_elim
    (λ z. rw (z.0, z.1, z.2) (tt, tt, KnownForks-sub rows p run part m n e h.1 a.2))
    (λ z.
    let here : number_after p f run ≡ number_after p f part = sym (e f z.1) in
    let start = subst (λ x. KnownRun rows x false (t ++ z.2)) here (subst (λ x. KnownRun rows (number_after p f run) false x) z.3 a.0) in
    let inner = subst (λ x. KnownForks rows x r i) here a.1 in
    let q = number_after p f part in
    rw z.0 (KnownRun-part rows q false t z.2 start, KnownForks-sub rows q r t i j (λ k l. sym (number_after-append q t z.2 k l) ∙ ap (λ x. number_after q k x) (sym z.3)) z.4 inner, KnownForks-sub rows p run part m n e h.1 a.2))
    h.0

pub known_sub : (rows : List (Option Row)) (p : ℕ) (d : Bool) (b c : PlainBranch) → Sub b c → Known rows p d b → Known rows p d c
known_sub rows p d b c u a =
    (KnownRun-part rows p d c.run u.more (subst (λ z. KnownRun rows p d z) u.run a.0), KnownForks-sub rows p b.run c.run b.forks c.forks (λ j l. number_sub p b c j u l) u.forks a.1)

-- order
first_part : (z l f : ℕ) (s more : List PlainNode) → IsFirst z l f (head_number (s ++ more)) → IsFirst z l f (head_number s)
first_part z l f [] more h = tt
first_part z l f (e ∷ es) more h = h

bar_part : (l f z : ℕ) (s more : List PlainNode) → IsFirst z l f (head_number (s ++ more)) → bar l (head_number s) ≤ bar l (head_number (s ++ more))
bar_part l f z [] [] h = omega arith
bar_part l f z [] (e ∷ es) h = let a = h.1 in omega (arith, a)
bar_part l f z (e ∷ es) more h = omega arith

bar_up : (z l f : ℕ) (o : Option ℕ) → IsFirst z l f o → l ≤ bar l o
bar_up z l f None h = omega arith
bar_up z l f (Some n) h = let a = h.1 in omega (arith, a)

pub fitted_sub : (f g : Forks) (run part : List PlainNode) (k l z : ℕ) → SubForks (length part) f g → Fitted f run k l z → Fitted g part k l z
fitted_sub bare bare run part k l z h a = tt
fitted_sub bare (fork g t j n) run part k l z h a = absurd h
fitted_sub (fork f r i m) bare run part k l z h a = absurd h
fitted_sub (fork f r i m) (fork g t j n) run part k l z h a =
    ⊎_elim
    (λ e.
    let rest = fitted_weaker n part k (bar l (head_number r)) l z z (omega arith) (bar_up z l f (head_number r) a.2) (fitted_sub m n run part k (bar l (head_number r)) z h.1 a.4) in
    rw (e.0, e.1, e.2) (a.0, omega arith, tt, tt, rest))
    (λ e.
    let first = subst (λ x. IsFirst z l f (head_number x)) e.3 a.2 in
    let inner = fitted_sub i j r t (k - 1) 0 1 e.4 a.3 in
    let all = subst (λ x. Fitted n part k (bar l (head_number x)) z) e.3 (fitted_sub m n run part k (bar l (head_number r)) z h.1 a.4) in
    rw e.0 (a.0, e.1, first_part z l f t e.2 first, inner, fitted_weaker n part k (bar l (head_number (t ++ e.2))) (bar l (head_number t)) z z (omega arith) (bar_part l f z t e.2 first) all))
    h.0
