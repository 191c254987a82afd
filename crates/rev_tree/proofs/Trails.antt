-- The nodes on the way to a position.
use Rattle.std.proofs.Common.{◌≡◌, ℕ, suc, zero, ◌-◌, ◌<◌, ◌≤◌, true, false, cond, nat_le, List, [], ◌∷◌, ◌++◌, length, take, drop, get_or, slice_get, refl, ap, sym, ◌∙◌, subst, arith, Option, Some, ◌⊎◌, inl, inr, ⊎_elim}
use Rattle.std.proofs.lemmas.List.{append-nil}
use Rattle.std.proofs.lemmas.Bool.Decides.{nat_tests}
use Rattle.rev_model.specs.Actor.{step as played_step}
use Rattle.rev_model.specs.Causes.{step_removals}
use Rattle.rev_model.specs.Move.{LeadsBack}
use Rattle.rev_inverse.specs.Record.{flat}
use Rattle.rev_inverse.specs.Telling.{TellsAll}
use Rattle.rev_tree.specs.Steps.{State, PlainRecord, Step, Outcome, Sound, next, outcome_of, Undoes}
use Rattle.rev_tree.specs.Tree.{PlainNode, PlainBranch, fork_at}
use Rattle.rev_tree.specs.Places.{with_place}
use Rattle.rev_tree.specs.Ways.{reach, undo_of, no_node}
use Rattle.rev_tree.specs.States.{after, RunHolds, base_at, Context, Ends, state_at}
use Rattle.rev_tree.specs.Rows.{Row, row, row_of, number_at, start_at, rows_of, at}
use Rattle.rev_tree.proofs.Rows.{first_continues, at-zero}
use Rattle.rev_tree.specs.Positions.{SessionState, Kept, Proper, Inner, Below, along, fork_off, depth}
use Rattle.rev_tree.specs.Paths.{IsPath}
use Rattle.rev_tree.specs.Machine.{lineage}
use Rattle.rev_tree.specs.Trails.{cut, Trailed}
use Rattle.rev_tree.proofs.Turns.{leads_sound, leads_moves, undoes_tells, next_step}
use Rattle.rev_tree.proofs.Positions.{Proper-zero}
use Rattle.rev_tree.proofs.Moves.{depth_below}
use Rattle.rev_tree.proofs.Spots.{Along, Off, step_of, Tree, path_less, path_within}
use Rattle.rev_tree.proofs.Finds.{number_after-get}
use Rattle.rev_tree.proofs.Held.{path_row, goes}
use Rattle.rev_tree.proofs.Machine.{kept_tree, kept_path}
use Rattle.rev_tree.proofs.Outcomes.{at_path, out_context, out_path}
use Rattle.rev_tree.proofs.Trips.{lineage_below, lineage_depth, row_below, path_below}
use Rattle.rev_tree.specs.declared.junction.Junction.{Junction}

le_true : (d t : ℕ) → d ≤ t → nat_le d t ≡ true
le_true d t l = grind (arith, nat_tests)

le_false : (d t : ℕ) → t < d → nat_le d t ≡ false
le_false d t l = grind (arith, nat_tests)

pub split_le : (d t : ℕ) → (d ≤ t) ⊎ (t < d)
split_le zero t = inl (omega arith)
split_le (suc d) zero = inr (omega arith)
split_le (suc d) (suc t) = ⊎_elim (λ l. inl (omega (arith, l))) (λ l. inr (omega (arith, l))) (split_le d t)

-- at the first run, or further on
pub cut_near : (p : Junction) (ps : List Junction) (d : ℕ) → d ≤ p.taken → cut (p ∷ ps) d ≡ ([], d)
cut_near p ps d l = ap (λ z. cond z ([], d) (p ∷ (cut ps (d - p.taken)).0, (cut ps (d - p.taken)).1)) (le_true d p.taken l)

pub cut_far : (p : Junction) (ps : List Junction) (d : ℕ) → p.taken < d → cut (p ∷ ps) d ≡ (p ∷ (cut ps (d - p.taken)).0, (cut ps (d - p.taken)).1)
cut_far p ps d l = ap (λ z. cond z ([], d) (p ∷ (cut ps (d - p.taken)).0, (cut ps (d - p.taken)).1)) (le_false d p.taken l)

abbrev pub Position : Type 0
Position = List Junction × ℕ

pub cut_positive : (w : List Junction) (d : ℕ) → 0 < d → 0 < (cut w d).1
cut_positive [] d l = l
cut_positive (p ∷ ps) d l = ⊎_elim
    (λ h. subst (λ (z : Position). 0 < z.1) (sym (cut_near p ps d h)) l)
    (λ h. subst (λ (z : Position). 0 < z.1) (sym (cut_far p ps d h)) (cut_positive ps (d - p.taken) (omega (arith, h))))
    (split_le d p.taken)

pub cut_path : (b : PlainBranch) (w : List Junction) (k d : ℕ) → IsPath b w k → d ≤ depth w k → IsPath b (cut w d).0 (cut w d).1
cut_path b [] k d q l = omega (arith, q, l)
cut_path b (p ∷ ps) k d q l = ⊎_elim
    (λ h. let a = q.0 in subst (λ (z : Position). IsPath b z.0 z.1) (sym (cut_near p ps d h)) (omega (arith, a, h)))
    (λ h. subst (λ (z : Position). IsPath b z.0 z.1) (sym (cut_far p ps d h)) (q.0, q.1, q.2, cut_path (fork_at b.forks p.fork) ps k (d - p.taken) q.3 (omega (arith, l, h))))
    (split_le d p.taken)

cut_inner : (w : List Junction) (k d : ℕ) → Inner w k → 0 < d → Inner (cut w d).0 (cut w d).1
cut_inner [] k d o l = l
cut_inner (p ∷ ps) k d o l = ⊎_elim
    (λ h. subst (λ (z : Position). Inner z.0 z.1) (sym (cut_near p ps d h)) l)
    (λ h. subst (λ (z : Position). Inner z.0 z.1) (sym (cut_far p ps d h)) (o.0, cut_inner ps k (d - p.taken) o.1 (omega (arith, h))))
    (split_le d p.taken)

pub cut_proper : (w : List Junction) (k d : ℕ) → Proper w k → 0 < d → Proper (cut w d).0 (cut w d).1
cut_proper [] k d o l = tt
cut_proper (p ∷ ps) k d o l = ⊎_elim
    (λ h. subst (λ (z : Position). Proper z.0 z.1) (sym (cut_near p ps d h)) tt)
    (λ h. subst (λ (z : Position). Proper z.0 z.1) (sym (cut_far p ps d h)) (cut_inner ps k (d - p.taken) o (omega (arith, h))))
    (split_le d p.taken)

depth_least : (w : List Junction) (k : ℕ) → k ≤ depth w k
depth_least [] k = omega arith
depth_least (p ∷ ps) k = let r = depth_least ps k in omega (arith, r)

-- all the way
cut_whole : (w : List Junction) (k d : ℕ) → 0 < k → d ≡ depth w k → cut w d ≡ (w, k)
cut_whole [] k d l e = ap (λ z. let y : Position = ([], z) in y) e
cut_whole (p ∷ ps) k d l e =
    let m = depth_least ps k in
    cut_far p ps d (omega (arith, l, e, m)) ∙ ap (λ (z : Position). let y : Position = (p ∷ z.0, z.1) in y) (cut_whole ps k (d - p.taken) l (omega (arith, e)))

-- less than all the way
cut_above : (v : List Junction) (p : Junction) (d : ℕ) → d ≤ depth v p.taken → cut (v ++ p ∷ []) d ≡ cut v d
cut_above [] p d l = cut_near p [] d l
cut_above (q ∷ qs) p d l = ⊎_elim
    (λ h. cut_near q (qs ++ p ∷ []) d h ∙ sym (cut_near q qs d h))
    (λ h. cut_far q (qs ++ p ∷ []) d h ∙ ap (λ (z : Position). let y : Position = (q ∷ z.0, z.1) in y) (cut_above qs p (d - q.taken) (omega (arith, l, h))) ∙ sym (cut_far q qs d h))
    (split_le d q.taken)

cut_below : (v w : List Junction) (j k d : ℕ) → Below v j w k → d ≤ depth v j → cut w d ≡ cut v d
cut_below v w j k d (along {w = x} {k = i}) l = refl
cut_below v w j k d (fork_off {w = x} p) l = cut_above x p d l

get_before : (xs : List ℕ) (y i : ℕ) → i < length xs → slice_get (xs ++ y ∷ []) i ≡ slice_get xs i
get_before [] y i l = absurd (omega (arith, l))
get_before (x ∷ xs) y zero l = refl
get_before (x ∷ xs) y (suc i) l = get_before xs y i (omega (arith, l))

get_behind : (xs : List ℕ) (y i : ℕ) → i ≡ length xs → slice_get (xs ++ y ∷ []) i ≡ Some y
get_behind [] y zero e = refl
get_behind [] y (suc i) e = absurd (omega (arith, e))
get_behind (x ∷ xs) y zero e = absurd (omega (arith, e))
get_behind (x ∷ xs) y (suc i) e = get_behind xs y i (omega (arith, e))

-- the nodes of a lineage stand where the way is cut
abbrev IsCut : List (Option Row) → PlainBranch → List Junction → ℕ → Type 0
IsCut rows b w k = (d : ℕ) → 0 < d → d ≤ depth w k → slice_get (lineage rows (number_at b w k)) (d - 1) ≡ Some (number_at b (cut w d).0 (cut w d).1)

abbrev Above : List (Option Row) → PlainBranch → ℕ → Type 0
Above rows b n = (u : List Junction) (i : ℕ) → number_at b u i < n → IsPath b u i → Proper u i → IsCut rows b u i

cut_one : (rows : List (Option Row)) (b : PlainBranch) (n : ℕ) (v w : List Junction) (j k : ℕ) → Tree rows b → Above rows b n → number_at b w k < suc n → 0 < k → Below v j w k → IsPath b w k → Proper v j → IsCut rows b w k
cut_one rows b n v w j k t ih l pos m g o d low high =
    let r = row_below rows b v w j k t m g o in
    let f = t.falls (number_at b w k) r.0 r.1 in
    let e = r.2 in
    let path = path_below b v w j k m g in
    let far = lineage_depth rows b v j t path o in
    let one = depth_below v w j k m in
    ap (λ z. slice_get z (d - 1)) (lineage_below rows b v w j k t m g o) ∙ ⊎_elim
    (λ h. get_before (lineage rows (number_at b v j)) (number_at b w k) (d - 1) (omega (arith, h, far, low))
    ∙ ih v j (omega (arith, f, e, l)) path o d low h
    ∙ ap (λ (z : Position). Some (number_at b z.0 z.1)) (sym (cut_below v w j k d m h)))
    (λ h. get_behind (lineage rows (number_at b v j)) (number_at b w k) (d - 1) (omega (arith, h, far, one, high))
    ∙ ap (λ (z : Position). Some (number_at b z.0 z.1)) (sym (cut_whole w k d pos (omega (arith, h, one, high)))))
    (split_le d (depth v j))

cut_step : (rows : List (Option Row)) (b : PlainBranch) (n : ℕ) (w : List Junction) (k : ℕ) → Tree rows b → Above rows b n → number_at b w k < suc n → 0 < k → IsPath b w k → Along w k ⊎ Off w k → IsCut rows b w k
cut_step rows b n w k t ih l pos g (inl a) = cut_one rows b n w w a.0 k t ih l pos (subst (λ z. Below w a.0 w z) (sym a.1) along) g a.2
cut_step rows b n w k t ih l pos g (inr a) =
    cut_one rows b n a.0 w a.1.taken k t ih l pos (subst (λ z. Below a.0 a.1.taken z k) (sym a.2) (subst (λ z. Below a.0 a.1.taken (a.0 ++ a.1 ∷ []) z) (sym a.3) (fork_off a.1))) g a.4

cut_fuel : (rows : List (Option Row)) (b : PlainBranch) → Tree rows b → (n : ℕ) → Above rows b n
cut_fuel rows b t zero w k l g o = absurd (omega (arith, l))
cut_fuel rows b t (suc n) w zero l g o = λ d low high. let e = ap (λ z. depth z 0) (Proper-zero w o) in absurd (omega (arith, e, low, high))
cut_fuel rows b t (suc n) w (suc k) l g o = cut_step rows b n w (suc k) t (cut_fuel rows b t n) l (omega arith) g (step_of w (suc k) o (omega arith))

pub lineage_cut : (rows : List (Option Row)) (b : PlainBranch) (w : List Junction) (k : ℕ) → Tree rows b → IsPath b w k → Proper w k → IsCut rows b w k
lineage_cut rows b w k t g o = cut_fuel rows b t (suc (number_at b w k)) w k (omega arith) g o

-- the records on the way point back
abbrev step_at : List PlainNode → ℕ → Step
step_at run j = (get_or run j no_node).step

run_undoes : (s : State) (run : List PlainNode) (k j : ℕ) → j < k → j < length run → RunHolds s run k → Undoes (undo_of run j) (after s j run) (step_at run j)
run_undoes s [] k j l m h = absurd (omega (arith, m))
run_undoes s (e ∷ es) zero j l m h = absurd (omega (arith, l))
run_undoes s (e ∷ es) (suc k) zero l m h = h.0
run_undoes s (e ∷ es) (suc k) (suc j) l m h = run_undoes (next s e.step) es k j (omega (arith, l)) (omega (arith, m)) h.2

after_next : (s : State) (run : List PlainNode) (j : ℕ) → j < length run → after s (suc j) run ≡ next (after s j run) (step_at run j)
after_next s [] j l = absurd (omega (arith, l))
after_next s (e ∷ es) zero l = refl
after_next s (e ∷ es) (suc j) l = after_next (next s e.step) es j (omega (arith, l))

abbrev UndoesAt : State → PlainBranch → Position → Type 0
UndoesAt s b z = (j : ℕ) → z.1 ≡ suc j → Undoes (undo_of (reach b z.0).run j) (state_at s b z.0 j) (step_at (reach b z.0).run j)

pub undoes_cut : (s : State) (b : PlainBranch) (w : List Junction) (k d : ℕ) → Context s b w → Ends (base_at s b w) (reach b w) k → d ≤ depth w k → UndoesAt s b (cut w d)
undoes_cut s b [] k d h e l = λ j ej. let n = e.0 in run_undoes s b.run k j (omega (arith, l, ej)) (omega (arith, l, ej, n)) e.1
undoes_cut s b (p ∷ ps) k d h e l = ⊎_elim
    (λ g. subst (λ z. UndoesAt s b z) (sym (cut_near p ps d g)) (λ j ej. let n = h.0 in run_undoes s b.run p.taken j (omega (arith, g, ej)) (omega (arith, g, ej, n)) h.1))
    (λ g. subst (λ z. UndoesAt s b z) (sym (cut_far p ps d g)) (undoes_cut (after s p.taken b.run) (fork_at b.forks p.fork) ps k (d - p.taken) h.5 e (omega (arith, l, g))))
    (split_le d p.taken)

-- what a record that points back shows, from the state s before its step and the state t after it
record Shown (r : PlainRecord) (s t : State) (e : Step) : Type 0 where
  before : Sound s
  sound : Sound t
  stepped : t ≡ (played_step s e).0
  leads : LeadsBack r.moves t s
  told : TellsAll r t (step_removals s e)

shown_next : (r : PlainRecord) (s : State) (e : Step) → Undoes r s e → Shown r s (next s e) e
shown_next r s e h = record {
  before = (leads_sound h.leads).1;
  sound = (leads_sound h.leads).0;
  stepped = next_step s e;
  leads = leads_moves h.leads;
  told = undoes_tells h;
}

shown_from : (r : PlainRecord) (s t u : State) (e : Step) → s ≡ u → t ≡ next u e → Undoes r u e → Shown r s t e
shown_from r s t u e es et h = subst (λ z. Shown r z t e) (sym es) (subst (λ z. Shown r u z e) (sym et) (shown_next r u e h))

-- what trail(d) shows
pub trailed : (root t : State) (b : PlainBranch) (w v x : List Junction) (k d i j issued : ℕ) (e : PlainNode) (c : PlainBranch) → Kept root t b w k issued → 0 < d → d ≤ depth w k → cut w d ≡ (v, i) → i ≡ suc j → x ≡ v → c ≡ with_place 0 (reach b x) → e ≡ get_or c.run j no_node →
    Trailed (record { root = root; rows = rows_of issued b; current = number_at b w k }) d e.number e.step e.outcome e.undo
trailed root t b w v x k d i j issued e c h low high ec ei ex er en =
    let rows = rows_of issued b in
    let tree = kept_tree root t b w k issued h in
    let path = kept_path root t b w k issued h in
    let node : e ≡ get_or (reach b v).run j no_node = en ∙ ap (λ (z : PlainBranch). get_or z.run j no_node) (er ∙ ap (λ z. with_place 0 (reach b z)) ex) in
    let there : IsPath b v (suc j) = subst (λ z. IsPath b v z) ei (subst (λ (z : Position). IsPath b z.0 z.1) ec (cut_path b w k d path high)) in
    let above : IsPath b v j = path_less b v (suc j) j (omega arith) there in
    let number : number_at b v (suc j) ≡ e.number = number_after-get (start_at 0 b v) j (reach b v).run (path_within b v (suc j) there) ∙ sym (ap (λ (z : PlainNode). z.number) node) in
    let here = at_path root root rows h.falls 0 true b v (suc j) there (at-zero root rows) h.known in
    let up = at_path root root rows h.falls 0 true b v j above (at-zero root rows) h.known in
    let run = (reach b v).run in
    let undoes = subst (λ z. UndoesAt root b z) ec (undoes_cut root b w k d h.stands.holds.context h.stands.holds.ends high) j ei in
    let after = after_next (base_at root b v) run j (path_within b v (suc j) there) in
    let shown = shown_from (undo_of run j) (at root rows (number_at b v j)) (at root rows (number_at b v (suc j))) (state_at root b v j) (step_at run j) up (here ∙ after) undoes in
    let outcomes = out_context root b w k h.stands.holds.context h.stands.holds.ends in
    let answer = out_path root b v j outcomes.0 outcomes.1 there ∙ ap (λ z. outcome_of z (step_at run j)) (sym up) in
    let all = subst (λ z. Shown e.undo (at root rows (number_at b v j)) (at root rows z) e.step) number
    (subst (λ (z : PlainNode). Shown z.undo (at root rows (number_at b v j)) (at root rows (number_at b v (suc j))) z.step) (sym node) shown) in
    record {
      row = row (number_at b v j) (get_or (reach b v).run j no_node).step (goes j (first_continues true v));
      numbered = lineage_cut rows b w k tree path h.proper d low high ∙ ap (λ (z : Position). Some (number_at b z.0 z.1)) ec ∙ ap (λ z. Some (number_at b v z)) ei ∙ ap Some number;
      known = subst (λ z. row_of rows z ≡ Some (row (number_at b v j) (get_or (reach b v).run j no_node).step (goes j (first_continues true v)))) number (path_row rows b v j there h.known);
      played = ap (λ (z : PlainNode). z.step) node;
      falls = h.falls;
      answered = subst (λ (z : PlainNode). z.outcome ≡ outcome_of (at root rows (number_at b v j)) z.step) (sym node) answer;
      before = all.before;
      sound = all.sound;
      stepped = all.stepped;
      leads = all.leads;
      told = all.told;
    }

-- the changes in which the moves are kept tell nothing more
trailed_changes : (s : SessionState) (d n : ℕ) (e : Step) (o : Outcome) (r : PlainRecord) → Trailed s d n e o (flat r) → Trailed s d n e o r
trailed_changes s d n e o r h = record {
  row = h.row;
  numbered = h.numbered;
  known = h.known;
  falls = h.falls;
  played = h.played;
  answered = h.answered;
  before = h.before;
  sound = h.sound;
  stepped = h.stepped;
  leads = h.leads;
  told = record { beside = h.told.beside; told = h.told.told };
}

-- the same by the parts of the node, as they are read one by one
pub trailed_parts : (s : SessionState) (d n : ℕ) (e : Step) (o : Outcome) (r : PlainRecord) (x : PlainNode) → n ≡ x.number → e ≡ x.step → o ≡ x.outcome → flat r ≡ x.undo → Trailed s d x.number x.step x.outcome x.undo → Trailed s d n e o r
trailed_parts s d n e o r x en ee eo er h =
    trailed_changes s d n e o r
    (subst (λ z. Trailed s d z e o (flat r)) (sym en)
    (subst (λ z. Trailed s d x.number z o (flat r)) (sym ee)
    (subst (λ z. Trailed s d x.number x.step z (flat r)) (sym eo)
    (subst (λ z. Trailed s d x.number x.step x.outcome z) (sym er) h))))

-- the way cut in a loop
abbrev pub rest_cut : List Junction → ℕ → ℕ → Position
rest_cut x i d = (take i x ++ (cut (drop i x) d).0, (cut (drop i x) d).1)

pub cut_first : (w x : List Junction) (d : ℕ) → x ≡ w → cut w d ≡ rest_cut x 0 d
cut_first w x d e = ap (λ z. cut z d) (sym e)

drop_at : (x : List Junction) (i : ℕ) (q : Junction) → i < length x → drop i x ≡ get_or x i q ∷ drop (suc i) x
drop_at [] i q l = absurd (omega (arith, l))
drop_at (p ∷ ps) zero q l = refl
drop_at (p ∷ ps) (suc i) q l = drop_at ps i q (omega (arith, l))

take_at : (x : List Junction) (i : ℕ) (q : Junction) (ys : List Junction) → i < length x → take i x ++ get_or x i q ∷ ys ≡ take (suc i) x ++ ys
take_at [] i q ys l = absurd (omega (arith, l))
take_at (p ∷ ps) zero q ys l = refl
take_at (p ∷ ps) (suc i) q ys l = ap (λ z. p ∷ z) (take_at ps i q ys (omega (arith, l)))

pub cut_stop : (x : List Junction) (i d t : ℕ) (q : Junction) → i < length x → t ≡ (get_or x i q).taken → d ≤ t → rest_cut x i d ≡ (take i x, d)
cut_stop x i d t q l e h =
    ap (λ z. let y : Position = (take i x ++ (cut z d).0, (cut z d).1) in y) (drop_at x i q l)
    ∙ ap (λ (z : Position). let y : Position = (take i x ++ z.0, z.1) in y) (cut_near (get_or x i q) (drop (suc i) x) d (omega (arith, e, h)))
    ∙ ap (λ z. let y : Position = (z, d) in y) (append-nil (take i x))

pub cut_next : (x : List Junction) (i j d t : ℕ) (q : Junction) → j ≡ suc i → i < length x → t ≡ (get_or x i q).taken → t < d → rest_cut x i d ≡ rest_cut x j (d - t)
cut_next x i j d t q ej l e h =
    ap (λ z. let y : Position = (take i x ++ (cut z d).0, (cut z d).1) in y) (drop_at x i q l)
    ∙ ap (λ (z : Position). let y : Position = (take i x ++ z.0, z.1) in y) (cut_far (get_or x i q) (drop (suc i) x) d (omega (arith, e, h)))
    ∙ ap (λ z. let y : Position = (take i x ++ get_or x i q ∷ (cut (drop (suc i) x) (d - z)).0, (cut (drop (suc i) x) (d - z)).1) in y) (sym e)
    ∙ ap (λ z. let y : Position = (z, (cut (drop (suc i) x) (d - t)).1) in y) (take_at x i q (cut (drop (suc i) x) (d - t)).0 l)
    ∙ ap (λ z. rest_cut x z (d - t)) (sym ej)

drop_over : (x : List Junction) (i : ℕ) → length x ≤ i → drop i x ≡ []
drop_over [] zero l = refl
drop_over [] (suc i) l = refl
drop_over (p ∷ ps) zero l = absurd (omega (arith, l))
drop_over (p ∷ ps) (suc i) l = drop_over ps i (omega (arith, l))

pub cut_end : (x : List Junction) (i d : ℕ) → length x ≤ i → rest_cut x i d ≡ (take i x, d)
cut_end x i d l =
    ap (λ z. let y : Position = (take i x ++ (cut z d).0, (cut z d).1) in y) (drop_over x i l)
    ∙ ap (λ z. let y : Position = (z, d) in y) (append-nil (take i x))

-- where the way is cut stands a node
pub cut_inside : (b : PlainBranch) (w v : List Junction) (k d i : ℕ) → IsPath b w k → 0 < d → d ≤ depth w k → cut w d ≡ (v, i) → (0 < i) × IsPath b v i
cut_inside b w v k d i q low high e =
    (subst (λ (z : Position). 0 < z.1) e (cut_positive w d low), subst (λ (z : Position). IsPath b z.0 z.1) e (cut_path b w k d q high))

pub take_length : (x : List Junction) (i : ℕ) → i ≤ length x → length (take i x) ≡ i
take_length [] zero l = refl
take_length [] (suc i) l = absurd (omega (arith, l))
take_length (p ∷ ps) zero l = refl
take_length (p ∷ ps) (suc i) l = ap suc (take_length ps i (omega (arith, l)))

-- and the node is one of its run
pub cut_place : (b : PlainBranch) (w v x : List Junction) (k d i : ℕ) (c : PlainBranch) → IsPath b w k → 0 < d → d ≤ depth w k → cut w d ≡ (v, i) → x ≡ v → c ≡ with_place 0 (reach b x) → i - 1 < length c.run
cut_place b w v x k d i c q low high e ex ec =
    let n = cut_inside b w v k d i q low high e in
    let l = n.0 in
    let m = path_within b v i n.1 in
    let r : length c.run ≡ length (reach b v).run = ap (λ (z : PlainBranch). length z.run) (ec ∙ ap (λ z. with_place 0 (reach b z)) ex) in
    omega (arith, l, m, r)
