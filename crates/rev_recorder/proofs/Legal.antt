-- How a legal log grows.
use Rattle.std.proofs.Common.{◌≡◌, Bool, true, false, ℕ, zero, suc, ◌+◌, ◌≤◌, List, [], ◌∷◌, ◌++◌, length, Option, Some, refl, sym, ap, ◌∙◌, subst, arith, add-one, length-append}
use Rattle.std.proofs.lemmas.List.{take-append-le}
use Rattle.rev_undotree.specs.declared.session.NodeId.{NodeId}
use Rattle.rev_tree.specs.Rows.{Row, parent_of}
use Rattle.rev_tree.specs.Positions.{SessionState}
use Rattle.rev_recorder.specs.declared.hand.Call.{Call}
use Rattle.rev_recorder.specs.declared.hand.Call.TheVariants.{Play, Go, Many, Deep, Lost}
use Rattle.rev_recorder.specs.declared.hand.LogRow.{LogRow}
use Rattle.rev_recorder.specs.Log.{Opening, MayStand, NodesLeadTo, IsLegal, count_after, node_after}

-- a test that is not true is false
pub refuted : (b : Bool) → (b ≡ true → ⊥) → b ≡ false
refuted true h = absurd (h refl)
refuted false h = refl

-- a log that leads to all rows began with no more of them
leads-bound : (rows : List (Option Row)) (count node : ℕ) (log : List LogRow) (last : ℕ) → NodesLeadTo rows count node log last → count ≤ length rows
leads-bound rows count node [] last h = omega (arith, h.0)
leads-bound rows count node (entry ∷ log) last h =
    let rest = leads-bound rows (count_after count entry.call) (node_after node entry.call) log last h.1 in
    let P : Call → Type 0 = λ c. count_after count c ≤ length rows → count ≤ length rows in
    let grows : (c : Call) → P c = elim [ Play n ↦ λ k. omega arith | Go n ↦ λ k. k | Many ↦ λ k. k | Deep ↦ λ k. k | Lost n ↦ λ k. k ] in
    grows entry.call rest

-- a call that leaves the rows as they are
leads-snoc : (rows : List (Option Row)) (count node : ℕ) (log : List LogRow) (last : ℕ) (entry : LogRow)
    → NodesLeadTo rows count node log last → MayStand rows (length rows) last entry.call → count_after (length rows) entry.call ≡ length rows
    → NodesLeadTo rows count node (log ++ entry ∷ []) (node_after last entry.call)
leads-snoc rows count node [] last entry h may same =
    let P : ℕ → ℕ → Type 0 = λ c n. MayStand rows c n entry.call × ((count_after c entry.call ≡ length rows) × (node_after n entry.call ≡ node_after last entry.call)) in
    subst (λ c. P c node) (sym h.0) (subst (λ n. P (length rows) n) (sym h.1) (may, (same, refl)))
leads-snoc rows count node (e ∷ log) last entry h may same =
    (h.0, leads-snoc rows (count_after count e.call) (node_after node e.call) log last entry h.1 may same)

-- a row more leaves the parents that are there
parent_of-more : (rows : List (Option Row)) (o : Option Row) (n parent : ℕ) → parent_of rows n ≡ Some parent → parent_of (rows ++ o ∷ []) n ≡ Some parent
parent_of-more rows o zero parent h = cc
parent_of-more [] o (suc n) parent h = cc
parent_of-more (q ∷ qs) o (suc zero) parent h = h
parent_of-more (q ∷ qs) o (suc (suc n)) parent h = parent_of-more qs o (suc n) parent h

-- the row added is the last node's
parent_of-last : (rows : List (Option Row)) (row : Row) → parent_of (rows ++ Some row ∷ []) (suc (length rows)) ≡ Some row.parent
parent_of-last [] row = refl
parent_of-last (q ∷ qs) row = parent_of-last qs row

-- the call may stand in the longer list too
stands-more : (rows : List (Option Row)) (o : Option Row) (count node : ℕ) (call : Call) → count ≤ length rows → MayStand rows count node call → MayStand (rows ++ o ∷ []) count node call
stands-more rows o count node (Play n) le h = (h.0, parent_of-more rows o n.0 node h.1)
stands-more rows o count node (Go n) le h = rw (take-append-le count rows (o ∷ []) le) h
stands-more rows o count node Many le h = h
stands-more rows o count node Deep le h = rw (take-append-le count rows (o ∷ []) le) h
stands-more rows o count node (Lost n) le h = rw (take-append-le count rows (o ∷ []) le) h

-- a play adds a row
leads-play : (rows : List (Option Row)) (row : Row) (count node : ℕ) (log : List LogRow) (last player : ℕ) (n : NodeId)
    → NodesLeadTo rows count node log last → n.0 ≡ length rows + 1 → row.parent ≡ last
    → NodesLeadTo (rows ++ Some row ∷ []) count node (log ++ record { player = player; call = Play n } ∷ []) n.0
leads-play rows row count node [] last player n h is parent =
    let number : n.0 ≡ suc (length rows) = is ∙ add-one (length rows) in
    let found : parent_of (rows ++ Some row ∷ []) n.0 ≡ Some row.parent = rw number (parent_of-last rows row) in
    let from : Some row.parent ≡ Some node = ap (λ (k : ℕ). Some k) (parent ∙ sym h.1) in
    ((is ∙ ap (λ k. k + 1) (sym h.0), found ∙ from), (omega (arith, h.0, length-append rows (Some row ∷ [])), refl))
leads-play rows row count node (e ∷ log) last player n h is parent =
    let bound = leads-bound rows count node (e ∷ log) last h in (
      stands-more rows (Some row) count node e.call bound h.0,
      leads-play rows row (count_after count e.call) (node_after node e.call) log last player n h.1 is parent,
    )

-- the log after a play
pub legal-play : (opening : Opening) (log log' : List LogRow) (session session' : SessionState) (player : ℕ) (row : Row) (n : NodeId)
    → IsLegal opening log session → session'.rows ≡ session.rows ++ Some row ∷ [] → session'.current ≡ n.0 → n.0 ≡ length session.rows + 1 → row.parent ≡ session.current
    → log' ≡ log ++ record { player = player; call = Play n } ∷ []
    → IsLegal opening log' session'
legal-play opening log log' session session' player row n h rows current number parent more =
    rw (rows, current, more) (leads-play session.rows row opening.count opening.node log session.current player n h number parent)

-- the log after a call that leaves the rows as they are
pub legal-call : (opening : Opening) (log log' : List LogRow) (session session' : SessionState) (player : ℕ) (call : Call)
    → IsLegal opening log session → session'.rows ≡ session.rows → session'.current ≡ node_after session.current call
    → MayStand session.rows (length session.rows) session.current call
    → count_after (length session.rows) call ≡ length session.rows → log' ≡ log ++ record { player = player; call = call } ∷ []
    → IsLegal opening log' session'
legal-call opening log log' session session' player call h rows current may same more =
    rw (rows, current, more) (leads-snoc session.rows opening.count opening.node log session.current (record { player = player; call = call }) h may same)
