-- What a call under the lock answers and leaves.
use Rattle.std.proofs.Common.{◌≡◌, ℕ, ◌+◌, List, [], ◌∷◌, ◌++◌, length, not, Some, ap, ◌∙◌, sym, subst}
use Rattle.rev_model.specs.Actor.{Step}
use Rattle.rev_model.specs.declared.Outcome.{Outcome}
use Rattle.rev_undotree.specs.declared.session.NodeId.{NodeId}
use Rattle.rev_tree.specs.Steps.{outcome_of}
use Rattle.rev_tree.specs.Rows.{row, at}
use Rattle.rev_tree.specs.Machine.{is_continued}
use Rattle.rev_tree.specs.Positions.{SessionState}
use Rattle.rev_recorder.specs.declared.hand.Call.{Call}
use Rattle.rev_recorder.specs.declared.hand.Call.TheVariants.{Play}
use Rattle.rev_recorder.specs.declared.hand.LogRow.{LogRow}
use Rattle.rev_recorder.specs.Hands.{PlainHand, Settles}
use Rattle.rev_recorder.specs.Log.{PlainRecording, Opening, IsLegal}
use Rattle.rev_recorder.specs.Answers.{node, played, logged, receipt_at, okay_at}

-- what lies under the lock, with this session and this log
abbrev pub with_parts : PlainRecording → SessionState → List LogRow → PlainRecording
with_parts old session log = record { session = session; log = log; opening = old.opening }

-- a play that was not refused
pub played_is : (old : PlainRecording) (step : Step) (new : SessionState) (log : List LogRow) (player place : ℕ) (n : NodeId) (outcome : Outcome)
    → new ≡ record { root = old.session.root; rows = old.session.rows ++ Some (row old.session.current step (not (is_continued old.session.rows old.session.current))) ∷ []; current = n.0 }
    → n.0 ≡ length old.session.rows + 1 → outcome ≡ outcome_of (at old.session.root old.session.rows old.session.current) step → place ≡ length old.log
    → log ≡ old.log ++ record { player = player; call = Play n } ∷ []
    → (receipt_at place (Play n) outcome ≡ receipt_at (length old.log) (Play (node (length old.session.rows + 1))) (outcome_of (at old.session.root old.session.rows old.session.current) step))
    × (with_parts old new log ≡ logged old (played old.session step) player (Play (node (length old.session.rows + 1))))
played_is old step new log player place n outcome is number gives at_end more =
    let same : n ≡ node (length old.session.rows + 1) = ap (λ k. node k) number in
    let there : ℕ → SessionState = λ k. record { root = old.session.root; rows = old.session.rows ++ Some (row old.session.current step (not (is_continued old.session.rows old.session.current))) ∷ []; current = k } in (
      ap (λ p. receipt_at p (Play n) outcome) at_end ∙ (ap (λ m. receipt_at (length old.log) (Play m) outcome) same ∙ ap (λ o. receipt_at (length old.log) (Play (node (length old.session.rows + 1))) o) gives),
      ap (λ s. with_parts old s log) is ∙ (ap (λ k. with_parts old (there k) log) number
          ∙ ap (λ l. with_parts old (there (length old.session.rows + 1)) l) (more ∙ ap (λ m. old.log ++ record { player = player; call = Play m } ∷ []) same)),
    )

-- a call that was logged, and left the session as it was
pub refused_is : (old : PlainRecording) (new : SessionState) (log : List LogRow) (player place : ℕ) (call : Call)
    → new ≡ old.session → place ≡ length old.log → log ≡ old.log ++ record { player = player; call = call } ∷ []
    → (Some (okay_at place call) ≡ Some (okay_at (length old.log) call)) × (with_parts old new log ≡ logged old old.session player call)
refused_is old new log player place call is at_end more = (
  ap (λ p. Some (okay_at p call)) at_end,
  ap (λ s. with_parts old s log) is ∙ ap (λ l. with_parts old old.session l) more,
)

-- a call that left all as it was
pub kept_is : (old : PlainRecording) (new : SessionState) (log : List LogRow) → new ≡ old.session → log ≡ old.log → with_parts old new log ≡ old
kept_is old new log is same = ap (λ s. with_parts old s log) is ∙ ap (λ l. with_parts old old.session l) same

-- the log of it is legal as before
pub legal_kept : (opening : Opening) (log log' : List LogRow) (session session' : SessionState) → IsLegal opening log session → session' ≡ session → log' ≡ log → IsLegal opening log' session'
legal_kept opening log log' session session' legal is same =
    subst (λ s. IsLegal opening log' s) (sym is) (subst (λ l. IsLegal opening l session) (sym same) legal)

-- whether they settle is asked of the same hands and the same log
pub settles_still : (h h' : List PlainHand) (l l' : List LogRow) (s : SessionState) → h ≡ h' → l ≡ l' → Settles h l s → Settles h' l' s
settles_still h h' l l' s hands rows is = subst (λ r. Settles h' r s) rows (subst (λ k. Settles k l s) hands is)

pub differs_still : (h h' : List PlainHand) (l l' : List LogRow) (s : SessionState) → h ≡ h' → l ≡ l' → (Settles h l s → ⊥) → Settles h' l' s → ⊥
differs_still h h' l l' s hands rows never is = never (settles_still h' h l' l s (sym hands) (sym rows) is)
