-- The steps that are read on the way up from a node.
use Rattle.std.proofs.Common.{◌≡◌, ℕ, ◌-◌, ◌<◌, ◌⊎◌, List, [], ◌∷◌, ◌++◌, length, reverse, refl, sym, ◌∙◌, ap, arith}
use Rattle.std.proofs.lemmas.List.{reverse-append, reverse-reverse}
use Rattle.rev_model.specs.Actor.{Step}
use Rattle.rev_model.specs.declared.Outcome.{Outcome}
use Rattle.rev_inverse.specs.Record.{PlainRecord}
use Rattle.rev_tree.specs.Machine.{lineage}
use Rattle.rev_tree.specs.Positions.{SessionState}
use Rattle.rev_tree.specs.Trails.{Trailed}
use Rattle.rev_explain.proofs.Climbs.{Climbs, climb_starts, climbs, row_is, at_end}
use Rattle.rev_whatif.specs.Trials.{row_steps, steps_along, path_steps}

-- at depth d of the way up, the steps below were read, the last one first
pub record Reading (v : SessionState) (d : ℕ) (read : List Step) : Type 0 where
  pub climb : Climbs v d
  pub told : read ≡ reverse (steps_along v.rows climb.below)

pub read_starts : (v : SessionState) (read : List Step) → read ≡ [] → Reading v (length (lineage v.rows v.current)) read
read_starts v read e = record { climb = climb_starts v; told = e }

-- one step more
pub read_more : (v : SessionState) (d n : ℕ) (e : Step) (o : Outcome) (r : PlainRecord) (read more : List Step) → Reading v d read → 0 < d → Trailed v d n e o r → more ≡ read ++ e ∷ [] → Reading v (d - 1) more
read_more v d n e o r read more w pos h me =
    let below = steps_along v.rows w.climb.below in
    record {
      climb = climbs v d n e o r w.climb pos h;
      told = me
          ∙ ap (λ l. l ++ e ∷ []) w.told
          ∙ sym (reverse-append (e ∷ []) below)
          ∙ ap (λ x. reverse (x ∷ steps_along v.rows w.climb.below)) h.played
          ∙ ap (λ q. reverse (row_steps q ++ steps_along v.rows w.climb.below)) (sym (row_is v d n e o r w.climb pos h));
    }

no_nodes : (l : List ℕ) → length l ≡ 0 → l ≡ []
no_nodes [] e = refl
no_nodes (x ∷ xs) e = absurd (omega (arith, e))

-- at the root
pub read_ends : (v : SessionState) (d : ℕ) (read all : List Step) → Reading v d read → ((d ≡ 0) ⊎ (length (lineage v.rows v.current) < d)) → all ≡ reverse read → all ≡ path_steps v.rows v.current
read_ends v d read all w o ae =
    ae ∙ ap reverse w.told ∙ reverse-reverse (steps_along v.rows w.climb.below)
    ∙ ap (steps_along v.rows) (sym (w.climb.splits ∙ ap (λ l. l ++ w.climb.below) (no_nodes (lineage v.rows w.climb.node) (w.climb.deep ∙ at_end v d w.climb o))))
