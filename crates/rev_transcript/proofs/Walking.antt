-- The steps that are read on the way down to a node.
use Rattle.std.proofs.Common.{◌≡◌, ℕ, ◌+◌, ◌<◌, ◌≤◌, Bool, true, false, ◌&&◌, List, [], ◌∷◌, ◌++◌, Option, None, Some, zero, suc, ◌-◌, length, take, get_or, subst, append_assoc, append-nil, refl, sym, ◌∙◌, ap, arith}
use Rattle.std.specs.List.{list_all}
use Rattle.std.specs.Prelude.{slice_get}
use Rattle.std.proofs.lemmas.List.{take_more, take_all}
use Rattle.rev_model.specs.Actor.{Step}
use Rattle.rev_model.specs.declared.Outcome.{Outcome}
use Rattle.rev_inverse.specs.Record.{PlainRecord}
use Rattle.rev_tree.specs.Rows.{Row, row_of}
use Rattle.rev_tree.specs.Machine.{lineage}
use Rattle.rev_tree.specs.Positions.{SessionState}
use Rattle.rev_tree.specs.Trails.{Trailed}
use Rattle.rev_script.specs.declared.dialect.Dialect.TheVariants.{CrLf}
use Rattle.rev_script.specs.Script.{cuts}
use Rattle.rev_lines.specs.Lines.{has_line, written, script_of, Asks, Put}
use Rattle.rev_lines.proofs.Reading.{asks_none, asks_more}
use Rattle.rev_transcript.specs.Path.{row_steps, steps_along, path_steps, PutAll}

-- ---- steps and their script, one more

along_more : (rows : List (Option Row)) (ns ms : List ℕ) → steps_along rows (ns ++ ms) ≡ steps_along rows ns ++ steps_along rows ms
along_more rows [] ms = refl
along_more rows (n ∷ ns) ms = ap (λ l. row_steps (row_of rows n) ++ l) (along_more rows ns ms) ∙ sym (append_assoc (row_steps (row_of rows n)) (steps_along rows ns) (steps_along rows ms))

script_more : (es fs : List Step) → script_of (es ++ fs) ≡ script_of es ++ script_of fs
script_more [] fs = refl
script_more (e ∷ es) fs = ap (λ t. written e ++ t) (script_more es fs) ∙ sym (append_assoc (written e) (script_of es) (script_of fs))

end_true : (b : Bool) → b && true ≡ b
end_true true = refl
end_true false = refl

and_assoc : (a b c : Bool) → (a && b) && c ≡ a && (b && c)
and_assoc true b c = refl
and_assoc false b c = refl

all_more : (es : List Step) (e : Step) → list_all has_line (es ++ e ∷ []) ≡ list_all has_line es && has_line e
all_more [] e = end_true (has_line e)
all_more (x ∷ es) e = ap (λ b. has_line x && b) (all_more es e) ∙ sym (and_assoc (has_line x) (list_all has_line es) (has_line e))

first_true : (a b : Bool) → a && b ≡ true → (a ≡ true) × (b ≡ true)
first_true true b h = (refl, h)
first_true false b h = absurd (cc)

one_number : (m n : ℕ) → Some m ≡ Some n → m ≡ n
one_number m n e = cc

-- nothing was written of no steps
pub put_none : (old : List ℕ) → PutAll old old true []
put_none old = record { tells = refl; behind = sym (append-nil old); reads = λ t. asks_none }

-- the line of one step more
pub put_more : (old mid new : List ℕ) (told more : Bool) (es : List Step) (e : Step) → PutAll old mid told es → Put mid new more e → PutAll old new (told && more) (es ++ e ∷ [])
put_more old mid new told more es e a b = record {
  tells = ap (λ x. x && more) a.tells ∙ ap (λ x. list_all has_line es && x) b.tells ∙ sym (all_more es e);
  behind = b.behind ∙ ap (λ t. t ++ written e) a.behind ∙ append_assoc old (script_of es) (written e)
      ∙ ap (λ t. old ++ (script_of es ++ t)) (sym (append-nil (written e))) ∙ ap (λ t. old ++ t) (sym (script_more es (e ∷ [])));
  reads = λ t.
      let k = first_true told more t in
      let both = asks_more (script_of es) (written e) es (e ∷ []) (a.reads k.0) (b.reads k.1) in
      record { lines = both.lines; are = record { cut = λ m. ap (λ x. cuts CrLf (x ++ m)) (script_more es (e ∷ []) ∙ ap (λ x. script_of es ++ x) (append-nil (written e))) ∙ both.are.cut m }; make = both.make };
}

-- ---- the way

-- the steps down to depth d were written
pub record Walked (v : SessionState) (d : ℕ) (old new : List ℕ) (told : Bool) : Type 0 where
  pub few : d ≤ length (lineage v.rows v.current)
  pub put : PutAll old new told (steps_along v.rows (take d (lineage v.rows v.current)))

pub walk_starts : (v : SessionState) (old : List ℕ) → Walked v 0 old old true
walk_starts v old = record { few = omega arith; put = put_none old }

at_place : (xs : List ℕ) (i n : ℕ) → slice_get xs i ≡ Some n → (i < length xs) × (get_or xs i 0 ≡ n)
at_place [] i n h = absurd (cc)
at_place (x ∷ xs) zero n h = (omega arith, one_number x n h)
at_place (x ∷ xs) (suc i) n h = let k = at_place xs i n h in (omega (arith, k.0), k.1)

-- the steps down to the next node
along_next : (v : SessionState) (d n : ℕ) (e : Step) (o : Outcome) (r : PlainRecord) → Trailed v (d + 1) n e o r →
    (d < length (lineage v.rows v.current)) × (steps_along v.rows (take (d + 1) (lineage v.rows v.current)) ≡ steps_along v.rows (take d (lineage v.rows v.current)) ++ e ∷ [])
along_next v d n e o r h =
    let ns = lineage v.rows v.current in
    let same : (d + 1) - 1 ≡ d = omega arith in
    let here = at_place ns d n (ap (slice_get ns) (sym same) ∙ h.numbered) in (
      here.0,
      ap (steps_along v.rows) (take_more ns d 0 here.0 ∙ ap (λ m. take d ns ++ m ∷ []) here.1)
          ∙ along_more v.rows (take d ns) (n ∷ [])
          ∙ ap (λ q. steps_along v.rows (take d ns) ++ (row_steps q ++ [])) h.known
          ∙ ap (λ x. steps_along v.rows (take d ns) ++ x ∷ []) (sym h.played),
    )

-- one node further down
pub walk_more : (v : SessionState) (d n : ℕ) (e : Step) (o : Outcome) (r : PlainRecord) (old mid new : List ℕ) (told more : Bool) →
    Walked v d old mid told → Trailed v (d + 1) n e o r → Put mid new more e → Walked v (d + 1) old new (told && more)
walk_more v d n e o r old mid new told more w h p =
    let next = along_next v d n e o r h in
    record {
      few = omega (arith, next.0);
      put = subst (λ es. PutAll old new (told && more) es) (sym next.1) (put_more old mid new told more (steps_along v.rows (take d (lineage v.rows v.current))) e w.put p);
    }

-- at the current node
pub walk_ends : (v : SessionState) (d : ℕ) (old new : List ℕ) (told : Bool) → Walked v d old new told → length (lineage v.rows v.current) ≤ d → PutAll old new told (path_steps v.rows v.current)
walk_ends v d old new told w h =
    let all : take d (lineage v.rows v.current) ≡ lineage v.rows v.current = take_all d (lineage v.rows v.current) (omega (arith, w.few, h)) in
    subst (λ ns. PutAll old new told (steps_along v.rows ns)) all w.put
