-- The lines of a script, one more at a time, and the steps of lines.
use Rattle.std.proofs.Common.{◌≡◌, ℕ, ◌<◌, ◌⊎◌, inl, inr, Bool, List, [], ◌∷◌, ◌++◌, length, map, Option, None, Some, refl, sym, ◌∙◌, ap, arith, append_assoc, append-nil}
use Rattle.rev_model.specs.Actor.{Step}
use Rattle.rev_script.specs.Script.{ScriptLine, cuts, lines, onwards, IsWhole, IsLast}
use Rattle.rev_script.specs.Lines.{PlainLines, IsFirst}
use Rattle.rev_script.specs.Steps.{steps_of, joined, all_steps}
use Rattle.rev_script.specs.declared.dialect.Dialect.{Dialect}
use Rattle.rev_script.proofs.Cuts.{cuts-nil, onwards-nil}

pub lines-nil : (d : Dialect) → lines d [] ≡ []
unfolding lines
lines-nil d = ap (λ t. map (λ c. c.line) t) (cuts-nil d)

pub lines-last : (d : Dialect) (before : Bool) (taken : List ℕ) (line : ScriptLine) → IsLast d before taken line → lines d (onwards before taken) ≡ line ∷ []
unfolding lines
lines-last d before taken line l = ap (λ t. map (λ c. c.line) t) l.cut

pub lines-whole : (d : Dialect) (before after : Bool) (taken more : List ℕ) (line : ScriptLine) → IsWhole d before after taken line →
    lines d (onwards before (taken ++ more)) ≡ line ∷ lines d (onwards after more)
unfolding lines
lines-whole d before after taken more line w = ap (λ t. map (λ c. c.line) t) (w.cut more)

-- a line takes a byte
pub takes_byte : (d : Dialect) (before after : Bool) (taken : List ℕ) (line : ScriptLine) (End : Type 0) → IsWhole d before after taken line ⊎ (IsLast d before taken line × End) → 0 < length taken
takes_byte d before after [] line End (inl w) = absurd (let e = sym (cuts-nil d) ∙ sym (ap (cuts d) (onwards-nil before)) ∙ w.cut [] in cc)
takes_byte d before after [] line End (inr l) = absurd (let e = sym (cuts-nil d) ∙ sym (ap (cuts d) (onwards-nil before)) ∙ l.0.cut in cc)
takes_byte d before after (b ∷ bs) line End h = omega arith

-- ---- a reader at its first line

pub first-unused : (l : PlainLines) → IsFirst l → l.input.bytes.unused ≡ []
first-unused l first = ap (λ t. t.input.bytes.unused) first

pub first-given : (l : PlainLines) → IsFirst l → l.input.bytes.given ≡ 0
first-given l first = ap (λ t. t.input.bytes.given) first

-- ---- steps

pub some_inj : {X : Type 0} (x y : X) → Some x ≡ Some y → x ≡ y
some_inj x y e = cc

-- both parts of steps that were joined are there
pub parts_of : (p q : Option (List Step)) (all : List Step) → joined p q ≡ Some all → (own : List Step) × (more : List Step) × (p ≡ Some own) × (q ≡ Some more) × (own ++ more ≡ all)
parts_of None q all e = absurd (cc)
parts_of (Some own) None all e = absurd (cc)
parts_of (Some own) (Some more) all e = (own, more, refl, refl, some_inj (own ++ more) all e)

-- the steps of one line more
pub all_steps-more : (ls : List ScriptLine) (l : ScriptLine) (steps own : List Step) → all_steps ls ≡ Some steps → steps_of l ≡ Some own → all_steps (ls ++ l ∷ []) ≡ Some (steps ++ own)
all_steps-more [] l steps own e o =
    ap (λ p. joined p (Some [])) o ∙ ap (λ t. Some t) (append-nil own) ∙ ap (λ t. Some (t ++ own)) (some_inj [] steps e)
all_steps-more (x ∷ xs) l steps own e o =
    let p = parts_of (steps_of x) (all_steps xs) steps e in
    ap (λ t. joined t (all_steps (xs ++ l ∷ []))) p.2
    ∙ ap (λ t. joined (Some p.0) t) (all_steps-more xs l p.1 own p.3 o)
    ∙ ap (λ t. Some t) (sym (append_assoc p.0 p.1 own) ∙ ap (λ t. t ++ own) p.4)
