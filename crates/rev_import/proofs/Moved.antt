-- Events that wait no longer.
use Rattle.std.proofs.Common.{◌≡◌, ℕ, List, [], ◌∷◌, ◌++◌, append_assoc, append-nil, length, arith, refl, sym, ◌∙◌, ap, subst}
use Rattle.rev_script.specs.Script.{ScriptLine}
use Rattle.rev_watch.specs.declared.event.LogLine.{LogLine}
use Rattle.rev_import.specs.Writing.{Writes}
use Rattle.rev_import.specs.Becoming.{Becomes, Became, Moves, PlainImport}
use Rattle.rev_import.proofs.Written.{more, writes_none}

became_more : {A : Type 0} (es fs : List (LogLine A)) (ls ms : List ScriptLine) → Became es ls → Became fs ms → Became (es ++ fs) (ls ++ ms)
became_more [] fs ls ms e b = subst (λ z. Became fs (z ++ ms)) (sym e) b
became_more (x ∷ es) fs ls ms (first, rest, e, one, others) b =
    (first, rest ++ ms, ap (λ z. z ++ ms) e ∙ append_assoc first rest ms, one, became_more es fs rest ms others b)

-- none of them was written
pub moves_none : {A : Type 0} (waiting same : List (LogLine A)) (out : List ℕ) → waiting ≡ same → Moves waiting same out out
moves_none waiting same out e = record { moved = []; parted = e; clients = []; became = refl; writes = writes_none out }

-- the first one was
pub moves_one : {A : Type 0} (line : LogLine A) (waiting rest : List (LogLine A)) {old new : List ℕ} → waiting ≡ line ∷ rest →
    (clients : List ScriptLine) × Becomes line clients × Writes old new clients → Moves waiting rest old new
moves_one line waiting rest e (clients, becomes, writes) =
    record { moved = line ∷ []; parted = e; clients = clients; became = (clients, [], sym (append-nil clients), becomes, refl); writes = writes }

-- first some, then others
pub moves_more : {A : Type 0} {x y z : List (LogLine A)} {a b c : List ℕ} → Moves x y a b → Moves y z b c → Moves x z a c
moves_more {A} {x} {y} {z} {a} {b} {c} f g = record {
  moved = f.moved ++ g.moved;
  parted = f.parted ∙ ap (λ w. f.moved ++ w) g.parted ∙ sym (append_assoc f.moved g.moved z);
  clients = f.clients ++ g.clients;
  became = became_more f.moved g.moved f.clients g.clients f.became g.became;
  writes = more f.writes g.writes;
}

-- one more event came behind the others
pub moves_behind : {A : Type 0} {x y : List (LogLine A)} {a b : List ℕ} (line : LogLine A) (before left behind : List (LogLine A)) →
    x ≡ before → left ≡ y → behind ≡ left ++ line ∷ [] → Moves x y a b → Moves (before ++ line ∷ []) behind a b
moves_behind {A} {x} {y} {a} {b} line before left behind p q e m = record {
  moved = m.moved;
  parted = ap (λ w. w ++ line ∷ []) (sym p ∙ m.parted) ∙ append_assoc m.moved y (line ∷ []) ∙ ap (λ w. m.moved ++ w) (sym (e ∙ ap (λ w. w ++ line ∷ []) q));
  clients = m.clients;
  became = m.became;
  writes = m.writes;
}

-- of imports that are seen alike the same events wait
pub waiting_of : {A : Type 0} {v w : PlainImport A} → v ≡ w → v.waiting ≡ w.waiting
waiting_of e = ap (λ i. i.waiting) e

-- the same, of events that are told by another name
pub moves_from : {A : Type 0} {x y : List (LogLine A)} {a b : List ℕ} (z : List (LogLine A)) → x ≡ z → Moves x y a b → Moves z y a b
moves_from {A} {x} {y} {a} {b} z e m = subst (λ w. Moves w y a b) e m

pub nothing : {A : Type 0} (xs : List (LogLine A)) → length xs ≡ 0 → xs ≡ []
nothing [] e = refl
nothing (x ∷ xs) e = absurd (omega (arith, e))
