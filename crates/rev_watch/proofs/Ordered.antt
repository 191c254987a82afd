-- What is given out through a window rises strictly, and no line is lost or made: those that came are those that are
-- given out or dropped.
use Rattle.std.proofs.Common.{◌≡◌, ℕ, suc, ◌+◌, Bool, true, false, cond, nat_le, inl, inr, ◌⊎◌, Option, None, Some, List, [], ◌∷◌, ◌++◌, length, refl, sym, ap, arith}
use Rattle.std.proofs.lemmas.Bool.Decides.{eqb_tells, leb_tells}
use Rattle.std.specs.BTreeMap.{insert_entry}
use Rattle.std.specs.Ordering.{nat_cmp}
use Rattle.rev_watch.specs.Window.{PlainWindow, put_of, is_late, is_held, full_of, empty_window}
use Rattle.rev_watch.proofs.Order.{given_line, given, replaced, dropped_line, dropped, IsAfter, Ascends, count}
use Rattle.rev_watch.specs.declared.window.Put.{Put}

-- a fact of a choice, from the fact of each side
chosen : {X : Type 0} (P : X → Type 0) (b : Bool) (x y : X) → (b ≡ true → P x) → (b ≡ false → P y) → P (cond b x y)
chosen P true x y f g = f refl
chosen P false x y f g = g refl

after-early : (gid : ℕ) (last : Option ℕ) → is_late gid last ≡ false → IsAfter last gid
after-early gid None e = tt
after-early gid (Some last) e = elim (leb_tells gid last) [
  | inl p ↦ absurd (let q = rw p.0 at e in cc)
  | inr p ↦ p.1
]

-- a line goes to its place
insert-ascends : {T : Type 0} (last : Option ℕ) (held : List (ℕ × T)) (gid : ℕ) (line : T) → IsAfter last gid → Ascends last held → Ascends last (insert_entry nat_cmp held gid line)
insert-ascends last [] gid line a h = (a, tt)
insert-ascends last (e ∷ es) gid line a h = elim (leb_tells (suc gid) e.0) [
  | inl p ↦ rw p.0 (a, (p.1, h.1))
  | inr p ↦ elim (eqb_tells gid e.0) [
    | inl q ↦ rw (p.0, q.0) (h.0, h.1)
    | inr q ↦ rw (p.0, q.0) (h.0, insert-ascends (Some e.0) es gid line (omega (arith, p.1, q.1)) h.1)
  ]
]

-- what a step of a window keeps
record IsSoundPut {T : Type 0} (last : Option ℕ) (p : PlainWindow T × Put T) : Type 0 where
  pub held : Ascends p.0.last p.0.held
  pub goes : (rest : List (ℕ × T)) → Ascends p.0.last rest → Ascends last (given_line p.1 ++ rest)

full-sound : {T : Type 0} (last : Option ℕ) (held : List (ℕ × T)) → Ascends last held → IsSoundPut last (full_of held last)
full-sound last [] h = record { held = tt; goes = λ rest a. a }
full-sound last (line ∷ rest) h = record { held = h.1; goes = λ more a. (h.0, a) }

put-sound : {T : Type 0} (w : PlainWindow T) (gid : ℕ) (line : T) → Ascends w.last w.held → IsSoundPut w.last (put_of w gid line)
unfolding put_of
put-sound {T} w gid line h =
    let held = insert_entry nat_cmp w.held gid line in
    chosen (IsSoundPut w.last) (is_late gid w.last) _ _
    (λ e. record { held = h; goes = λ rest a. a })
    (λ e.
    let ordered = insert-ascends w.last w.held gid line (after-early gid w.last e) h in
    chosen (IsSoundPut w.last) (is_held gid w.held) _ _
    (λ f. record { held = ordered; goes = λ rest a. a })
    (λ f. chosen (IsSoundPut w.last) (nat_le (length held) 65536) _ _ (λ g. record { held = ordered; goes = λ rest a. a }) (λ g. full-sound w.last held ordered)))

-- the numbers of what is given out rise strictly
pub given-ascends : {T : Type 0} (w : PlainWindow T) (lines : List (ℕ × T)) → Ascends w.last w.held → Ascends w.last (given w lines)
given-ascends w [] h = h
given-ascends w (line ∷ rest) h =
    let s = put-sound w line.0 line.1 h in
    s.goes (given (put_of w line.0 line.1).0 rest) (given-ascends (put_of w line.0 line.1).0 rest s.held)

-- ---- no line is lost or made

count-append : {T : Type 0} (p : ℕ × T → Bool) (xs ys : List (ℕ × T)) → count p (xs ++ ys) ≡ count p xs + count p ys
count-append p [] ys = omega arith
count-append p (x ∷ xs) ys = omega (arith, count-append p xs ys)

abbrev weight : Bool → ℕ
weight b = cond b 1 0

insert-count : {T : Type 0} (p : ℕ × T → Bool) (held : List (ℕ × T)) (gid : ℕ) (line : T) →
    count p (insert_entry nat_cmp held gid line) + count p (replaced gid held) ≡ count p held + count p ((gid, line) ∷ [])
insert-count p [] gid line = omega arith
insert-count p (e ∷ es) gid line = elim (leb_tells (suc gid) e.0) [
  | inl t ↦ rw t.0 (omega arith)
  | inr t ↦ elim (eqb_tells gid e.0) [
    | inl q ↦ rw (t.0, q.0) (let same : weight (p (gid, line)) ≡ weight (p (e.0, line)) = ap (λ (k : ℕ). weight (p (k, line))) q.1 in omega (arith, same))
    | inr q ↦ rw (t.0, q.0) (omega (arith, insert-count p es gid line))
  ]
]

-- what a step of a window does to the lines that pass a test: n held, of which some are dropped, and a line that comes
record IsCounted {T : Type 0} (p : ℕ × T → Bool) (came gone : ℕ) (r : PlainWindow T × Put T) : Type 0 where
  pub same : came ≡ count p r.0.held + count p (given_line r.1) + gone

full-counted : {T : Type 0} (p : ℕ × T → Bool) (last : Option ℕ) (held : List (ℕ × T)) (came gone : ℕ) → came ≡ count p held + gone → IsCounted p came gone (full_of held last)
full-counted p last [] came gone e = record { same = omega (arith, e) }
full-counted p last (line ∷ rest) came gone e = record { same = omega (arith, e) }

put-counted : {T : Type 0} (p : ℕ × T → Bool) (w : PlainWindow T) (gid : ℕ) (line : T) →
    IsCounted p (count p w.held + count p ((gid, line) ∷ [])) (count p (dropped_line w (gid, line))) (put_of w gid line)
unfolding put_of
put-counted {T} p w gid line =
    let held = insert_entry nat_cmp w.held gid line in
    let came = count p w.held + count p ((gid, line) ∷ []) in
    elim (cases (is_late gid w.last)) [
      | inl e ↦ rw e (record { same = omega arith })
      | inr e ↦
          let i = insert-count p w.held gid line in
          rw e (chosen (IsCounted p came (count p (replaced gid w.held))) (is_held gid w.held) _ _
          (λ f. record { same = omega (arith, i) })
          (λ f. chosen (IsCounted p came (count p (replaced gid w.held))) (nat_le (length held) 65536) _ _
          (λ g. record { same = omega (arith, i) })
          (λ g. full-counted p w.last held came (count p (replaced gid w.held)) (sym i))))
    ]
  where
    cases : (b : Bool) → (b ≡ true) ⊎ (b ≡ false)
    cases true = inl refl
    cases false = inr refl

-- of each kind as many come, or are held before, as are given out and dropped
pub given-counts : {T : Type 0} (p : ℕ × T → Bool) (w : PlainWindow T) (lines : List (ℕ × T)) →
    count p w.held + count p lines ≡ count p (given w lines) + count p (dropped w lines)
given-counts p w [] = omega arith
given-counts p w (line ∷ rest) =
    let next = put_of w line.0 line.1 in
    let one = (put-counted p w line.0 line.1).same in
    let more = given-counts p next.0 rest in
    let out = count-append p (given_line next.1) (given next.0 rest) in
    let gone = count-append p (dropped_line w line) (dropped next.0 rest) in
    omega (arith, one, more, out, gone)

-- from nothing on
pub all-ascend : {T : Type 0} (lines : List (ℕ × T)) → Ascends None (given empty_window lines)
all-ascend lines = given-ascends empty_window lines tt

pub all-counted : {T : Type 0} (p : ℕ × T → Bool) (lines : List (ℕ × T)) → count p lines ≡ count p (given empty_window lines) + count p (dropped empty_window lines)
all-counted p lines = omega (arith, given-counts p empty_window lines)
