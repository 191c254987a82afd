-- What stands before an entry of a queue is an entry of the queue.
use Rattle.std.specs.Prelude.{Bool, true, false, List, [], ◌∷◌, Option, None, Some, IfSome, ◌≡◌, refl}
use Rattle.std.proofs.Common.{sym, inl, inr}
use Rattle.std.proofs.lemmas.Bool.{cases_Bool}
use Rattle.rev_model.specs.Chunk.{same_entry}
use Rattle.rev_model.specs.Lists.{has, before_from, before}
use Rattle.rev_model.specs.Words.{tail}
use Rattle.rev_model.specs.declared.ChunkRef.{ChunkRef}
use Rattle.rev_model.specs.declared.Entry.{Entry}
use Rattle.rev_model.specs.declared.Entry.TheVariants.{Chunk}
use Rattle.rev_model.proofs.Places.{tail_there}
use Rattle.rev_model.proofs.Undo.{tells_entry}

some_inj : (x y : Entry) → Some x ≡ Some y → y ≡ x
some_inj x y e = cc

has_first : (x y : Entry) (ys : List Entry) → Some y ≡ Some x → has same_entry x (y ∷ ys) ≡ true
has_first x y ys e = rw (some_inj y x e, tells_entry.self y) refl

has_later : (x y : Entry) (ys : List Entry) → has same_entry x ys ≡ true → has same_entry x (y ∷ ys) ≡ true
has_later x y ys h = elim (cases_Bool (same_entry x y)) [ inl e ↦ rw e refl | inr e ↦ rw e h ]

has_from : (x y : Entry) (ys : List Entry) (z : Entry) → before_from same_entry x (Some y) ys ≡ Some z → has same_entry z (y ∷ ys) ≡ true
has_from x y [] z e = has_first z y [] e
has_from x y (w ∷ ys) z e = elim (cases_Bool (same_entry x w)) [
  | inl f ↦ has_first z y (w ∷ ys) (rw f at e)
  | inr f ↦ has_later z y (w ∷ ys) (has_from x w ys z (rw f at e))
]

pub has_before : (x : Entry) (ys : List Entry) (z : Entry) → before same_entry x ys ≡ Some z → has same_entry z ys ≡ true
has_before x [] z e = absurd (cc)
has_before x (y ∷ ys) z e = elim (cases_Bool (same_entry x y)) [
  | inl f ↦ let g : None ≡ Some z = rw f at e in absurd (cc)
  | inr f ↦ has_from x y ys z (rw f at e)
]

-- what is read of the tail stands in the queue
pub tail_told : (es : List Entry) (r : Option ChunkRef) → r ≡ tail es → IfSome r (λ x. has same_entry (Chunk x) es ≡ true)
tail_told es None e = record {}
tail_told es (Some x) e = tail_there es x (sym e)

-- what is read of the entry before another stands in the queue
pub before_told : (x : Entry) (es : List Entry) (r : Option Entry) → r ≡ before same_entry x es → IfSome r (λ y. has same_entry y es ≡ true)
before_told x es None e = record {}
before_told x es (Some y) e = has_before x es y (sym e)
