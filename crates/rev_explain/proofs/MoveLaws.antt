-- The way over a record from its front.
use Rattle.std.specs.Prelude.{ℕ, ◌≡◌, ◌+◌, ◌<◌, ◌≤◌, Bool, true, false, cond, List, [], ◌∷◌, ◌++◌, Option, None, Some, length, drop, slice_index_or, refl}
use Rattle.std.proofs.Common.{sym, ◌∙◌, ap, inl, inr, ControlFlow, Continue, Break}
use Rattle.std.proofs.lemmas.Bool.{cases_Bool, false≢true}
use Rattle.std.proofs.lemmas.List.{drop_all, drop_more}
use Rattle.rev_model.specs.Chunk.{same_chunk}
use Rattle.rev_model.specs.Move.{Move, Takes, Puts, Fills, Touches, Binds, Unbinds, Lays, Lifts, Counts, Sets, BumpsIn, BumpsBack, BumpsOut, BumpsFront, Shifts, MarksIn, MarksOut}
use Rattle.rev_model.proofs.Laws.{same_key-self, same_key-exact}
use Rattle.rev_model.specs.Track.{same_key, has_key, is_chunk, keyed, shift_change, key_change, class_queue_before}
use Rattle.rev_model.specs.declared.ChunkRef.{ChunkRef}
use Rattle.rev_model.specs.declared.Cause.{Cause}
use Rattle.rev_model.specs.declared.ClassQueue.{ClassQueue}
use Rattle.rev_model.specs.declared.Entry.TheVariants.{Chunk, Mark}
use Rattle.rev_model.specs.declared.KeyChange.{KeyChange}
use Rattle.rev_model.specs.declared.Listed.TheVariants.{InFree, InQueue}
use Rattle.rev_model.specs.declared.Placed.TheVariants.{ToFree, ToQueue}
use Rattle.rev_model.proofs.Undo.{same_chunk-self}
use Rattle.rev_inverse.specs.Record.{PlainChange, PlainRecord, IsWhole, plain_change, moves_in, notes_in}
use Rattle.rev_inverse.specs.Seen.{plain_moves, plain_notes}
use Rattle.rev_inverse.specs.declared.changes.Change as kept
use Rattle.rev_inverse.specs.declared.changes.Change.TheVariants as stored
use Rattle.rev_explain.specs.Readings.{keyed_after, queue_after, or_before, keyed_through, queue_through, note_of}

-- ---- a move, and those that are played before it

abbrev pub known_or : {T : Type 0} → ControlFlow T ChunkRef → (ChunkRef → T) → T
known_or (Break t) f = t
known_or (Continue x) f = f x

known_cond : {T : Type 0} → (b : Bool) (p q : ControlFlow T ChunkRef) (f : ChunkRef → T) → cond b (known_or p f) (known_or q f) ≡ known_or (cond b p q) f
known_cond true p q f = refl
known_cond false p q f = refl

-- a chunk that the move puts into another's place, or takes away, or leaves
known_shift : {T : Type 0} → (b c : Bool) (a x : ChunkRef) (t : T) (f : ChunkRef → T) → cond b (f a) (cond c t (f x)) ≡ known_or (cond b (Continue a) (cond c (Break t) (Continue x))) f
known_shift true c a x t f = refl
known_shift false true a x t f = refl
known_shift false false a x t f = refl

keyed-by : (k : List ℕ) (home : Option ChunkRef) (m : Move) (ms : List Move) (x : ChunkRef) → keyed k home (m ∷ ms) x ≡ known_or (keyed_after k m x) (keyed k home ms)
keyed-by k home (Takes l) ms x = refl
keyed-by k home (Puts l) ms x = refl
keyed-by k home (Fills y o) ms x = known_cond (same_chunk x y) (Break (has_key k o)) (Continue x) (keyed k home ms)
keyed-by k home (Touches y v) ms x = refl
keyed-by k home (Binds y) ms x = refl
keyed-by k home (Unbinds y) ms x = refl
keyed-by k home (Lays p c n f) ms x = refl
keyed-by k home (Lifts p f) ms x = refl
keyed-by k home (Counts c j v) ms x = refl
keyed-by k home (Sets g) ms x = refl
keyed-by k home (BumpsIn b) ms x = refl
keyed-by k home BumpsBack ms x = refl
keyed-by k home BumpsOut ms x = refl
keyed-by k home (BumpsFront b) ms x = refl
keyed-by k home (Shifts a b) ms x = known_shift (same_chunk x b) (same_chunk x a) a x false (keyed k home ms)
keyed-by k home (MarksIn set) ms x = refl
keyed-by k home (MarksOut set) ms x = refl

queue-by : (home : Option ChunkRef) (lru : Option ClassQueue) (m : Move) (ms : List Move) (x : ChunkRef) → class_queue_before home lru (m ∷ ms) x ≡ known_or (queue_after m x) (class_queue_before home lru ms)
queue-by home lru (Takes (InFree c y)) ms x = refl
queue-by home lru (Takes (InQueue c q (Chunk y))) ms x = known_cond (same_chunk x y) (Break None) (Continue x) (class_queue_before home lru ms)
queue-by home lru (Takes (InQueue c q Mark)) ms x = refl
queue-by home lru (Puts (ToFree c y a)) ms x = refl
queue-by home lru (Puts (ToQueue c q (Chunk y) a)) ms x = known_cond (same_chunk x y) (Break (Some (record { class = c; queue = q }))) (Continue x) (class_queue_before home lru ms)
queue-by home lru (Puts (ToQueue c q Mark a)) ms x = refl
queue-by home lru (Fills y o) ms x = known_cond (same_chunk x y) (Break None) (Continue x) (class_queue_before home lru ms)
queue-by home lru (Touches y v) ms x = refl
queue-by home lru (Binds y) ms x = refl
queue-by home lru (Unbinds y) ms x = refl
queue-by home lru (Lays p c n f) ms x = refl
queue-by home lru (Lifts p f) ms x = refl
queue-by home lru (Counts c j v) ms x = refl
queue-by home lru (Sets g) ms x = refl
queue-by home lru (BumpsIn b) ms x = refl
queue-by home lru BumpsBack ms x = refl
queue-by home lru BumpsOut ms x = refl
queue-by home lru (BumpsFront b) ms x = refl
queue-by home lru (Shifts a b) ms x = known_shift (same_chunk x b) (same_chunk x a) a x None (class_queue_before home lru ms)
queue-by home lru (MarksIn set) ms x = refl
queue-by home lru (MarksOut set) ms x = refl

-- ---- a few moves that go together, and those that are played before them

known_before : {T : Type 0} → (p : ControlFlow T ChunkRef) (f : ChunkRef → ControlFlow T ChunkRef) (g h : ChunkRef → T) → ((x : ChunkRef) → g x ≡ known_or (f x) h) → known_or p g ≡ known_or (or_before p f) h
known_before (Break t) f g h e = refl
known_before (Continue x) f g h e = e x

keyed-through : (k : List ℕ) (home : Option ChunkRef) (ms rest : List Move) (x : ChunkRef) → keyed k home (ms ++ rest) x ≡ known_or (keyed_through k ms x) (keyed k home rest)
keyed-through k home [] rest x = refl
keyed-through k home (m ∷ ms) rest x =
    keyed-by k home m (ms ++ rest) x
    ∙ known_before (keyed_after k m x) (keyed_through k ms) (keyed k home (ms ++ rest)) (keyed k home rest) (λ y. keyed-through k home ms rest y)

queue-through : (home : Option ChunkRef) (lru : Option ClassQueue) (ms rest : List Move) (x : ChunkRef) → class_queue_before home lru (ms ++ rest) x ≡ known_or (queue_through ms x) (class_queue_before home lru rest)
queue-through home lru [] rest x = refl
queue-through home lru (m ∷ ms) rest x =
    queue-by home lru m (ms ++ rest) x
    ∙ known_before (queue_after m x) (queue_through ms) (class_queue_before home lru (ms ++ rest)) (class_queue_before home lru rest) (λ y. queue-through home lru ms rest y)

-- what a change does to the key where `rest` is played before it, or else what that does
abbrev pub change_or : {A : Type 0} → List ℕ → Option ChunkRef → List Move → kept.Change A → Option KeyChange → Option KeyChange
change_or k home rest (stored.Enter q n x c i a) o = cond (same_key k i.key) (Some (record { leads = Some x; note = n })) o
change_or k home rest (stored.Leave q n x c u) o = cond (keyed k home rest x) (Some (record { leads = None; note = n })) o
change_or k home rest (stored.Link q c x i a n) o = cond (same_key k i.key) (Some (record { leads = Some x; note = None })) o
change_or k home rest (stored.Unlink q c x u n) o = cond (keyed k home rest x) (Some (record { leads = None; note = None })) o
change_or k home rest (stored.Revive q n x c i a) o = cond (same_key k i.key) (Some (record { leads = Some x; note = n })) o
change_or k home rest (stored.Free q n x c b) o = cond (keyed k home rest x) (Some (record { leads = None; note = n })) o
change_or k home rest (stored.Shift a b) o = cond (keyed k home rest a) (Some (record { leads = Some b; note = note_of o })) o
change_or k home rest m o = o

shifted-by : (b : ChunkRef) (o : Option KeyChange) → shift_change b o ≡ record { leads = Some b; note = note_of o }
shifted-by b None = refl
shifted-by b (Some t) = refl

change-through : {A : Type 0} → (k : List ℕ) (home : Option ChunkRef) (m : kept.Change A) (rest : List Move) (more : List (Option Cause)) → key_change k home (plain_moves m ++ rest) (plain_notes m ++ more) ≡ change_or k home rest m (key_change k home rest more)
change-through k home (stored.Enter q n x c i a) rest more =
    ap (λ b. cond (cond b (same_key k i.key) (keyed k home rest x)) (Some (record { leads = Some x; note = n })) (key_change k home rest more)) (same_chunk-self x)
change-through k home (stored.Leave q n x c u) rest more = refl
change-through k home (stored.Link q c x i a n) rest more =
    ap (λ b. cond (cond b (same_key k i.key) (keyed k home rest x)) (Some (record { leads = Some x; note = None })) (key_change k home rest more)) (same_chunk-self x)
change-through k home (stored.Unlink q c x u n) rest more = refl
change-through k home (stored.Revive q n x c i a) rest more =
    ap (λ b. cond (cond b (same_key k i.key) (keyed k home rest x)) (Some (record { leads = Some x; note = n })) (key_change k home rest more)) (same_chunk-self x)
change-through k home (stored.Free q n x c b) rest more = refl
change-through k home (stored.Requeue c a x p q) rest more = refl
change-through k home (stored.Take l) rest more = refl
change-through k home (stored.Put l) rest more = refl
change-through k home (stored.Touch y v) rest more = refl
change-through k home (stored.Shift a b) rest more = ap (λ t. cond (keyed k home rest a) (Some t) (key_change k home rest more)) (shifted-by b (key_change k home rest more))
change-through k home (stored.Lay p c n f) rest more = refl
change-through k home (stored.Lift p f h) rest more = refl
change-through k home (stored.Count c j v) rest more = refl
change-through k home (stored.LastCas n) rest more = refl
change-through k home (stored.Timing t) rest more = refl
change-through k home (stored.Mover m) rest more = refl
change-through k home (stored.Settings w) rest more = refl
change-through k home (stored.BumpIn b) rest more = refl
change-through k home stored.BumpBack rest more = refl
change-through k home stored.BumpOut rest more = refl
change-through k home (stored.BumpFront b) rest more = refl
change-through k home (stored.Marks set) rest more = refl
change-through k home (stored.Unmarks set) rest more = refl

-- ---- before the i-th change

pub drop_at : {X : Type 0} (xs : List X) (i : ℕ) (x : X) → i < length xs → x ≡ slice_index_or xs i x → drop i xs ≡ x ∷ drop (i + 1) xs
drop_at xs i x lt e = drop_more xs i x lt ∙ ap (λ z. z ∷ drop (i + 1) xs) (sym e)

pub keyed_next : (k : List ℕ) (home : Option ChunkRef) (gs : List PlainChange) (i : ℕ) (g : PlainChange) (x : ChunkRef) → i < length gs → g ≡ slice_index_or gs i g → keyed k home (moves_in (drop i gs)) x ≡ known_or (keyed_through k g.moves x) (keyed k home (moves_in (drop (i + 1) gs)))
keyed_next k home gs i g x lt e = ap (λ l. keyed k home (moves_in l) x) (drop_at gs i g lt e) ∙ keyed-through k home g.moves (moves_in (drop (i + 1) gs)) x

pub queue_next : (home : Option ChunkRef) (lru : Option ClassQueue) (gs : List PlainChange) (i : ℕ) (g : PlainChange) (x : ChunkRef) → i < length gs → g ≡ slice_index_or gs i g → class_queue_before home lru (moves_in (drop i gs)) x ≡ known_or (queue_through g.moves x) (class_queue_before home lru (moves_in (drop (i + 1) gs)))
queue_next home lru gs i g x lt e = ap (λ l. class_queue_before home lru (moves_in l) x) (drop_at gs i g lt e) ∙ queue-through home lru g.moves (moves_in (drop (i + 1) gs)) x

-- what the changes from the i-th on do to the key
abbrev pub change_at : List ℕ → Option ChunkRef → List PlainChange → ℕ → Option KeyChange
change_at k home gs i = key_change k home (moves_in (drop i gs)) (notes_in (drop i gs))

pub change_next : {A : Type 0} → (k : List ℕ) (home : Option ChunkRef) (gs : List PlainChange) (i : ℕ) (m : kept.Change A) → i < length gs → plain_change m ≡ slice_index_or gs i (plain_change m)
    → change_at k home gs i ≡ change_or k home (moves_in (drop (i + 1) gs)) m (change_at k home gs (i + 1))
change_next k home gs i m lt e =
    ap (λ l. key_change k home (moves_in l) (notes_in l)) (drop_at gs i (plain_change m) lt e)
    ∙ change-through k home m (moves_in (drop (i + 1) gs)) (notes_in (drop (i + 1) gs))

pub keyed_end : (k : List ℕ) (home : Option ChunkRef) (gs : List PlainChange) (i : ℕ) (x : ChunkRef) → length gs ≤ i → keyed k home (moves_in (drop i gs)) x ≡ is_chunk home x
keyed_end k home gs i x le = ap (λ l. keyed k home (moves_in l) x) (drop_all i gs le)

pub queue_end : (home : Option ChunkRef) (lru : Option ClassQueue) (gs : List PlainChange) (i : ℕ) (x : ChunkRef) → length gs ≤ i → class_queue_before home lru (moves_in (drop i gs)) x ≡ cond (is_chunk home x) lru None
queue_end home lru gs i x le = ap (λ l. class_queue_before home lru (moves_in l) x) (drop_all i gs le)

pub change_end : (k : List ℕ) (home : Option ChunkRef) (gs : List PlainChange) (i : ℕ) → length gs ≤ i → change_at k home gs i ≡ None
change_end k home gs i le = ap (λ l. key_change k home (moves_in l) (notes_in l)) (drop_all i gs le)

-- the whole record
pub queue_whole : (home : Option ChunkRef) (lru : Option ClassQueue) (r : PlainRecord) (x : ChunkRef) → IsWhole r → class_queue_before home lru r.moves x ≡ class_queue_before home lru (moves_in r.changes) x
queue_whole home lru r x whole = ap (λ l. class_queue_before home lru l x) whole.moves

pub change_whole : (k : List ℕ) (home : Option ChunkRef) (r : PlainRecord) → IsWhole r → key_change k home r.moves r.notes ≡ change_at k home r.changes 0
change_whole k home r whole = ap (λ l. key_change k home l r.notes) whole.moves ∙ ap (key_change k home (moves_in r.changes)) whole.notes

-- a test of two keys
pub same_named : (r : Bool) (k l : List ℕ) → (r ≡ true → k ≡ l) → (k ≡ l → r ≡ true) → r ≡ same_key k l
same_named true k l a b = sym (ap (same_key k) (sym (a refl)) ∙ same_key-self k)
same_named false k l a b = elim (cases_Bool (same_key k l)) [
  | inl t ↦ absurd (false≢true (b (same_key-exact k l t)))
  | inr t ↦ sym t
]
