-- What the parts keep stays so when a page is laid or lifted in all three.
use Rattle.std.specs.Prelude.{ℕ, ◌≡◌, ◌+◌, ◌-◌, ◌<◌, ◌≤◌, ◌/◌, false, List, [], ◌∷◌, ◌++◌, length, slice_index, slice_index_or, slice_set, zero, suc, refl}
use Rattle.std.proofs.Common.{sym, ◌∙◌, ap, subst, arith, inl, inr, eqb-true}
use Rattle.std.specs.Prelude.{nat_eq}
use Rattle.std.proofs.lemmas.Bool.{cases_eq, cases_Bool, false≢true}
use Rattle.std.proofs.lemmas.List.{get_or-set_same, get_or-set_other, length-set}
use Rattle.rev_model.specs.Chunk.{same_chunk, same_entry}
use Rattle.rev_model.specs.Lists.{has}
use Rattle.std.specs.Prelude.{is_some, take}
use Rattle.rev_model.specs.State.{State, Fixed, WellFormed, per_page, owner_of, free_of}
use Rattle.rev_model.specs.Move.{Possible, Lays, Lifts, moved, front, falling, HoldsNoItem}
use Rattle.rev_model.specs.Move as model
use Rattle.rev_model.specs.declared.Entry.TheVariants.{Chunk}
use Rattle.rev_model.specs.declared.ChunkRef.{ChunkRef}
use Rattle.rev_model.specs.declared.Form.{Form}
use Rattle.rev_model.specs.declared.Form.TheVariants.{Fresh, Pool, Withdrawn}
use Rattle.rev_pages.specs.State.{PagesState}
use Rattle.rev_pages.specs.Lays.{laid, lifted, CanLay, CanLift}
use Rattle.rev_queues.specs.QueueState.{QueuesState}
use Rattle.rev_index.specs.Index.{PlainIndex}
use Rattle.rev_inverse.specs.Fitted.{Fitted}

past_end : (l : List ℕ) (p : ℕ) → length l ≤ p → slice_index l p ≡ 0
past_end [] p h = refl
past_end (c ∷ cs) zero h = absurd (omega (arith, h))
past_end (c ∷ cs) (suc p) h = past_end cs p (omega (arith, h))

push_at : (l : List ℕ) (c p : ℕ) → p ≡ length l → slice_index (l ++ c ∷ []) p ≡ c
push_at [] c zero e = refl
push_at [] c (suc p) e = absurd (omega (arith, e))
push_at (d ∷ ds) c zero e = absurd (omega (arith, e))
push_at (d ∷ ds) c (suc p) e = push_at ds c p (omega (arith, e))

push_other : (l : List ℕ) (c p : ℕ) → (p ≡ length l → ⊥) → slice_index (l ++ c ∷ []) p ≡ slice_index l p
push_other [] c zero h = absurd (h refl)
push_other [] c (suc p) h = refl
push_other (d ∷ ds) c zero h = refl
push_other (d ∷ ds) c (suc p) h = push_other ds c p (λ e. h (ap suc e))

front_at : (l : List ℕ) (p : ℕ) → p + 1 ≡ length l → slice_index (front l) p ≡ 0
front_at [] p e = refl
front_at (c ∷ []) p e = refl
front_at (c ∷ d ∷ ds) zero e = absurd (omega (arith, e))
front_at (c ∷ d ∷ ds) (suc p) e = front_at (d ∷ ds) p (omega (arith, e))

front_other : (l : List ℕ) (p : ℕ) → (p + 1 ≡ length l → ⊥) → slice_index (front l) p ≡ slice_index l p
front_other [] p h = refl
front_other (c ∷ []) zero h = absurd (h refl)
front_other (c ∷ []) (suc p) h = refl
front_other (c ∷ d ∷ ds) zero h = refl
front_other (c ∷ d ∷ ds) (suc p) h = front_other (d ∷ ds) p (λ e. h (omega (arith, e)))

-- page p has owner c after a change, and no other page's owner changed
record Gets (owner next : List ℕ) (p c : ℕ) : Type 0 where
  owned : slice_index next p ≡ c
  others : (k : ℕ) → (k ≡ p → ⊥) → slice_index next k ≡ slice_index owner k

slots_set : (f : Fixed) (owner next slots : List ℕ) (p c n : ℕ) → Gets owner next p c → p < length slots → n ≡ per_page f c → ((k : ℕ) → slice_index slots k ≡ per_page f (slice_index owner k)) → (k : ℕ) → slice_index (slice_set slots p n) k ≡ per_page f (slice_index next k)
slots_set f owner next slots p c n g lt e kept k = elim (cases_eq k p) [
  | inl same ↦ ap (slice_index (slice_set slots p n)) same ∙ get_or-set_same slots p n 0 lt ∙ e ∙ ap (per_page f) (sym g.owned) ∙ ap (λ j. per_page f (slice_index next j)) (sym same)
  | inr ne ↦ get_or-set_other slots p k n 0 ne ∙ kept k ∙ ap (per_page f) (sym (g.others k ne))
]

-- the page's place in the list of owners
abbrev pub Goes : PagesState → Form → ℕ → Type 0
Goes p Fresh page = page + 1 ≡ length p.owner
Goes p Pool page = page < length p.owner
Goes p Withdrawn page = page < length p.owner

module _ (f : Fixed) (p : PagesState) (q : QueuesState) (x : PlainIndex) (capacity : ℕ) (fitted : Fitted f p q x capacity) where
  -- the same change of the slots in all three parts
  exchanged_page : (p' : PagesState) (page c n : ℕ) → Gets p.owner p'.owner page c → page < length p.slots → n ≡ per_page f c → p'.slots ≡ slice_set p.slots page n → Fitted f p' (record q { slots = slice_set q.slots page n }) (record x { slots = slice_set x.slots page n }) capacity
  exchanged_page p' page c n g lt e is = record {
    table = ap length is ∙ length-set p.slots page n ∙ fitted.table;
    slots = λ k. ap (λ l. slice_index l k) is ∙ slots_set f p.owner p'.owner p.slots page c n g lt e fitted.slots k;
    in_queues = ap (λ l. slice_set l page n) fitted.in_queues ∙ sym is;
    in_index = ap (λ l. slice_set l page n) fitted.in_index ∙ sym is;
    told = fitted.told;
    bump = fitted.bump;
    limit = fitted.limit;
  }

  laid_page : (page c n : ℕ) (form : Form) → CanLay form page p → page < length p.slots → n ≡ per_page f c → Fitted f (laid page c n form p) (record q { slots = slice_set q.slots page n }) (record x { slots = slice_set x.slots page n }) capacity
  laid_page page c n Fresh can lt e = exchanged_page (laid page c n Fresh p) page c n (record { owned = push_at p.owner c page can.0; others = λ k ne. push_other p.owner c k (λ h. ne (h ∙ sym can.0)) }) lt e refl
  laid_page page c n Pool can lt e = exchanged_page (laid page c n Pool p) page c n (record { owned = get_or-set_same p.owner page c 0 can; others = λ k ne. get_or-set_other p.owner page k c 0 ne }) lt e refl
  laid_page page c n Withdrawn can lt e = exchanged_page (laid page c n Withdrawn p) page c n (record { owned = get_or-set_same p.owner page c 0 can; others = λ k ne. get_or-set_other p.owner page k c 0 ne }) lt e refl

  pub fitted_laid : (p' : PagesState) (q' : QueuesState) (x' : PlainIndex) (page c n m k : ℕ) (form : Form) → CanLay form page p → page < length p.slots → n ≡ per_page f c → m ≡ n → k ≡ n → p' ≡ laid page c n form p → q' ≡ record q { slots = slice_set q.slots page m } → x' ≡ record x { slots = slice_set x.slots page k } → Fitted f p' q' x' capacity
  fitted_laid p' q' x' page c n m k form can lt e em ek ep eq ex =
      let h = laid_page page c n form can lt e in
      let eq' : q' ≡ record q { slots = slice_set q.slots page n } = eq ∙ ap (λ j. record q { slots = slice_set q.slots page j }) em in
      let ex' : x' ≡ record x { slots = slice_set x.slots page n } = ex ∙ ap (λ j. record x { slots = slice_set x.slots page j }) ek in
      subst (λ a. Fitted f a q' x' capacity) (sym ep) (subst (λ b. Fitted f (laid page c n form p) b x' capacity) (sym eq') (subst (λ d. Fitted f (laid page c n form p) (record q { slots = slice_set q.slots page n }) d capacity) (sym ex') h))

  lifted_page : (page : ℕ) (form : Form) → Goes p form page → page < length p.slots → Fitted f (lifted page (slice_index p.owner page) (slice_index p.slots page) form p) (record q { slots = slice_set q.slots page 0 }) (record x { slots = slice_set x.slots page 0 }) capacity
  lifted_page page Fresh can lt = exchanged_page (lifted page (slice_index p.owner page) (slice_index p.slots page) Fresh p) page 0 0 (record { owned = front_at p.owner page can; others = λ k ne. front_other p.owner k (λ h. ne (omega (arith, h, can))) }) lt refl refl
  lifted_page page Pool can lt = exchanged_page (lifted page (slice_index p.owner page) (slice_index p.slots page) Pool p) page 0 0 (record { owned = get_or-set_same p.owner page 0 0 can; others = λ k ne. get_or-set_other p.owner page k 0 0 ne }) lt refl refl
  lifted_page page Withdrawn can lt = exchanged_page (lifted page (slice_index p.owner page) (slice_index p.slots page) Withdrawn p) page 0 0 (record { owned = get_or-set_same p.owner page 0 0 can; others = λ k ne. get_or-set_other p.owner page k 0 0 ne }) lt refl refl

  pub fitted_lifted : (p' : PagesState) (q' : QueuesState) (x' : PlainIndex) (page : ℕ) (form : Form) → Goes p form page → page < length p.slots → p' ≡ lifted page (slice_index p.owner page) (slice_index p.slots page) form p → q' ≡ record q { slots = slice_set q.slots page 0 } → x' ≡ record x { slots = slice_set x.slots page 0 } → Fitted f p' q' x' capacity
  fitted_lifted p' q' x' page form can lt ep eq ex =
      let h = lifted_page page form can lt in
      subst (λ a. Fitted f a q' x' capacity) (sym ep) (subst (λ b. Fitted f (lifted page (slice_index p.owner page) (slice_index p.slots page) form p) b x' capacity) (sym eq) (subst (λ d. Fitted f (lifted page (slice_index p.owner page) (slice_index p.slots page) form p) (record q { slots = slice_set q.slots page 0 }) d capacity) (sym ex) h))

-- the pages of a state, with their slots
abbrev pub pages_of : State → List ℕ → PagesState
pages_of s slots = record { owner = s.owner; free = s.free; slots = slots }

-- what the parts ask before a page is laid
pub record LayFits (s : State) (slots : List ℕ) (page c n : ℕ) (form : Form) : Type 0 where
  pub some : 0 < c
  pub class : c < length s.free
  pub empty : slice_index slots page ≡ 0
  pub can : CanLay form page (pages_of s slots)
  pub there : page < length slots
  pub count : n ≡ per_page s.fixed c

module _ (s : State) (slots : List ℕ) (q : QueuesState) (x : PlainIndex) (capacity : ℕ) (fitted : Fitted s.fixed (pages_of s slots) q x capacity) (well : WellFormed s) where
  lay_empty : (page : ℕ) → slice_index s.owner page ≡ 0 → slice_index slots page ≡ 0
  lay_empty page e = fitted.slots page ∙ ap (per_page s.fixed) e

  in_table : (page : ℕ) → page < length s.owner → page < length slots
  in_table page lt = omega (arith, lt, fitted.table, well.owned.pages)

  pub lay_fits : (page c n : ℕ) (form : Form) → Possible (Lays page c n form) s → LayFits s slots page c n form
  lay_fits page c n Fresh p =
      let lt : page < length slots = omega (arith, p.ready.0, fitted.table, length_push s.owner c, p.after.owned.pages) in
      record { some = p.ready.1; class = p.ready.2; empty = lay_empty page (past_end s.owner page (omega (arith, p.ready.0))); can = (p.ready.0, lt); there = lt; count = p.ready.3 }
    where
      length_push : (l : List ℕ) (c : ℕ) → length (l ++ c ∷ []) ≡ length l + 1
      length_push [] c = refl
      length_push (d ∷ ds) c = let more : length (ds ++ c ∷ []) ≡ length ds + 1 = length_push ds c in omega (arith, more)
  lay_fits page c n Pool p = record { some = p.ready.1; class = p.ready.2; empty = lay_empty page p.ready.0.1; can = p.ready.0.0; there = in_table page p.ready.0.0; count = p.ready.3 }
  lay_fits page c n Withdrawn p = record { some = p.ready.1; class = p.ready.2; empty = lay_empty page p.ready.0.1; can = p.ready.0.0; there = in_table page p.ready.0.0; count = p.ready.3 }

-- what they ask before it is lifted
pub record LiftFits (s : State) (slots : List ℕ) (page : ℕ) (form : Form) : Type 0 where
  pub owned : page < length s.owner
  pub there : 0 < slice_index slots page
  pub class : slice_index s.owner page < length s.free
  pub can : CanLift form page (pages_of s slots)
  pub goes : Goes (pages_of s slots) form page
  pub in_slots : page < length slots
  pub count : slice_index slots page ≡ per_page s.fixed (owner_of s page)
  pub empty : HoldsNoItem s page
  pub clear : (y : ChunkRef) → y.page ≡ page → (k : ℕ) → has same_entry (Chunk y) (slice_index_or s.queues k []) ≡ false

per_page_some : (f : Fixed) (c : ℕ) → 0 < c → 1 ≤ f.page_size / slice_index f.sizes (c - 1) → 0 < per_page f c
per_page_some f c h k = elim (cases_Bool (nat_eq c 0)) [
  | inl e ↦ absurd (omega (arith, h, eqb-true c 0 e))
  | inr e ↦ rw e k
]

module _ (s : State) (slots : List ℕ) (q : QueuesState) (x : PlainIndex) (capacity : ℕ) (fitted : Fitted s.fixed (pages_of s slots) q x capacity) (well : WellFormed s) where
  no_entry : (page : ℕ) → HoldsNoItem s page → (y : ChunkRef) → y.page ≡ page → (k : ℕ) → has same_entry (Chunk y) (slice_index_or s.queues k []) ≡ false
  no_entry page none y e k = elim (cases_Bool (has same_entry (Chunk y) (slice_index_or s.queues k []))) [
    | inl h ↦ absurd (false≢true (ap is_some (sym (none y e)) ∙ well.filled.queued_items k y h))
    | inr h ↦ h
  ]

  in_front : (page : ℕ) → take (per_page s.fixed (owner_of s page)) (free_of s (owner_of s page)) ≡ falling page (per_page s.fixed (owner_of s page)) → take (slice_index slots page) (free_of s (owner_of s page)) ≡ falling page (slice_index slots page)
  in_front page h = subst (λ n. take n (free_of s (owner_of s page)) ≡ falling page n) (sym (fitted.slots page)) h

  not_free : (page c n : ℕ) → page < length s.owner → WellFormed (model.lifted page c n Withdrawn s) → (y : ChunkRef) (d : ℕ) → y.page ≡ page → has same_chunk y (slice_index_or s.free d []) ≡ false
  not_free page c n lt after y d e = elim (cases_Bool (has same_chunk y (slice_index_or s.free d []))) [
    | inl h ↦
        let is = after.lists.free_of_class d y h in
        let gone : slice_index (slice_set s.owner page 0) y.page ≡ 0 = ap (slice_index (slice_set s.owner page 0)) e ∙ get_or-set_same s.owner page 0 0 lt in
        absurd (omega (arith, is.class, is.owned, gone))
    | inr h ↦ h
  ]

  pub lift_fits : (page : ℕ) (form : Form) → Possible (Lifts page form) s → 1 ≤ s.fixed.page_size / slice_index s.fixed.sizes (owner_of s page - 1) → LiftFits s slots page form
  lift_fits page Fresh p many =
      let lt : page < length s.owner = omega (arith, p.ready.0.0) in
      record {
        owned = lt;
        there = rw (fitted.slots page) (per_page_some s.fixed (owner_of s page) p.ready.1 many);
        class = p.ready.2;
        can = (p.ready.0.0, in_front page p.ready.0.1);
        goes = p.ready.0.0;
        in_slots = omega (arith, lt, fitted.table, well.owned.pages);
        count = fitted.slots page;
        empty = p.ready.3;
        clear = no_entry page p.ready.3;
      }
  lift_fits page Pool p many = record {
    owned = p.ready.0.0;
    there = rw (fitted.slots page) (per_page_some s.fixed (owner_of s page) p.ready.1 many);
    class = p.ready.2;
    can = (p.ready.0.0, in_front page p.ready.0.1);
    goes = p.ready.0.0;
    in_slots = omega (arith, p.ready.0.0, fitted.table, well.owned.pages);
    count = fitted.slots page;
    empty = p.ready.3;
    clear = no_entry page p.ready.3;
  }
  lift_fits page Withdrawn p many = record {
    owned = p.ready.0;
    there = rw (fitted.slots page) (per_page_some s.fixed (owner_of s page) p.ready.1 many);
    class = p.ready.2;
    can = (p.ready.0, not_free page (owner_of s page) (per_page s.fixed (owner_of s page)) p.ready.0 p.after);
    goes = p.ready.0;
    in_slots = omega (arith, p.ready.0, fitted.table, well.owned.pages);
    count = fitted.slots page;
    empty = p.ready.3;
    clear = no_entry page p.ready.3;
  }

-- a class's page has a chunk, as its number of chunks tells
pub some_chunk : (owner sizes : List ℕ) (size p : ℕ) (class n : ℕ) (at : ℕ) → class ≡ slice_index owner at → at ≡ p → n ≡ size / slice_index sizes (class - 1) → 1 ≤ n → 1 ≤ size / slice_index sizes (slice_index owner p - 1)
some_chunk owner sizes size p class n at is e count some =
    subst (λ k. 1 ≤ size / slice_index sizes (k - 1)) (is ∙ ap (slice_index owner) e) (subst (λ k. 1 ≤ k) count some)

-- what is left is the plain state's
abbrev pub state_of : {s t : State} → s ≡ t → State
state_of {s = s} e = s

pub state_laid : (s : State) (slots : List ℕ) (page c n : ℕ) (form : Form) → record s { owner = (laid page c n form (pages_of s slots)).owner; free = (laid page c n form (pages_of s slots)).free } ≡ model.laid page c n form s
state_laid s slots page c n Fresh = refl
state_laid s slots page c n Pool = refl
state_laid s slots page c n Withdrawn = refl

pub state_lifted : (s : State) (slots : List ℕ) (page c n : ℕ) (form : Form) → record s { owner = (lifted page c n form (pages_of s slots)).owner; free = (lifted page c n form (pages_of s slots)).free } ≡ model.lifted page c n form s
state_lifted s slots page c n Fresh = refl
state_lifted s slots page c n Pool = refl
state_lifted s slots page c n Withdrawn = refl

pub per_page_is : (f : Fixed) (c : ℕ) → 0 < c → f.page_size / slice_index f.sizes (c - 1) ≡ per_page f c
per_page_is f c h = elim (cases_Bool (nat_eq c 0)) [
  | inl e ↦ absurd (omega (arith, h, eqb-true c 0 e))
  | inr e ↦ rw e refl
]
