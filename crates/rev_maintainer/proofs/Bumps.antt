-- What a bump finds, and that it keeps a store sound.
use Rattle.std.specs.Prelude.{ℕ, ◌≡◌, ◌≢◌, ◌≤◌, Bool, true, false, not, ◌&&◌, List, [], ◌∷◌, Option, None, Some, drop, nat_eq, refl}
use Rattle.std.specs.List.{slice_get}
use Rattle.std.specs.Option.{option_map}
use Rattle.std.proofs.Common.{sym, ◌∙◌, ap, subst, arith, inl, inr}
use Rattle.std.proofs.lemmas.Bool.{cases_Bool, false≢true, eqb-true, eq-eqb}
use Rattle.std.proofs.lemmas.List.{get_or-set_other}
use Rattle.rev_items.specs.Plain.{PlainItem}
use Rattle.rev_model.specs.Chunk.{same_entry}
use Rattle.rev_model.specs.Lists.{has}
use Rattle.rev_model.specs.State.{State, WellFormed, queue_of, queue_place, owner_of, item_at, IsClass}
use Rattle.rev_model.specs.Actor.{bump, bump_from, bump_item}
use Rattle.rev_model.proofs.Undo.{entered, queue_lacks}
use Rattle.rev_model.specs.Words.{queue_with, headed, left, with_item, header_of}
use Rattle.rev_model.specs.Sound.{Sound, Stands}
use Rattle.rev_model.proofs.Places.{queue_in, glanced}
use Rattle.rev_model.specs.declared.BumpEntry.{BumpEntry}
use Rattle.rev_model.specs.declared.ChunkRef.{ChunkRef}
use Rattle.rev_model.specs.declared.Counter.TheVariants.{MovesToWarm}
use Rattle.rev_model.specs.declared.Entry.TheVariants.{Chunk}
use Rattle.rev_model.specs.declared.ItemHeader.{ItemHeader}
use Rattle.rev_model.specs.declared.Outcome.TheVariants as outcome
use Rattle.rev_model.specs.declared.Queue.{Queue}
use Rattle.rev_model.specs.declared.Queue.TheVariants.{Warm, Cold}
use Rattle.rev_edits.proofs.Rest.{Rest, rest-counted, rest-touched, rest-headed}
use Rattle.rev_edits.proofs.Seats.{item_stands, owner_class}
use Rattle.rev_maintainer.specs.Bumping.{is_asked, asked_item, asked, entry_need, need_from, bump_need, bumped}

some_inj : {X : Type 0} (x y : X) → Some x ≡ Some y → x ≡ y
some_inj x y e = cc

-- ---- what an entry asks for

pub record Asks (s : State) (b : BumpEntry) (g : ItemHeader) : Type 0 where
  pub item : PlainItem
  pub there : item_at s b.chunk ≡ Some item
  pub same : header_of item ≡ g
  pub yes : is_asked s b item ≡ true

pub asks_of : (s : State) (b : BumpEntry) (g : ItemHeader) → asked s b ≡ Some g → Asks s b g
asks_of s b g e = elim (item_at s b.chunk) as (λ o. item_at s b.chunk ≡ o → asked_item s b o ≡ Some g → Asks s b g) [
  | None ↦ λ p h. absurd (cc)
  | Some i ↦ λ p h. elim (cases_Bool (is_asked s b i)) [
    | inl f ↦ let is : Some (header_of i) ≡ Some g = rw f at h in record { item = i; there = p; same = some_inj (header_of i) g is; yes = f }
    | inr f ↦ let none : None ≡ Some g = rw f at h in absurd (cc)
  ]
] refl e

-- an item that stands in another queue does not stand in COLD
lacks_cold : (s : State) → Sound s → (x : ChunkRef) (i : PlainItem) → item_at s x ≡ Some i → (q : Queue) → queue_with s (owner_of s x.page) x ≡ q → queue_place (owner_of s x.page) Cold ≢ queue_place (owner_of s x.page) q → has same_entry (Chunk x) (queue_of s (owner_of s x.page) Cold) ≡ false
lacks_cold s sound x i e q is other =
    let c = owner_of s x.page in
    let at = item_stands None s sound x i e in
    let there : has same_entry (Chunk x) (queue_of s c q) ≡ true = subst (λ p. has same_entry (Chunk x) (queue_of s c p) ≡ true) is at.there in
    let none = entered s sound.well c q (Chunk x) (queue_in s sound.well c (owner_class None s sound x i e) q) there in
    let lacks : has same_entry (Chunk x) (queue_of (left c q x s) c Cold) ≡ false = queue_lacks (left c q x s) c Cold (Chunk x) none in
    ap (has same_entry (Chunk x)) (sym (get_or-set_other s.queues (queue_place c q) (queue_place c Cold) _ [] other)) ∙ lacks

-- what the tests tell
module _ (s : State) (b : BumpEntry) (g : ItemHeader) (h : Some g ≡ option_map header_of (item_at s b.chunk)) where
  found : (i : PlainItem) × (item_at s b.chunk ≡ Some i) × (header_of i ≡ g)
  found = glanced (item_at s b.chunk) g (sym h)

  none_asked : is_asked s b found.0 ≡ false → None ≡ asked s b
  none_asked f = rw (found.1, f) refl

  pub other_cas : g.cas ≢ b.cas → None ≡ asked s b
  other_cas other = none_asked (ap (λ (n : Bool). n && (found.0.bits.active && has same_entry (Chunk b.chunk) (queue_of s (owner_of s b.chunk.page) Cold))) differ)
    where
      differ : nat_eq found.0.cas b.cas ≡ false
      differ = elim (cases_Bool (nat_eq found.0.cas b.cas)) [
        | inl e ↦ absurd (other (sym (ap (λ (z : ItemHeader). z.cas) found.2) ∙ eqb-true found.0.cas b.cas e))
        | inr e ↦ e
      ]

  pub not_active : not g.bits.active ≡ true → None ≡ asked s b
  not_active off = none_asked (last (nat_eq found.0.cas b.cas) found.0.bits.active (ap (λ (z : ItemHeader). z.bits.active) found.2 ∙ turned g.bits.active off))
    where
      turned : (d : Bool) → not d ≡ true → d ≡ false
      turned true e = absurd (false≢true e)
      turned false e = refl

      last : (a d : Bool) → d ≡ false → (a && (d && has same_entry (Chunk b.chunk) (queue_of s (owner_of s b.chunk.page) Cold))) ≡ false
      last a d e = elim (cases_Bool a) [ inl p ↦ rw (p, e) refl | inr p ↦ rw p refl ]

  pub not_cold : Sound s → (q : Queue) → queue_with s (owner_of s b.chunk.page) b.chunk ≡ q → queue_place (owner_of s b.chunk.page) Cold ≢ queue_place (owner_of s b.chunk.page) q → None ≡ asked s b
  not_cold sound q is other = none_asked (last (nat_eq found.0.cas b.cas) found.0.bits.active (lacks_cold s sound b.chunk found.0 found.1 q is other))
    where
      last : (a d : Bool) → has same_entry (Chunk b.chunk) (queue_of s (owner_of s b.chunk.page) Cold) ≡ false → (a && (d && has same_entry (Chunk b.chunk) (queue_of s (owner_of s b.chunk.page) Cold))) ≡ false
      last a d e = elim (cases_Bool a) [ inl p ↦ rw p (elim (cases_Bool d) [ inl q ↦ rw (q, e) refl | inr q ↦ rw q refl ]) | inr p ↦ rw p refl ]

  pub all_three : Sound s → g.cas ≡ b.cas → not g.bits.active ≡ false → queue_with s (owner_of s b.chunk.page) b.chunk ≡ Cold → Some g ≡ asked s b
  all_three sound cas on is =
      let at = item_stands None s sound b.chunk found.0 found.1 in
      let there : has same_entry (Chunk b.chunk) (queue_of s (owner_of s b.chunk.page) Cold) ≡ true = subst (λ q. has same_entry (Chunk b.chunk) (queue_of s (owner_of s b.chunk.page) q) ≡ true) is at.there in
      let same : nat_eq found.0.cas b.cas ≡ true = eq-eqb found.0.cas b.cas (ap (λ (z : ItemHeader). z.cas) found.2 ∙ cas) in
      let active : found.0.bits.active ≡ true = ap (λ (z : ItemHeader). z.bits.active) found.2 ∙ turned g.bits.active on in
      rw (found.1, same, active, there, found.2) refl
    where
      turned : (d : Bool) → not d ≡ false → d ≡ true
      turned true e = refl
      turned false e = sym e

  pub some_stands : Sound s → (q : Queue) × (has same_entry (Chunk b.chunk) (queue_of s (owner_of s b.chunk.page) q) ≡ true)
  some_stands sound = (queue_with s (owner_of s b.chunk.page) b.chunk, (item_stands None s sound b.chunk found.0 found.1).there)

-- ---- what a bump leaves

first_of : (l : List BumpEntry) (b : BumpEntry) → slice_get l 0 ≡ Some b → l ≡ b ∷ drop 1 l
first_of [] b e = absurd (cc)
first_of (a ∷ l) b e = ap (λ d. d ∷ l) (some_inj a b e)

pub entry_taken : (s : State) (b : BumpEntry) → slice_get s.bump 0 ≡ Some b → bump s ≡ bump_item b.chunk b.cas (item_at s b.chunk) (record s { bump = drop 1 s.bump })
entry_taken s b e = ap (bump_from s) (first_of s.bump b e)

pub need_most : (s : State) → bump_need s ≤ 5
need_most s = by_list s.bump
  where
    by_need : (o : Option ItemHeader) → entry_need o ≤ 5
    by_need None = omega arith
    by_need (Some g) = omega arith

    by_list : (l : List BumpEntry) → need_from s l ≤ 5
    by_list [] = omega arith
    by_list (b ∷ l) = by_need (asked s b)

-- the item that is asked for stands in COLD, whatever the bump queue holds
pub asks_stands : (s : State) → Sound s → (b : BumpEntry) (g : ItemHeader) (l : List BumpEntry) → (a : Asks s b g) → Stands (record s { bump = l }) (owner_of s b.chunk.page) Cold b.chunk a.item
asks_stands s sound b g l a =
    let at = item_stands None s sound b.chunk a.item a.there in
    let class = owner_class None s sound b.chunk a.item a.there in
    record {
      place = queue_in s sound.well (owner_of s b.chunk.page) class Cold;
      class = at.class;
      there = both_last (nat_eq a.item.cas b.cas) a.item.bits.active (has same_entry (Chunk b.chunk) (queue_of s (owner_of s b.chunk.page) Cold)) a.yes;
      item = a.there;
      key = at.key;
    }
  where
    both_last : (x y z : Bool) → (x && (y && z)) ≡ true → z ≡ true
    both_last true true z e = e
    both_last true false z e = absurd (false≢true e)
    both_last false y z e = absurd (false≢true e)

pub lifted_is : (s u : State) (b : BumpEntry) (g : ItemHeader) → (a : Asks s b g) → slice_get s.bump 0 ≡ Some b → u ≡ bumped (owner_of s b.chunk.page) b.chunk a.item (record s { bump = drop 1 s.bump }) → (u, outcome.Moved) ≡ bump s
lifted_is s u b g a e h =
    let up : bump_item b.chunk b.cas (item_at s b.chunk) (record s { bump = drop 1 s.bump }) ≡ (bumped (owner_of s b.chunk.page) b.chunk a.item (record s { bump = drop 1 s.bump }), outcome.Moved) = rw (a.there, a.yes) refl in
    ap (λ v. (v, outcome.Moved)) h ∙ sym up ∙ sym (entry_taken s b e)

-- ---- and that it is sound

pub rest-bump : (h : Option ChunkRef) (s : State) (l : List BumpEntry) → Rest h s → Rest h (record s { bump = l })
rest-bump h s l r = record { placed = r.placed; filed = r.filed; kept = r.kept }

pub rest-bumped : (h : Option ChunkRef) (s : State) → WellFormed s → (c : ℕ) → IsClass s.fixed c → (x : ChunkRef) (i : PlainItem) → Stands s c Cold x i → Rest h s → Rest h (bumped c x i s)
rest-bumped h s well c class x i at r =
    let t = headed c Cold Warm x s in
    let j = record i { bits = record i.bits { active = false }; time = s.globals.clock } in
    rest-counted h (with_item x j t) c MovesToWarm
    (rest-touched h t x (record { bits = j.bits; time = j.time; moment = j.moment }) i at.item
    (rest-headed s c Cold Warm x h at.place (queue_in s well c class Warm) at.there r))
