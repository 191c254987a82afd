-- What a hit leaves alone, and the moves of a command that hits.
use Rattle.std.specs.Prelude.{ℕ, ◌≡◌, ◌≤◌, ◌<◌, ◌+◌, List, [], ◌∷◌, ◌++◌, Option, None, Some, length, refl}
use Rattle.std.proofs.Common.{sym, ◌∙◌, ap, inl, inr, arith}
use Rattle.std.proofs.lemmas.Bool.{cases_Bool}
use Rattle.rev_items.specs.Plain.{PlainItem}
use Rattle.rev_items.specs.declared.Bits.{Bits}
use Rattle.rev_model.specs.State.{State, WellFormed, item_at, find}
use Rattle.rev_model.specs.Move.{Possible, BumpsIn}
use Rattle.rev_model.specs.Words.{is_dead, header_of}
use Rattle.rev_model.specs.Client.{lookup}
use Rattle.std.specs.Option.{option_map}
use Rattle.rev_model.specs.declared.ItemHeader.{ItemHeader}
use Rattle.rev_edits.proofs.Rest.{Rest}
use Rattle.rev_model.specs.declared.ChunkRef.{ChunkRef}
use Rattle.rev_model.specs.declared.BumpEntry.{BumpEntry}
use Rattle.rev_commands.proofs.Looking.{Live, found_is}
use Rattle.rev_commands.specs.Looking.{look_need, looked_need, dead_need}
use Rattle.rev_commands.specs.Hitting.{hit_need, read_need, led_need, access_need}

pub access_live : (more : ℕ) (s : State) (k : List ℕ) (x : ChunkRef) → (l : Live s k x) → access_need more s k ≡ hit_need l.item.bits + more
access_live more s k x l = rw (l.leads, l.there, l.alive) refl

hit_most : (b : Bits) → hit_need b ≤ 2
hit_most b = elim (cases_Bool b.active) [
  | inl f ↦ rw f (omega arith)
  | inr f ↦ rw f (elim (cases_Bool b.fetched) [ inl h ↦ rw h (omega arith) | inr h ↦ rw h (omega arith) ])
]

read_most : (more : ℕ) (s : State) (o : Option PlainItem) → read_need more s o ≤ 4 + more
read_most more s None = omega arith
read_most more s (Some i) = elim (cases_Bool (is_dead s.globals i)) [
  | inl e ↦ rw e (omega arith)
  | inr e ↦ rw e (omega (arith, hit_most i.bits))
]

led_most : (more : ℕ) (s : State) (o : Option ChunkRef) → led_need more s o ≤ 4 + more
led_most more s None = omega arith
led_most more s (Some x) = read_most more s (item_at s x)

pub access_most : (more : ℕ) (s : State) (k : List ℕ) → access_need more s k ≤ 4 + more
access_most more s k = led_most more s (find s k)

dead_read : (more : ℕ) (s : State) (o : Option PlainItem) → dead_need s.globals o ≤ read_need more s o
dead_read more s None = omega arith
dead_read more s (Some i) = elim (cases_Bool (is_dead s.globals i)) [ inl e ↦ rw e (omega arith) | inr e ↦ rw e (omega arith) ]

look_led : (more : ℕ) (s : State) (o : Option ChunkRef) → looked_need s o ≤ led_need more s o
look_led more s None = omega arith
look_led more s (Some x) = dead_read more s (item_at s x)

pub look_access : (more : ℕ) (s : State) (k : List ℕ) → look_need s k ≤ access_need more s k
look_access more s k = look_led more s (find s k)

-- the bump queue may get an entry while it has room
length_more : (l : List BumpEntry) (b : BumpEntry) → length (l ++ b ∷ []) ≡ length l + 1
length_more [] b = refl
length_more (x ∷ l) b = let more : length (l ++ b ∷ []) ≡ length l + 1 = length_more l b in omega (arith, more)

pub keeps-bump_in : (s : State) → WellFormed s → (b : BumpEntry) → length s.bump < s.fixed.bump_room → Possible (BumpsIn b) s
keeps-bump_in s well b lt = record {
  ready = tt;
  after = record { lists = well.lists; filled = well.filled; index = well.index; owned = well.owned; bump = omega (arith, lt, length_more s.bump b); counters = well.counters };
}

-- the bump queue is no part of what a sound store owes beside being well formed
pub rest-bumped : (h : Option ChunkRef) (s : State) (l : List BumpEntry) → Rest h s → Rest h (record s { bump = l })
rest-bumped h s l r = record { placed = r.placed; filed = r.filed; kept = r.kept }

some_inj : {X : Type 0} (x y : X) → Some x ≡ Some y → x ≡ y
some_inj x y e = cc

-- the bits that a header tells are the item's
pub access_room : (more : ℕ) (s t : State) (k : List ℕ) (x : ChunkRef) (g : ItemHeader) → Live s k x → t ≡ (lookup s k).0 → option_map header_of (item_at t x) ≡ Some g → access_need more s k ≡ hit_need g.bits + more
access_room more s t k x g l e h =
    let same : t ≡ s = e ∙ ap (λ (r : State × Option (ChunkRef × PlainItem)). r.0) (found_is s k x l) in
    let is : header_of l.item ≡ g = some_inj (header_of l.item) g (sym (ap (option_map header_of) (ap (λ v. item_at v x) same ∙ l.there)) ∙ h) in
    access_live more s k x l ∙ ap (λ (d : ItemHeader). hit_need d.bits + more) is
