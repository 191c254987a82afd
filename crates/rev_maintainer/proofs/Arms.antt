-- What the arms of a pull make, as the tests tell it.
use Rattle.std.specs.Prelude.{ℕ, ◌≡◌, ◌+◌, ◌*◌, ◌/◌, Bool, true, false, cond, ◌||◌, [], Option, Some, nat_lt}
use Rattle.std.specs.Option.{option_map}
use Rattle.std.proofs.Common.{sym, ◌∙◌, ap}
use Rattle.rev_items.specs.Plain.{PlainItem}
use Rattle.rev_items.specs.Rules.{is_past}
use Rattle.rev_model.specs.State.{State, item_at, free_of}
use Rattle.rev_model.specs.Words.{bytes, share, over, is_dead, header_of, idle, dropped, counted}
use Rattle.rev_model.specs.Pull.{takes_all, warmed, cooled, pull_live, pull_item, fronted, carved, or_carved, given, page_of}
use Rattle.rev_model.specs.Causes.{live_removals, item_removals}
use Rattle.rev_model.specs.Track.{removal}
use Rattle.rev_model.specs.declared.Cause.TheVariants.{ReclaimedByPull}
use Rattle.rev_model.specs.declared.ChunkRef.{ChunkRef}
use Rattle.rev_model.specs.declared.Counter.TheVariants as counter
use Rattle.rev_model.specs.declared.ItemHeader.{ItemHeader}
use Rattle.rev_model.specs.declared.Outcome.{Outcome}
use Rattle.rev_model.specs.declared.Outcome.TheVariants as outcome
use Rattle.rev_model.specs.declared.PullMode.{PullMode}
use Rattle.rev_model.specs.declared.Queue.{Queue}
use Rattle.rev_model.specs.declared.Queue.TheVariants.{Hot, Warm, Cold}
use Rattle.rev_edits.specs.Taking.{paired}

some_inj : {X : Type 0} (x y : X) → Some x ≡ Some y → x ≡ y
some_inj x y e = cc

pub over_is : (s : State) (c : ℕ) (q : Queue) (h w k o p : ℕ) → h ≡ bytes s c Hot → w ≡ bytes s c Warm → k ≡ bytes s c Cold → o ≡ bytes s c q → p ≡ share s.globals.settings q
    → nat_lt (((h + w + k) * p) / 100) o ≡ over s c q
over_is s c q h w k o p a b d e f =
    ap (λ n. nat_lt (((n + w + k) * p) / 100) o) a
    ∙ (ap (λ n. nat_lt (((bytes s c Hot + n + k) * p) / 100) o) b
    ∙ (ap (λ n. nat_lt (((bytes s c Hot + bytes s c Warm + n) * p) / 100) o) d
    ∙ (ap (λ n. nat_lt (((bytes s c Hot + bytes s c Warm + bytes s c Cold) * p) / 100) n) e
    ∙ ap (λ n. nat_lt (((bytes s c Hot + bytes s c Warm + bytes s c Cold) * n) / 100) (bytes s c q)) f)))

-- the item that the header was read of
module _ (s : State) (k : ℕ) (q : Queue) (m : PullMode) (x : ChunkRef) (i : PlainItem) (there : item_at s x ≡ Some i) (g : ItemHeader) (read : option_map header_of (item_at s x) ≡ Some g) where
  header_is : header_of i ≡ g
  header_is = some_inj (header_of i) g (sym (ap (option_map header_of) there) ∙ read)

  pub active_is : i.bits.active ≡ g.bits.active
  active_is = ap (λ (z : ItemHeader). z.bits.active) header_is

  module _ (b dead : Bool) (asked : b ≡ is_past s.globals.clock s.globals.flush_limit g.moment g.cas) (is : b ≡ dead) where
    dead_is : is_dead s.globals i ≡ dead
    dead_is = ap (λ (z : ItemHeader). is_past s.globals.clock s.globals.flush_limit z.moment z.cas) header_is ∙ (sym asked ∙ is)

    pulled : pull_item s k q m x (item_at s x) ≡ cond dead (counted k counter.Reclaimed (dropped k q x i s), outcome.Reclaimed) (pull_live s k q m x i)
    pulled = ap (pull_item s k q m x) there ∙ ap (λ d. cond d (counted k counter.Reclaimed (dropped k q x i s), outcome.Reclaimed) (pull_live s k q m x i)) dead_is

    gone : item_removals s q m (item_at s x) ≡ cond dead (removal (Some i) (Some ReclaimedByPull)) (live_removals q m i)
    gone = ap (item_removals s q m) there ∙ ap (λ d. cond d (removal (Some i) (Some ReclaimedByPull)) (live_removals q m i)) dead_is

  module _ (b : Bool) (asked : b ≡ is_past s.globals.clock s.globals.flush_limit g.moment g.cas) where
    pub live_done : b ≡ false → (r : Queue) → q ≡ r → (p : State × Outcome) → p ≡ pull_live s k r m x i → p ≡ pull_item s k q m x (item_at s x)
    live_done is r e p h = h ∙ (ap (λ z. pull_live s k z m x i) (sym e) ∙ sym (pulled b false asked is))

    pub live_gone : b ≡ false → (r : Queue) → q ≡ r → live_removals r m i ≡ item_removals s q m (item_at s x)
    live_gone is r e = ap (λ z. live_removals z m i) (sym e) ∙ sym (gone b false asked is)

    pub dead_done : b ≡ true → (t : State) → t ≡ counted k counter.Reclaimed (dropped k q x i s) → (t, outcome.Reclaimed) ≡ pull_item s k q m x (item_at s x)
    dead_done is t e = ap (λ z. (z, outcome.Reclaimed)) e ∙ sym (pulled b true asked is)

    pub dead_gone : b ≡ true → removal (item_at s x) (Some ReclaimedByPull) ≡ item_removals s q m (item_at s x)
    dead_gone is = ap (λ o. removal o (Some ReclaimedByPull)) there ∙ sym (gone b true asked is)

-- the arms of an item that is alive
module _ (s : State) (k : ℕ) (m : PullMode) (x : ChunkRef) (i : PlainItem) (t : State) where
  pub hot_active : i.bits.active ≡ true → t ≡ warmed k Hot counter.MovesToWarm x i s → (t, outcome.Moved) ≡ pull_live s k Hot m x i
  hot_active a e =
      ap (λ z. (z, outcome.Moved)) e
      ∙ sym (ap (λ b. cond b (warmed k Hot counter.MovesToWarm x i s, outcome.Moved) (cond (takes_all m || (over s k Hot || idle s k Hot i)) (cooled k Hot x s, outcome.Moved) (s, outcome.Idle))) a)

  pub warm_active : i.bits.active ≡ true → t ≡ warmed k Warm counter.MovesWithinLru x i s → (t, outcome.Moved) ≡ pull_live s k Warm m x i
  warm_active a e =
      ap (λ z. (z, outcome.Moved)) e
      ∙ sym (ap (λ b. cond b (warmed k Warm counter.MovesWithinLru x i s, outcome.Moved) (cond (over s k Warm || idle s k Warm i) (cooled k Warm x s, outcome.Moved) (s, outcome.Idle))) a)

  pub warm_crowded : i.bits.active ≡ false → (over s k Warm || idle s k Warm i) ≡ true → t ≡ cooled k Warm x s → (t, outcome.Moved) ≡ pull_live s k Warm m x i
  warm_crowded a d e =
      ap (λ z. (z, outcome.Moved)) e
      ∙ sym (ap (λ b. cond b (warmed k Warm counter.MovesWithinLru x i s, outcome.Moved) (cond (over s k Warm || idle s k Warm i) (cooled k Warm x s, outcome.Moved) (s, outcome.Idle))) a
      ∙ ap (λ b. cond b (cooled k Warm x s, outcome.Moved) (s, outcome.Idle)) d)

-- ---- a chunk that is given
pub given_front : (s t : State) (c : ℕ) (x : ChunkRef) → Some (t, x) ≡ fronted s c (free_of s c) → Some (t, x) ≡ given s c
given_front s t c x e = ap (or_carved s c) e

pub given_page : (s t u v : State) (c : ℕ) (r : Option ChunkRef) → t ≡ s → free_of s c ≡ [] → u ≡ carved t c (page_of t c) → paired v r ≡ fronted u c (free_of u c) → paired v r ≡ given s c
given_page s t u v c r same none laid e =
    e ∙ (ap (λ w. fronted w c (free_of w c)) (laid ∙ ap (λ w. carved w c (page_of w c)) same)
    ∙ sym (ap (or_carved s c) (ap (fronted s c) none)))
