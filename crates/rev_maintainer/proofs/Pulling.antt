-- A pull keeps a store sound.
use Rattle.std.specs.Prelude.{ℕ, ◌≡◌, false, ◌||◌, Option, None, Some, refl}
use Rattle.std.proofs.Common.{inl, inr}
use Rattle.std.proofs.lemmas.Bool.{cases_Bool}
use Rattle.rev_items.specs.Plain.{PlainItem}
use Rattle.rev_model.specs.State.{State, queue_of, item_at, IsClass}
use Rattle.rev_model.specs.declared.ChunkRef.{ChunkRef}
use Rattle.rev_model.specs.declared.Queue.{Queue}
use Rattle.rev_model.specs.declared.Queue.TheVariants.{Hot, Warm, Cold, Temp}
use Rattle.rev_model.specs.declared.Counter.{Counter}
use Rattle.rev_model.specs.declared.Counter.TheVariants as counter
use Rattle.rev_model.specs.declared.PullMode.{PullMode}
use Rattle.rev_model.specs.Words.{is_dead, tail, over, idle, dropped, headed, with_item, inactive}
use Rattle.rev_model.specs.Pull.{pull, pull_tail, pull_item, pull_live, warmed, cooled, takes_all, evicts}
use Rattle.rev_model.specs.Sound.{SoundBut, Stands}
use Rattle.rev_model.proofs.Places.{queue_in, tail_stands}
use Rattle.rev_edits.proofs.Rest.{Rest, rest_of, rest-counted, rest-touched, rest-headed, rest-dropped}

module _ (h : Option ChunkRef) (s : State) (sound : SoundBut h s) (c : ℕ) (class : IsClass s.fixed c) where
  rest : Rest h s
  rest = rest_of h s sound

  rest_warmed : (q : Queue) (k : Counter) (x : ChunkRef) (i : PlainItem) → Stands s c q x i → Rest h (warmed c q k x i s)
  rest_warmed q k x i at =
      let t = headed c q Warm x s in
      rest-counted h (with_item x (inactive i) t) c k
      (rest-touched h t x (record { bits = record i.bits { active = false }; time = i.time; moment = i.moment }) i at.item
      (rest-headed s c q Warm x h at.place (queue_in s sound.well c class Warm) at.there rest))

  rest_cooled : (q : Queue) (x : ChunkRef) (i : PlainItem) → Stands s c q x i → Rest h (cooled c q x s)
  rest_cooled q x i at = rest-counted h (headed c q Cold x s) c counter.MovesToCold (rest-headed s c q Cold x h at.place (queue_in s sound.well c class Cold) at.there rest)

  rest_live : (q : Queue) (m : PullMode) (x : ChunkRef) (i : PlainItem) → Stands s c q x i → Rest h (pull_live s c q m x i).0
  rest_live Hot m x i at = elim (cases_Bool i.bits.active) [
    | inl e ↦ rw e (rest_warmed Hot counter.MovesToWarm x i at)
    | inr e ↦ rw e (elim (cases_Bool (takes_all m || (over s c Hot || idle s c Hot i))) [
      | inl f ↦ rw f (rest_cooled Hot x i at)
      | inr f ↦ rw f rest
    ])
  ]
  rest_live Warm m x i at = elim (cases_Bool i.bits.active) [
    | inl e ↦ rw e (rest_warmed Warm counter.MovesWithinLru x i at)
    | inr e ↦ rw e (elim (cases_Bool (over s c Warm || idle s c Warm i)) [
      | inl f ↦ rw f (rest_cooled Warm x i at)
      | inr f ↦ rw f rest
    ])
  ]
  rest_live Cold m x i at = elim (cases_Bool (evicts m)) [
    | inl e ↦ rw e (rest-counted h (dropped c Cold x i s) c counter.Evicted (rest-dropped s c Cold x i h at rest))
    | inr e ↦ rw e (elim (cases_Bool i.bits.active) [
      | inl f ↦ rw f (rest_warmed Cold counter.MovesToWarm x i at)
      | inr f ↦ rw f rest
    ])
  ]
  rest_live Temp m x i at = rest

  pub rest_item : (q : Queue) (m : PullMode) (x : ChunkRef) (i : PlainItem) → Stands s c q x i → Rest h (pull_item s c q m x (item_at s x)).0
  rest_item q m x i at = rw at.item (elim (cases_Bool (is_dead s.globals i)) [
    | inl e ↦ rw e (rest-counted h (dropped c q x i s) c counter.Reclaimed (rest-dropped s c q x i h at rest))
    | inr e ↦ rw e (rest_live q m x i at)
  ])

  pub rest_pull : (q : Queue) (m : PullMode) → Rest h (pull s c q m).0
  rest_pull q m = elim (tail (queue_of s c q)) as (λ t. tail (queue_of s c q) ≡ t → Rest h (pull_tail s c q m t).0) [
    | None ↦ λ p. rest
    | Some x ↦ λ p. let at = tail_stands s h sound c class q x p in rest_item q m x at.0 at.1
  ] refl
