-- A rescue: a free chunk is taken, and the item goes there.
use Rattle.std.specs.Prelude.{ℕ, ◌≡◌, true, None, Some}
use Rattle.std.proofs.Common.{arith}
use Rattle.std.proofs.lemmas.List.{length-set}
use Rattle.rev_items.specs.Plain.{PlainItem}
use Rattle.rev_model.specs.Chunk.{same_chunk}
use Rattle.rev_model.specs.Lists.{has, without}
use Rattle.rev_model.specs.State.{State, IsChunkOf, free_of, item_at, IsClass}
use Rattle.rev_model.specs.Move.{Shifts, Possible, moved, with_free}
use Rattle.rev_model.specs.Words.{queue_with}
use Rattle.rev_model.specs.Actor.{shifted}
use Rattle.rev_model.proofs.Keeps.{keeps-take_free}
use Rattle.rev_model.specs.Sound.{Sound, SoundBut, Stands, Loose}
use Rattle.rev_model.proofs.Places.{free_in}
use Rattle.rev_model.specs.declared.ChunkRef.{ChunkRef}
use Rattle.rev_edits.proofs.Rest.{sound_of, rest_of}
use Rattle.rev_edits.proofs.Linking.{held_loose}
use Rattle.rev_mover.proofs.Slots.{rest-taken, chunk_stands}
use Rattle.rev_mover.proofs.Carrying.{keeps-shift, carried_is, rest-carried}

-- the state with a free chunk held
abbrev pub taken : State → ℕ → ChunkRef → State
taken s c y = with_free s c (without same_chunk y (free_of s c))

module _ (s : State) (sound : Sound s) (c : ℕ) (x y : ChunkRef) (i : PlainItem) (chunk : IsChunkOf s.fixed s.owner c x) (item : item_at s x ≡ Some i) (free : has same_chunk y (free_of s c) ≡ true) where
  class : IsClass s.fixed c
  class = (chunk.class, omega (arith, sound.well.owned.owners x.page, chunk.owned))

  held : SoundBut (Some y) (taken s c y)
  held = sound_of (Some y) (taken s c y)
      (keeps-take_free s sound.well c y (free_in s sound.well c class, free)).after
      (rest-taken s c y (free_in s sound.well c class) free (rest_of None s sound))

  at : Stands (taken s c y) c (queue_with s c x) x i
  at =
      let was = chunk_stands s sound c x i chunk item in
      record { place = was.place; class = rw length-set was.class; there = was.there; item = was.item; key = was.key }

  to : Loose (taken s c y) c y
  to = held_loose (taken s c y) y held c class (sound.well.lists.free_of_class c y free)

  pub rescue_possible : Possible (Shifts x y) (taken s c y)
  rescue_possible = keeps-shift (taken s c y) held.well c (queue_with s c x) x y i at to

  pub rescue_is : moved (Shifts x y) (taken s c y) ≡ shifted c (queue_with s c x) x y i (taken s c y)
  rescue_is = carried_is (taken s c y) held.well c (queue_with s c x) x y i at to

  pub rescue_sound : SoundBut (Some x) (moved (Shifts x y) (taken s c y))
  rescue_sound = sound_of (Some x) (moved (Shifts x y) (taken s c y)) rescue_possible.after
      (rest-carried (taken s c y) held.well c (queue_with s c x) x y i at to (rest_of (Some y) (taken s c y) held))
