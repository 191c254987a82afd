-- An item leaves, and its chunk goes to the free list.
use Rattle.std.specs.Prelude.{ℕ, ◌∷◌, [], None}
use Rattle.std.proofs.Common.{sym, subst}
use Rattle.rev_items.specs.Plain.{PlainItem}
use Rattle.rev_model.specs.State.{State, WellFormed}
use Rattle.rev_model.specs.Move.{Takes, Puts, Fills, Unbinds, moved, Possible, Fits}
use Rattle.rev_model.proofs.Drops.{drop_take, drop_unbind, drop_fill, unlinked_is, loose, free_put}
use Rattle.rev_model.specs.Words.{unlinked}
use Rattle.rev_model.specs.Sound.{Stands}
use Rattle.rev_model.specs.declared.ChunkRef.{ChunkRef}
use Rattle.rev_model.specs.declared.Entry.TheVariants.{Chunk}
use Rattle.rev_model.specs.declared.Queue.{Queue}
use Rattle.rev_model.specs.declared.Listed.TheVariants.{InQueue}
use Rattle.rev_model.specs.declared.Placed.TheVariants.{ToFree}

module _ (s : State) (well : WellFormed s) (c : ℕ) (q : Queue) (x : ChunkRef) (i : PlainItem) (h : Stands s c q x i) where
  pub drop_put : Possible (Puts (ToFree c x None)) (moved (Fills x None) (moved (Unbinds x) (moved (Takes (InQueue c q (Chunk x))) s)))
  drop_put =
      let is = unlinked_is s c q x i h in
      let after : WellFormed (unlinked c q x i s) = subst WellFormed is (drop_fill s well c q x i h).after in
      subst (Possible (Puts (ToFree c x None))) (sym is) (free_put (unlinked c q x i s) after c x (loose s well c q x i h))

  -- the four are possible in their turn
  pub drop_fits : Fits (Puts (ToFree c x None) ∷ Fills x None ∷ Unbinds x ∷ Takes (InQueue c q (Chunk x)) ∷ []) s
  drop_fits = ((((tt, drop_take s well c q x i h), drop_unbind s well c q x i h), drop_fill s well c q x i h), drop_put)
