-- The chunk that a step holds, and the old item that makes way.
use Rattle.std.specs.Prelude.{ℕ, ◌≡◌, List, [], ◌∷◌, Option, None, Some, refl}
use Rattle.std.proofs.Common.{sym, ◌∙◌, ap, subst, arith}
use Rattle.std.proofs.lemmas.List.Sums.{sum_by-set}
use Rattle.std.specs.FinMap as map
use Rattle.std.specs.Cmp.Lexicographic.{nat_list_cmp_total}
use Rattle.rev_items.specs.Plain.{PlainItem}
use Rattle.rev_model.specs.Chunk.{same_chunk}
use Rattle.rev_model.specs.Lists.{count}
use Rattle.rev_model.specs.State.{State, WellFormed, IsChunkOf, free_of, find, IsClass}
use Rattle.rev_model.proofs.Undo.{get-put_at_same}
use Rattle.rev_model.specs.Words.{freed}
use Rattle.rev_model.specs.Client.{removed}
use Rattle.rev_model.specs.Sound.{SoundBut, Loose}
use Rattle.rev_model.specs.declared.ChunkRef.{ChunkRef}
use Rattle.rev_edits.proofs.Rest.{Rest}
use Rattle.rev_edits.specs.Linking.{Fresh}
use Rattle.rev_edits.proofs.Linking.{held_loose}
use Rattle.rev_commands.specs.Finding.{held, held_item}

-- the item that a chunk holds was removed: then its key leads nowhere
removed_key : (s : State) (x : ChunkRef) (i : PlainItem) (k : List ℕ) → i.key ≡ k → find (removed (held_item x (Some i)) s) k ≡ None
removed_key s x i k e = ap (map.get (map.remove s.index i.key)) (sym e) ∙ get-put_at_same nat_list_cmp_total (map.slice_cmp-IsAntisymmetric map.nat_cmp-IsAntisymmetric) s.index i.key None

pub no_key : (s : State) → WellFormed s → (k : List ℕ) (o : Option ChunkRef) → find s k ≡ o → find (removed (held s o) s) k ≡ None
no_key s well k None e = e
no_key s well k (Some x) e =
    let w = well.index.indexed k x e in
    subst (λ o. find (removed (held_item x o) s) k ≡ None) (sym w.1) (removed_key s x w.0 k w.2)

-- and the configuration and the pages are as they were
same_fixed : (s : State) (o : Option (ChunkRef × PlainItem)) → (removed o s).fixed ≡ s.fixed
same_fixed s None = refl
same_fixed s (Some (x, i)) = refl

same_owner : (s : State) (o : Option (ChunkRef × PlainItem)) → (removed o s).owner ≡ s.owner
same_owner s None = refl
same_owner s (Some (x, i)) = refl

-- so the new item may enter
pub fresh_after : (s t : State) → WellFormed s → (c : ℕ) → IsClass s.fixed c → (x : ChunkRef) → IsChunkOf s.fixed s.owner c x → (i : PlainItem) (o : Option ChunkRef) → find s i.key ≡ o → t ≡ removed (held s o) s → SoundBut (Some x) t → Fresh t c x i
fresh_after s t well c class x chunk i o leads is sound =
    let fixed : t.fixed ≡ s.fixed = ap (λ (v : State). v.fixed) is ∙ same_fixed s (held s o) in
    let owner : t.owner ≡ s.owner = ap (λ (v : State). v.owner) is ∙ same_owner s (held s o) in
    let own : IsClass t.fixed c = subst (λ f. IsClass f c) (sym fixed) class in
    let there : IsChunkOf t.fixed t.owner c x = subst (λ f. IsChunkOf f t.owner c x) (sym fixed) (subst (λ p. IsChunkOf s.fixed p c x) (sym owner) chunk) in
    record { loose = held_loose t x sound c own there; class = own; key = ap (λ v. find v i.key) is ∙ no_key s well i.key o leads }

-- ---- a chunk that goes back

pub rest-freed : (s : State) (c : ℕ) (x : ChunkRef) → Loose s c x → SoundBut (Some x) s → Rest None (freed c x s)
rest-freed s c x loose sound = record {
  placed = record { once = λ y k. omega (arith, sound.placed.once y k, sum_by-set (count same_chunk y) s.free c (x ∷ free_of s c) [] loose.class) };
  filed = sound.filed;
  kept = sound.kept;
}
