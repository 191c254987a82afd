-- Bookmarks as the map has them.
use Rattle.std.proofs.Common.{◌≡◌, ℕ, Bool, true, false, cond, List, [], ◌∷◌, Some, refl, ap}
use Rattle.std.specs.Map.{lookup}
use Rattle.std.specs.Option.{option_map}
use Rattle.std.specs.Str.{bytes_eq}
use Rattle.std.specs.declared.vec.Vec.{Vec}
use Rattle.indexmap.specs.IndexMap.{insert_entry}
use Rattle.rev_undotree.specs.declared.session.NodeId.{NodeId}
use Rattle.rev_views.specs.Bookmarks.{bookmarked, with_bookmark}
use Rattle.rev_views.specs.Bookmarked.{plain_bookmarks}

module _ {A : Type 0} where
  pub bookmarked-lookup : (name : List ℕ) (es : List (Vec ℕ A × NodeId)) → option_map (λ n. n.0) (lookup (λ k. bytes_eq name k.items) es) ≡ bookmarked (plain_bookmarks es) name
  bookmarked-lookup name [] = refl
  bookmarked-lookup name (e ∷ es) = by (bytes_eq name e.0.items) (bookmarked-lookup name es)
    where
      by : (b : Bool) → option_map (λ n. n.0) (lookup (λ k. bytes_eq name k.items) es) ≡ bookmarked (plain_bookmarks es) name
          → option_map (λ n. n.0) (cond b (Some e.1) (lookup (λ k. bytes_eq name k.items) es)) ≡ cond b (Some e.1.0) (bookmarked (plain_bookmarks es) name)
      by true rest = refl
      by false rest = rest

  pub with_bookmark-insert : (name : Vec ℕ A) (n : NodeId) (es : List (Vec ℕ A × NodeId)) → plain_bookmarks (insert_entry (λ x y. bytes_eq x.items y.items) es name n) ≡ with_bookmark (plain_bookmarks es) name.items n.0
  with_bookmark-insert name n [] = refl
  with_bookmark-insert name n (e ∷ es) = by (bytes_eq name.items e.0.items) (with_bookmark-insert name n es)
    where
      by : (b : Bool) → plain_bookmarks (insert_entry (λ x y. bytes_eq x.items y.items) es name n) ≡ with_bookmark (plain_bookmarks es) name.items n.0
          → plain_bookmarks (cond b ((e.0, n) ∷ es) (e ∷ insert_entry (λ x y. bytes_eq x.items y.items) es name n)) ≡ cond b ((e.0.items, n.0) ∷ plain_bookmarks es) ((e.0.items, e.1.0) ∷ with_bookmark (plain_bookmarks es) name.items n.0)
      by true rest = refl
      by false rest = ap (λ t. (e.0.items, e.1.0) ∷ t) rest
