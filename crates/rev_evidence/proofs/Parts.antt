-- Parts as the map has them.
use Rattle.std.proofs.Common.{◌≡◌, ℕ, suc, Bool, true, false, nat_le, cond, List, [], ◌∷◌, length, Some, refl, ap, sym, ◌∙◌}
use Rattle.std.specs.Map.{lookup}
use Rattle.std.specs.Str.{bytes_eq}
use Rattle.std.specs.declared.vec.Vec.{Vec}
use Rattle.indexmap.specs.IndexMap.{insert_entry}
use Rattle.rev_evidence.specs.declared.departed.Told.{Told}
use Rattle.rev_evidence.specs.Departed.{PlainDeparted, with_room, with_key, told_in}
use Rattle.rev_evidence.specs.Parts.{plain_part}

module _ {A : Type 0} where
  pub told_in-lookup : (k : List ℕ) (es : List (Vec ℕ A × Told)) → lookup (λ x. bytes_eq k x.items) es ≡ told_in (plain_part es) k
  told_in-lookup k [] = refl
  told_in-lookup k (e ∷ es) = by (bytes_eq k e.0.items) (told_in-lookup k es)
    where
      by : (b : Bool) → lookup (λ x. bytes_eq k x.items) es ≡ told_in (plain_part es) k
          → cond b (Some e.1) (lookup (λ x. bytes_eq k x.items) es) ≡ cond b (Some e.1) (told_in (plain_part es) k)
      by true rest = refl
      by false rest = rest

  pub plain-insert : (k : Vec ℕ A) (t : Told) (es : List (Vec ℕ A × Told)) → plain_part (insert_entry (λ x y. bytes_eq x.items y.items) es k t) ≡ insert_entry bytes_eq (plain_part es) k.items t
  plain-insert k t [] = refl
  plain-insert k t (e ∷ es) = by (bytes_eq k.items e.0.items) (plain-insert k t es)
    where
      by : (b : Bool) → plain_part (insert_entry (λ x y. bytes_eq x.items y.items) es k t) ≡ insert_entry bytes_eq (plain_part es) k.items t
          → plain_part (cond b ((e.0, t) ∷ es) (e ∷ insert_entry (λ x y. bytes_eq x.items y.items) es k t)) ≡ cond b ((e.0.items, t) ∷ plain_part es) ((e.0.items, e.1) ∷ insert_entry bytes_eq (plain_part es) k.items t)
      by true rest = refl
      by false rest = ap (λ x. (e.0.items, e.1) ∷ x) rest

-- the two parts
abbrev pub both : (late early : List (List ℕ × Told)) → PlainDeparted
both late early = record { late = late; early = early }

module _ {A : Type 0} where
  -- a key is in the later part of what was d
  pub put_in : (k : Vec ℕ A) (t : Told) (old new early : List (Vec ℕ A × Told)) (d : PlainDeparted) → new ≡ insert_entry (λ x y. bytes_eq x.items y.items) old k t
      → both (plain_part old) (plain_part early) ≡ d → both (plain_part new) (plain_part early) ≡ with_key d k.items t
  put_in k t old new early d e v =
      ap (λ es. both (plain_part es) (plain_part early)) e
      ∙ ap (λ ps. both ps (plain_part early)) (plain-insert k t old)
      ∙ ap (λ x. with_key x k.items t) v

  plain-length : (es : List (Vec ℕ A × Told)) → length (plain_part es) ≡ length es
  plain-length [] = refl
  plain-length (e ∷ es) = ap suc (plain-length es)

  -- the later part was full, or was not
  pub room_made : (late early : List (Vec ℕ A × Told)) (d : PlainDeparted) (n : ℕ) → n ≡ length late → both (plain_part late) (plain_part early) ≡ d → nat_le 1048576 n ≡ true
      → both [] (plain_part late) ≡ with_room d
  room_made late early d n len v full =
      let t : nat_le 1048576 (length (plain_part late)) ≡ true = ap (nat_le 1048576) (plain-length late ∙ sym len) ∙ full in
      ap (λ b. cond b (both [] (plain_part late)) (both (plain_part late) (plain_part early))) (sym t) ∙ ap with_room v

  pub room_there : (late early : List (Vec ℕ A × Told)) (d : PlainDeparted) (n : ℕ) → n ≡ length late → both (plain_part late) (plain_part early) ≡ d → nat_le 1048576 n ≡ false
      → both (plain_part late) (plain_part early) ≡ with_room d
  room_there late early d n len v full =
      let t : nat_le 1048576 (length (plain_part late)) ≡ false = ap (nat_le 1048576) (plain-length late ∙ sym len) ∙ full in
      ap (λ b. cond b (both [] (plain_part late)) (both (plain_part late) (plain_part early))) (sym t) ∙ ap with_room v
