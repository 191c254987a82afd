use Rattle.std.proofs.Common.{◌≡◌, ◌∙◌, ◌<◌, ◌≤◌, ℕ, List, Bor, IfSome, MatchOption, None, Option, Some, ap, get_or, length, refl, slice_get, sym}
use Rattle.std.proofs.lemmas.Option.{slice_get_past, slice_get_read}
use Rattle.std.specs.List.{HoldsAt}
use Rattle.std.specs.Option.{option_copied}
use Rattle.rev_model.specs.State.{State}
use Rattle.rev_inverse.proofs.store.Store.bump_at.Goals as goal

-- what a reader by place answers, copied, is what stands there
read : {X : Type 0} (P : Bor X → Type 0) (o : Option (Bor X)) (xs : List X) (i : ℕ) → MatchOption o (length xs ≤ i) (λ x. (i < length xs) × P x) → IfSome o (λ x. x.now ≡ get_or xs i x.now)
    → option_copied o ≡ slice_get xs i
read P None xs i m h = sym (slice_get_past xs i m)
read P (Some x) xs i m h = sym (slice_get_read xs (length xs) i x.now refl m.0 h)

pub returns : goal.returns
returns g c =
    c.copied.ensures
    ∙ (read (λ x. HoldsAt (λ y. x.now ≡ y) c.self.inside.bump.items c.args.i) c.get.result c.self.inside.bump.items c.args.i c.get.ensures.item.3 c.get.ensures.lookup
    ∙ ap (λ (s : State). slice_get s.bump c.args.i) c.self.view_is)
