use Rattle.std.proofs.Common.{◌≡◌, ◌∷◌, [], ℕ, List, Bool, true, false, ◌&&◌, nat_eq, inl, refl, sym, subst}
use Rattle.rev_script.specs.Script.{is_ending, ending_size}
use Rattle.rev_script.specs.declared.dialect.Dialect.TheVariants.{AnyFeed}
use Rattle.rev_script.proofs.Known.{Took-then}
use Rattle.rev_script.proofs.data_block.take_feed.Goals as goal

and_true : (b : Bool) → b ≡ (b && true)
and_true true = refl
and_true false = refl

-- behind a CR, LF ends the block
behind_return : (first second : ℕ) → first ≡ 13 → nat_eq second 10 ≡ is_ending AnyFeed (first ∷ second ∷ [])
behind_return first second e = subst (λ x. nat_eq second 10 ≡ is_ending AnyFeed (x ∷ second ∷ [])) (sym e) (and_true (nat_eq second 10))

return_size : (first : ℕ) (rest : List ℕ) → first ≡ 13 → 2 ≡ ending_size AnyFeed (first ∷ rest)
return_size first rest e = subst (λ x. 2 ≡ ending_size AnyFeed (x ∷ rest)) (sym e) refl

pub returns-in-Ok-Some-byte-clause-ok : goal.returns-in-Ok-Some-byte-clause-ok
returns-in-Ok-Some-byte-clause-ok g c =
    let t = rw c.in-Ok-Some.field-0-is at c.in-Ok-Some.ensures.taken in
    let u = rw c.in-Ok-Some-byte.field-0-is at c.in-Ok-Some-byte.ensures.taken in
    record {
      taken = c.in-Ok-Some.b ∷ c.in-Ok-Some-byte.second ∷ [];
      took = Took-then t u;
      size_is = inl (return_size c.in-Ok-Some.b (c.in-Ok-Some-byte.second ∷ []) c.if-first-ne13.false);
      sound_is = behind_return c.in-Ok-Some.b c.in-Ok-Some-byte.second c.if-first-ne13.false;
    }
