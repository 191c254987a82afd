use Rattle.std.proofs.Common.{◌∷◌, [], inl, refl, sym, ◌∙◌, ap, take, get_or}
use Rattle.rev_script.proofs.Known.{Took-then, take-two}
use Rattle.rev_script.proofs.data_block.take_crlf.Goals as goal

pub returns-clause-ok : goal.returns-clause-ok
returns-clause-ok g c =
    let t = rw c.in-Ok-Some.field-0-is at c.in-Ok-Some.ensures.taken in
    let u = rw c.in-Ok-Some-byte.field-0-is at c.in-Ok-Some-byte.ensures.taken in
    record {
      taken = c.in-Ok-Some.b ∷ c.in-Ok-Some-byte.b ∷ [];
      took = Took-then t u;
      size_is = inl refl;
      sound_is = c.is_crlf.ensures;
    }

pub returns-then-front-ge2-clause-ok : goal.returns-then-front-ge2-clause-ok
returns-then-front-ge2-clause-ok g c =
    let f = c.front-front.result.now in
    let two = ap (λ l. take 2 l) (sym c.front-front.ensures) ∙ take-two f c.if-front-ge2.true in
    record {
      taken = get_or f 0 0 ∷ get_or f 1 0 ∷ [];
      took = rw two at c.pass.ensures.taken;
      size_is = inl refl;
      sound_is = c.is_crlf-sound.ensures;
    }
