use Rattle.std.proofs.Common.{inl, inr, refl}
use Rattle.rev_program.proofs.Places.{tells_never}
use Rattle.rev_program.proofs.direct.open_watch.Goals as goal

pub returns-in-Ok-NeverLeft : goal.returns-in-Ok-NeverLeft
returns-in-Ok-NeverLeft g c =
    let h = rw c.in-Ok-NeverLeft.field-0-is at c.in-Ok-NeverLeft.ensures in
    let told = tells_never c.args.asked.leader c.args.asked.standing _ h in
    inr (refl, (c.as_slice.result.now, rw c.as_slice.ensures.value told, c.tell_bytes.ensures))

pub returns : goal.returns
returns g c = inl (c.answered.ensures.status, c.answered.ensures.ends)
