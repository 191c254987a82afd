use Rattle.std.proofs.Common.{sym, subst, arith, length-drop, take-add}
use Rattle.std.specs.Io.KnownBytes.{Appends}
use Rattle.rev_output.proofs.Written.{Appends-then, part_all}
use Rattle.rev_output.proofs.outbox.write_out.Goals as goal

pub loop-written-preserved : goal.loop-written-preserved
loop-written-preserved g c =
    let bytes = c.args.bytes.now in
    let written = c.loop-written.written in
    let b = rw part_all at c.in-Ok.ensures.bytes in
    let bound = rw part_all at c.in-Ok.ensures.bound in (
      omega (arith, bound, length-drop written bytes, c.loop-written.invariant.0),
      subst (λ l. Appends (g.W.Write.contents c.args.writer.now) (g.W.Write.contents c.write_again.new.writer) l) (sym (take-add written c.in-Ok.n bytes)) (Appends-then _ _ _ _ _ c.loop-written.invariant.1 b),
    )
