use Rattle.std.proofs.Common.{refl}
use Rattle.rev_rules.proofs.Parting.{one_more}
use Rattle.rev_rules.proofs.parts.ScriptParts.play_part.Goals as goal

pub loop-before-preserved : goal.loop-before-preserved
loop-before-preserved g c =
    let i = c.loop-before.invariant in
    let n = rw c.in-Some.is at c.in-Ok.ensures.ok in
    let a = rw c.in-Ok-Through.field-0-is at c.in-Ok-Through.ensures in
    rw c.count_anew.ensures (refl, one_more _ _ _ c.next.new.self.input _ _ _ _ a.0 i.1 n a.1 a.2)
