use Rattle.std.proofs.Common.{rules, ◌≡◌, [], ◌∷◌, ◌++◌}
use Rattle.rev_recordings.proofs.Logs.{ends-next, hands-next, ends-all}
use Rattle.rev_recordings.proofs.play.parted.Goals as goal

pub loop-hand-preserved : goal.loop-hand-preserved
loop-hand-preserved c =
    let e = c.in-Some.ensures.items in
    let p : c.push.new.self.items ≡ c.loop-hand.hands.items ++ c.in-Some.hand ∷ [] = search rules in
    record {
      lines = ends-next c.loop-hand.stopped.items _ _ (c.in-Some.hand, c.in-Some.end) c.pop_front.new.self.items _ c.player.ensures c.in_ok-put_end.ensures.ok (rw e at c.loop-hand.invariant.lines);
      hands = hands-next c.loop-hand.hands.items _ _ (c.in-Some.hand, c.in-Some.end) c.pop_front.new.self.items p (rw e at c.loop-hand.invariant.hands);
      ends = ends-all _ _ _ _ e c.in_ok-put_end.ensures.limit c.loop-hand.invariant.ends;
    }
