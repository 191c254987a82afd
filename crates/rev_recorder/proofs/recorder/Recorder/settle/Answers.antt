use Rattle.std.proofs.Common.{refl, subst, sym, ◌≡◌, true, false}
use Rattle.rev_recorder.specs.Hands.{HasHands, LacksHand, has_stranger}
use Rattle.rev_recorder.proofs.Calls.{legal_kept, settles_still, differs_still}
use Rattle.rev_recorder.proofs.recorder.Recorder.settle.Goals as goal

pub returns-in-Some : goal.returns-in-Some
returns-in-Some c =
    let all = subst (HasHands c.self.inside.seal c.self.inside.players) c.as_slice.ensures.value c.if-lacks_hand.ensures in
    let none = subst (λ l. has_stranger c.self.inside.seal l ≡ false) c.as_slice-2.ensures.value (sym c.if-has_stranger.ensures) in
    let legal = legal_kept c.into_inner.result.opening c.into_inner.result.log c.finish-settled.result.log.items c.into_inner.result.session c.finish-settled.result.session c.finish-settled.ensures.legal c.finish-settled.ensures.session c.finish-settled.ensures.log in (
      refl,
      (rw (← c.self.view_is) all, rw (← c.self.view_is) none, (c.into_inner.result.opening, legal)),
      differs_still c.as_slice-3.result.now c.args.hands.items c.as_slice-4.result.now c.finish-settled.result.log.items c.finish-settled.result.session c.as_slice-3.ensures.value c.as_slice-4.ensures.value c.in-Some.ensures,
    )

pub returns-in-None : goal.returns-in-None
returns-in-None c =
    let all = subst (HasHands c.self.inside.seal c.self.inside.players) c.as_slice.ensures.value c.if-lacks_hand.ensures in
    let none = subst (λ l. has_stranger c.self.inside.seal l ≡ false) c.as_slice-2.ensures.value (sym c.if-has_stranger.ensures) in
    let legal = legal_kept c.into_inner.result.opening c.into_inner.result.log c.finish-settled.result.log.items c.into_inner.result.session c.finish-settled.result.session c.finish-settled.ensures.legal c.finish-settled.ensures.session c.finish-settled.ensures.log in (
      (rw (← c.self.view_is) all, rw (← c.self.view_is) none, (c.into_inner.result.opening, legal)),
      settles_still c.as_slice-3.result.now c.args.hands.items c.as_slice-4.result.now c.finish-settled.result.log.items c.finish-settled.result.session c.as_slice-3.ensures.value c.as_slice-4.ensures.value c.in-None.ensures,
    )

pub returns-then-lacks_hand : goal.returns-then-lacks_hand
returns-then-lacks_hand c =
    let none = subst (LacksHand c.self.inside.seal c.self.inside.players) c.as_slice.ensures.value c.if-lacks_hand.ensures in
    (refl, refl, rw (← c.self.view_is) none)

pub returns-then-has_stranger : goal.returns-then-has_stranger
returns-then-has_stranger c =
    let all = subst (HasHands c.self.inside.seal c.self.inside.players) c.as_slice.ensures.value c.if-lacks_hand.ensures in
    let one = subst (λ l. has_stranger c.self.inside.seal l ≡ true) c.as_slice-2.ensures.value (sym c.if-has_stranger.ensures) in
    (refl, refl, rw (← c.self.view_is) all, rw (← c.self.view_is) one)
