use Rattle.std.proofs.Common.{◌+◌, ◌-◌, ◌≡◌, Some, length, take, drop, refl, sym, ◌∙◌, ap, arith, take_all, length-drop}
use Rattle.rev_watch.proofs.WordLemmas.{cut_at, uncut, all_until}
use Rattle.rev_watch.proofs.text.cut.Goals as goal

pub returns-in-Some-clause-front : goal.returns-in-Some-clause-front
returns-in-Some-clause-front c = sym (cut_at c.args.byte c.args.text.now c.in-Some.i c.in-Some.ensures).1

pub returns-in-Some-clause-back : goal.returns-in-Some-clause-back
returns-in-Some-clause-back c =
    let f = cut_at c.args.byte c.args.text.now c.in-Some.i c.in-Some.ensures in
    let tail = drop (c.in-Some.i + 1) c.args.text.now in
    let all : take (length c.args.text.now - (c.in-Some.i + 1)) tail ≡ tail =
    take_all (length c.args.text.now - (c.in-Some.i + 1)) tail (omega (arith, length-drop (c.in-Some.i + 1) c.args.text.now)) in
    rw f.2 (ap Some (all ∙ sym f.3))

pub returns-in-None-clause-front : goal.returns-in-None-clause-front
returns-in-None-clause-front c = sym (all_until c.args.byte c.args.text.now (uncut c.args.byte c.args.text.now c.in-None.ensures))

pub returns-in-None-clause-back : goal.returns-in-None-clause-back
returns-in-None-clause-back c = let none = uncut c.args.byte c.args.text.now c.in-None.ensures in rw none refl
