use Rattle.std.proofs.Common.{◌≡◌, ◌≢◌, ◌==◌, ◌<◌, ℕ, true, false, ◌&&◌, nat_lt, length, take, drop, sym, ◌∙◌, ap, subst, arith, length-drop, append-nil, take-add}
use Rattle.std.proofs.lemmas.List.{take-append-drop}
use Rattle.std.proofs.lemmas.Bool.Decides.{nat_tests}
use Rattle.std.specs.Io.KnownBytes.{Appends}
use Rattle.rev_output.specs.Sink.{failures_after, one_more}
use Rattle.rev_output.proofs.Written.{Appends-then, Appends-Keeps, part_all}
use Rattle.rev_output.proofs.write_all.Goals as goal

is_some : (n : ℕ) → 0 < n → nat_lt 0 n ≡ true
is_some n h = grind (arith, nat_tests)

-- a write that took some bytes did not fail
taken : (n size : ℕ) → n ≢ 0 → ((n == 0) && nat_lt 0 size) ≡ false
taken n size h = let t : (n == 0) ≡ false = grind (arith, nat_tests) in ap (λ b. b && nat_lt 0 size) t

pub returns-in-Err-clause-err : goal.returns-in-Err-clause-err
returns-in-Err-clause-err g c =
    let e = rw c.in-Err.is at c.write.ensures.failures in (
      (
        take c.loop-from.from c.args.text.now,
        drop c.loop-from.from c.args.text.now,
        Appends-Keeps _ _ _ _ c.loop-from.invariant.1 c.in-Err.ensures.bytes,
        take-append-drop c.loop-from.from c.args.text.now,
      ),
      e ∙ ap one_more c.loop-from.invariant.2,
    )

pub returns-then-n-eq0-clause-err : goal.returns-then-n-eq0-clause-err
returns-then-n-eq0-clause-err g c =
    let text = c.args.text.now in
    let from = c.loop-from.from in
    let e = rw c.in-Ok.is at c.write.ensures.failures in
    let none = rw (c.if-n-eq0.true, part_all, is_some (length (drop from text)) (omega (arith, length-drop from text, c.loop-from-test.true))) at e in
    let b = rw c.if-n-eq0.true at c.in-Ok.ensures.bytes in (
      (
        take from text,
        drop from text,
        subst (λ l. Appends (g.K.Sink.contents c.args.sink.now) (g.K.Sink.contents c.write.new.self) l) (append-nil (take from text)) (Appends-then _ _ _ _ _ c.loop-from.invariant.1 b),
        take-append-drop from text,
      ),
      none ∙ ap one_more c.loop-from.invariant.2,
    )

pub loop-from-preserved : goal.loop-from-preserved
loop-from-preserved g c =
    let text = c.args.text.now in
    let from = c.loop-from.from in
    let e = rw c.in-Ok.is at c.write.ensures.failures in
    let b = rw part_all at c.in-Ok.ensures.bytes in
    let bound = rw part_all at c.in-Ok.ensures.bound in (
      omega (arith, bound, length-drop from text, c.loop-from.invariant.0),
      subst (λ l. Appends (g.K.Sink.contents c.args.sink.now) (g.K.Sink.contents c.write.new.self) l) (sym (take-add from c.in-Ok.n text)) (Appends-then _ _ _ _ _ c.loop-from.invariant.1 b),
      e ∙ ap (λ t. failures_after t (g.K.Sink.failures c.loop-from.sink)) (taken c.in-Ok.n _ c.if-n-eq0.false) ∙ c.loop-from.invariant.2,
      c.write.ensures.same ∙ c.loop-from.invariant.3,
    )
