use Rattle.std.proofs.Common.{◌≤◌, ◌+◌, ◌-◌, length, refl, arith, sym, ap}
use Rattle.std.proofs.lemmas.List.{length-take-le}
use Rattle.rev_script.proofs.Known.{passed-known}
use Rattle.rev_script.proofs.byte_reader.ByteReader.pass.Goals as goal

pub returns-clause-taken : goal.returns-clause-taken
returns-clause-taken g c =
    let s = c.self.inside in
    let i = c.self.invariant in
    let within : s.to ≤ length s.piece = omega (arith, i) in
    let few = rw (← c.self.view_is) at c.requires in
    rw (← c.self.view_is) (
    record {
      passed = record {
        bytes = passed-known s.piece s.from s.to c.args.n (4294967296 - s.given) _ i.0 within few;
        count = ap (λ k. s.given + k) (sym (length-take-le c.args.n _ few));
        same = refl;
      };
      steady = refl;
      beside = refl;
    })
