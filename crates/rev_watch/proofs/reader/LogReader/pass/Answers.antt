use Rattle.std.proofs.Common.{◌≤◌, ◌+◌, length, refl, arith}
use Rattle.rev_script.proofs.Known.{range-length}
use Rattle.rev_watch.proofs.ReaderLemmas.{passed}
use Rattle.rev_watch.proofs.reader.LogReader.pass.Goals as goal

pub returns-clause-took : goal.returns-clause-took
returns-clause-took g c =
    let s = c.args.self.now in
    let within : s.to ≤ length s.piece = omega (arith, s.within, s.whole) in
    let below : s.from + c.args.n ≤ s.to = omega (arith, s.ordered, c.requires, range-length s.piece s.from s.to within) in
    record {
      bytes = passed s.piece s.from c.args.n s.to _ below;
      lines = c.next_number-self.ensures;
      same = refl;
    }
