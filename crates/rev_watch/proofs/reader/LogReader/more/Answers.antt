use Rattle.std.proofs.Common.{◌≤◌, ◌-◌, ◌<◌, length, take, drop, refl, ◌∙◌, ap, arith, append-nil, length-take, length-drop}
use Rattle.rev_watch.proofs.ReadLemmas.{read-behind, read-none, grown, stayed, some-read, none-read, failed-read}
use Rattle.rev_watch.proofs.ReaderLemmas.{hand-length}
use Rattle.rev_watch.specs.Reader.{in_piece}
use Rattle.rev_watch.proofs.reader.LogReader.more.Goals as goal

pub returns-in-Ok-clause-ok : goal.returns-in-Ok-clause-ok
returns-in-Ok-clause-ok g c =
    let mid = c.make_room.new.self in
    let within : mid.to ≤ length mid.piece = omega (arith, mid.within, mid.whole) in
    let front : mid.to ≤ 4096 = omega (arith, hand-length mid, ap length (c.make_room.ensures.grew.piece ∙ append-nil (in_piece c.args.self.now)), c.requires, c.make_room.ensures.front) in
    let room : 0 < length c.read.new.buf =
    omega (arith, c.read.auto.buf, length-take (65536 - mid.to) (drop mid.to mid.piece), length-drop mid.to mid.piece, front, mid.whole) in (
      take c.in-Ok.n c.read.new.buf,
      grown g.S.Source.told c.args.self.now mid _ (take c.in-Ok.n c.read.new.buf) c.make_room.ensures.grew
          (read-behind mid.piece c.read.new.buf _ mid.from mid.to c.in-Ok.n c.make_room.ensures.front within c.in-Ok.ensures.bound)
          c.in-Ok.ensures.bytes.0 refl c.in-Ok.ensures.same,
      some-read c.in-Ok.n c.read.new.buf c.in-Ok.ensures.bound,
      none-read c.in-Ok.n c.read.new.buf _ c.in-Ok.ensures.bytes.1 room,
    )

pub returns-in-Err-clause-err : goal.returns-in-Err-clause-err
returns-in-Err-clause-err g c =
    let mid = c.make_room.new.self in
    let within : mid.to ≤ length mid.piece = omega (arith, mid.within, mid.whole) in (
      refl,
      stayed g.S.Source.told c.args.self.now mid _ c.make_room.ensures.grew (read-none mid.piece _ mid.from mid.to c.make_room.ensures.front within) c.in-Err.ensures.bytes refl c.read.ensures.same,
      failed-read _ _ c.read.result c.in-Err.field-0 _ c.in-Err.is c.read.ensures.ended c.read.ensures.last,
    )
