use Rattle.std.proofs.lemmas.Result.{on_ok_weaker}
use Rattle.rev_lives.specs.Hashes.{AreStill}
use Rattle.rev_lives.proofs.Gathered.{aside_of}
use Rattle.rev_lives.proofs.hashes.gather.Goals as goal

pub returns : goal.returns
returns g c =
    on_ok_weaker c.note_steps.result
    (λ (s : AreStill c.args.heard.now.session.now c.note_if.new.hashes.items c.note_steps.new.hashes.items).
    aside_of c.args.heard.now c.clear.new.self.items c.note_if.new.hashes.items c.note_steps.new.hashes.items c.key_hash.result c.key_hash.ensures c.in_ok-note_if.ensures s)
    c.note_steps.ensures
