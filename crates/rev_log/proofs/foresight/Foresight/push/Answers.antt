use Rattle.std.proofs.Common.{sym, ap, subst, arith}
use Rattle.rev_log.specs.Foresight.{MayVote}
use Rattle.rev_log.proofs.Sound.{sound-pushed, pushed-is, votes-may}
use Rattle.rev_log.proofs.foresight.Foresight.push.Goals as goal

pub invariant_of-self-2 : goal.invariant_of-self-2
invariant_of-self-2 g c =
    sound-pushed c.self.invariant c.args.line _ c.leaves_item-leaves.result c.stored_by-stored.result (omega (arith, c.len.ensures, c.self.inside.waiting.ok.0)) (omega arith)
    c.make_room.ensures.waiting c.make_room.ensures.nexts c.make_room.ensures.moves c.make_room.ensures.connections
    c.in_ok-known.ensures.before c.in_ok-known.ensures.ok c.last_of.ensures c.link.ensures.items c.mark_own.ensures.items c.note-2.ensures c.note_move.ensures
    c.push_back_reserved.ensures.items c.push_back_reserved-2.ensures.items

pub returns-clause-waiting : goal.returns-clause-waiting
returns-clause-waiting g c =
    pushed-is c.self.invariant c.args.self.now (sym (ap (λ f. f.first) c.self.view_is)) (sym (ap (λ f. f.waiting) c.self.view_is)) c.args.line _ (omega (arith, c.len.ensures, c.self.inside.waiting.ok.0))
    c.make_room.ensures.waiting c.make_room.ensures.connections c.mark_own.ensures.items c.push_back_reserved-2.ensures.items

pub returns-clause-votes : goal.returns-clause-votes
returns-clause-votes g c = subst (λ f. MayVote f.votes c.vote.new.seconds c.args.line) c.self.view_is (votes-may c.self.inside.seconds c.vote.new.seconds c.in_ok-known.known c.args.line c.vote.ensures)
