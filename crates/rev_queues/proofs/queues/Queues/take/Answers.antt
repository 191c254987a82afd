use Rattle.std.proofs.Common.{◌≡◌, IsSome, Some, subst, sym, ◌∙◌, ap, slice_get, arith}
use Rattle.rev_links.specs.Rings.{Between}
use Rattle.rev_links.specs.declared.places.RingPlace.TheVariants.{At}
use Rattle.rev_queues.specs.declared.members.QueueId.{QueueId}
use Rattle.rev_queues.specs.Positions.{link_at, next_in, previous_in, told, Closes}
use Rattle.rev_queues.specs.QueueState.{id_of, member_of_entry}
use Rattle.rev_queues.proofs.Kept.{tally_there}
use Rattle.rev_queues.proofs.Readings.{entry_there, before_place}
use Rattle.rev_queues.proofs.Moves.{take_between, take_bytes, take_some, take_linked, take_slots, take_queues}
use Rattle.rev_queues.proofs.queues.Queues.take.Goals as goal

pub footprint-requires : goal.footprint-requires
footprint-requires g c =
    let s = c.self.inside in
    subst (λ m. IsSome (link_at s.links.ends s.links.marks s.links.slots (At m))) (sym (c.member_in-member.ensures ∙ ap (λ q. member_of_entry q c.args.entry) c.id-id.ensures))
    (entry_there s.links.ends s.links.marks s.links.slots s.tallies c.self.invariant c.args.self.now c.self.view_is (id_of c.args.class c.args.queue) c.requires.place c.args.entry c.requires.there)

pub close-before-requires : goal.close-before-requires
close-before-requires g c =
    let s = c.self.inside in
    subst (Between (next_in s.links.ends s.links.marks s.links.slots) (previous_in s.links.ends s.links.marks s.links.slots)) (sym (c.member_in-member.ensures ∙ ap (λ q. member_of_entry q c.args.entry) c.id-id.ensures))
    (take_between s.links.ends s.links.marks s.links.slots s.tallies c.self.invariant c.args.self.now c.self.view_is (id_of c.args.class c.args.queue) c.requires.place c.args.entry c.requires.there)

pub get-tally-requires : goal.get-tally-requires
get-tally-requires g c =
    let s = c.self.inside in
    tally_there s.links.ends s.links.marks s.links.slots s.tallies c.self.invariant c.args.self.now c.self.view_is (id_of c.args.class c.args.queue) c.requires.place c.from-place.result (c.from-place.ensures ∙ ap (λ (q : QueueId). q.number) c.id-id.ensures)

pub set-requires : goal.set-requires
set-requires g c =
    let s = c.self.inside in
    tally_there s.links.ends s.links.marks s.links.slots s.tallies c.self.invariant c.args.self.now c.self.view_is (id_of c.args.class c.args.queue) c.requires.place c.from-place.result (c.from-place.ensures ∙ ap (λ (q : QueueId). q.number) c.id-id.ensures)

pub without-requires-clause-bytes : goal.without-requires-clause-bytes
without-requires-clause-bytes g c =
    let s = c.self.inside in
    take_bytes s.links.ends s.links.marks s.links.slots s.tallies c.self.invariant c.args.self.now c.self.view_is (id_of c.args.class c.args.queue) c.requires.place c.args.entry c.requires.there
    c.get-tally.result (subst (λ n. slice_get s.tallies n ≡ Some c.get-tally.result) (c.from-place.ensures ∙ ap (λ (q : QueueId). q.number) c.id-id.ensures) c.get-tally.ensures.value)
    c.from-bytes.result (c.from-bytes.ensures ∙ (c.footprint.ensures.value ∙ ap (told s.links.slots) (c.member_in-member.ensures ∙ ap (λ q. member_of_entry q c.args.entry) c.id-id.ensures)))

pub without-requires-clause-count : goal.without-requires-clause-count
without-requires-clause-count g c =
    let s = c.self.inside in
    take_some s.links.ends s.links.marks s.links.slots s.tallies c.self.invariant c.args.self.now c.self.view_is (id_of c.args.class c.args.queue) c.requires.place c.args.entry c.requires.there
    c.get-tally.result (subst (λ n. slice_get s.tallies n ≡ Some c.get-tally.result) (c.from-place.ensures ∙ ap (λ (q : QueueId). q.number) c.id-id.ensures) c.get-tally.ensures.value)
    c.from-bytes.result (c.from-bytes.ensures ∙ (c.footprint.ensures.value ∙ ap (told s.links.slots) (c.member_in-member.ensures ∙ ap (λ q. member_of_entry q c.args.entry) c.id-id.ensures)))

pub returns-clause-before : goal.returns-clause-before
returns-clause-before g c =
    let s = c.self.inside in
    c.entry_at.ensures
    ∙ before_place s.links.ends s.links.marks s.links.slots s.tallies c.self.invariant c.args.self.now c.self.view_is (id_of c.args.class c.args.queue) c.requires.place c.args.entry c.requires.there
    c.close-before.result (subst (λ m. previous_in s.links.ends s.links.marks s.links.slots (At m) ≡ Some c.close-before.result) (c.member_in-member.ensures ∙ ap (λ q. member_of_entry q c.args.entry) c.id-id.ensures) c.close-before.ensures.before)

pub invariant_of-self : goal.invariant_of-self
invariant_of-self g c =
    let s = c.self.inside in
    let t = c.close-before.new.self in
    let m = c.member_in-member.ensures ∙ ap (λ q. member_of_entry q c.args.entry) c.id-id.ensures in
    take_linked s.links.ends s.links.marks s.links.slots s.tallies c.self.invariant c.args.self.now c.self.view_is (id_of c.args.class c.args.queue) c.requires.place c.args.entry c.requires.there
    c.get-tally.result (subst (λ n. slice_get s.tallies n ≡ Some c.get-tally.result) (c.from-place.ensures ∙ ap (λ (q : QueueId). q.number) c.id-id.ensures) c.get-tally.ensures.value)
    c.from-bytes.result (c.from-bytes.ensures ∙ (c.footprint.ensures.value ∙ ap (told s.links.slots) m))
    t.ends t.marks t.slots c.set.new.self c.close-before.ensures.shape
    (subst (Closes (next_in s.links.ends s.links.marks s.links.slots) (previous_in s.links.ends s.links.marks s.links.slots) (next_in t.ends t.marks t.slots) (previous_in t.ends t.marks t.slots)) m c.close-before.ensures.value)
    c.close-before.ensures.standing c.from-place.result (c.from-place.ensures ∙ ap (λ (q : QueueId). q.number) c.id-id.ensures) c.without.result c.without.ensures c.set.ensures.value

pub returns-clause-queues : goal.returns-clause-queues
returns-clause-queues g c =
    let s = c.self.inside in
    let t = c.close-before.new.self in
    let m = c.member_in-member.ensures ∙ ap (λ q. member_of_entry q c.args.entry) c.id-id.ensures in
    take_queues s.links.ends s.links.marks s.links.slots s.tallies c.self.invariant c.args.self.now c.self.view_is (id_of c.args.class c.args.queue) c.requires.place c.args.entry c.requires.there
    c.get-tally.result (subst (λ n. slice_get s.tallies n ≡ Some c.get-tally.result) (c.from-place.ensures ∙ ap (λ (q : QueueId). q.number) c.id-id.ensures) c.get-tally.ensures.value)
    c.from-bytes.result (c.from-bytes.ensures ∙ (c.footprint.ensures.value ∙ ap (told s.links.slots) m))
    t.ends t.marks t.slots c.set.new.self c.close-before.ensures.shape
    (subst (Closes (next_in s.links.ends s.links.marks s.links.slots) (previous_in s.links.ends s.links.marks s.links.slots) (next_in t.ends t.marks t.slots) (previous_in t.ends t.marks t.slots)) m c.close-before.ensures.value)
    c.close-before.ensures.standing c.from-place.result (c.from-place.ensures ∙ ap (λ (q : QueueId). q.number) c.id-id.ensures) c.without.result c.without.ensures c.set.ensures.value

pub returns-clause-slots : goal.returns-clause-slots
returns-clause-slots g c =
    let s = c.self.inside in
    let t = c.close-before.new.self in
    let m = c.member_in-member.ensures ∙ ap (λ q. member_of_entry q c.args.entry) c.id-id.ensures in
    take_slots s.links.ends s.links.marks s.links.slots s.tallies c.self.invariant c.args.self.now c.self.view_is (id_of c.args.class c.args.queue) c.requires.place c.args.entry c.requires.there
    c.get-tally.result (subst (λ n. slice_get s.tallies n ≡ Some c.get-tally.result) (c.from-place.ensures ∙ ap (λ (q : QueueId). q.number) c.id-id.ensures) c.get-tally.ensures.value)
    c.from-bytes.result (c.from-bytes.ensures ∙ (c.footprint.ensures.value ∙ ap (told s.links.slots) m))
    t.ends t.marks t.slots c.set.new.self c.close-before.ensures.shape
    (subst (Closes (next_in s.links.ends s.links.marks s.links.slots) (previous_in s.links.ends s.links.marks s.links.slots) (next_in t.ends t.marks t.slots) (previous_in t.ends t.marks t.slots)) m c.close-before.ensures.value)
    c.close-before.ensures.standing c.from-place.result (c.from-place.ensures ∙ ap (λ (q : QueueId). q.number) c.id-id.ensures) c.without.result c.without.ensures c.set.ensures.value

pub returns-clause-cost : goal.returns-clause-cost
returns-clause-cost g c = let a = c.footprint.ensures.cost in let b = c.close-before.ensures.cost in let d = c.get-tally.ensures.cost in let e = c.set.ensures.cost in omega (arith, a, b, d, e)
