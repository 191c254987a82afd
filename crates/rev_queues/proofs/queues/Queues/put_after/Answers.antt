use Rattle.std.proofs.Common.{◌≡◌, ◌≢◌, IsSome, Some, subst, sym, ◌∙◌, ap, slice_get, arith}
use Rattle.rev_links.specs.Rings.{Gap}
use Rattle.rev_links.specs.declared.places.RingPlace.TheVariants.{At}
use Rattle.rev_queues.specs.declared.members.QueueId.{QueueId}
use Rattle.rev_queues.specs.Positions.{link_at, next_in, previous_in, Opens, Tells}
use Rattle.rev_queues.specs.QueueState.{id_of, member_of_entry, position_of}
use Rattle.rev_queues.proofs.Kept.{some_link, tally_there}
use Rattle.rev_queues.proofs.Moves.{put_there, put_apart, put_gap, put_bytes, put_count, put_linked, put_slots, put_queues}
use Rattle.rev_queues.proofs.queues.Queues.put_after.Goals as goal

pub open-requires-clause-there : goal.open-requires-clause-there
open-requires-clause-there g c =
    let s = c.self.inside in
    subst (λ m. IsSome (link_at s.links.ends s.links.marks s.links.slots (At m))) (sym (c.member_in-member.ensures ∙ ap (λ q. member_of_entry q c.args.entry) c.id-id.ensures))
    (put_there s.links.ends s.links.marks s.links.slots s.tallies c.self.invariant c.args.self.now c.self.view_is (id_of c.args.class c.args.queue) c.requires.place c.args.entry c.requires.slot c.requires.gone c.args.after c.requires.after)

pub open-requires-clause-apart : goal.open-requires-clause-apart
open-requires-clause-apart g c =
    let s = c.self.inside in
    subst (λ p. p ≢ At c.member_in-member.result) (sym (c.position_in.ensures ∙ ap (λ q. position_of q c.args.after) c.id-id.ensures))
    (subst (λ m. position_of (id_of c.args.class c.args.queue) c.args.after ≢ At m) (sym (c.member_in-member.ensures ∙ ap (λ q. member_of_entry q c.args.entry) c.id-id.ensures)) (put_apart s.links.ends s.links.marks s.links.slots s.tallies c.self.invariant c.args.self.now c.self.view_is (id_of c.args.class c.args.queue) c.requires.place c.args.entry c.requires.slot c.requires.gone c.args.after c.requires.after))

pub open-requires-clause-gap : goal.open-requires-clause-gap
open-requires-clause-gap g c =
    let s = c.self.inside in
    subst (λ p. Gap (next_in s.links.ends s.links.marks s.links.slots) (previous_in s.links.ends s.links.marks s.links.slots) p c.member_in-member.result) (sym (c.position_in.ensures ∙ ap (λ q. position_of q c.args.after) c.id-id.ensures))
    (subst (Gap (next_in s.links.ends s.links.marks s.links.slots) (previous_in s.links.ends s.links.marks s.links.slots) (position_of (id_of c.args.class c.args.queue) c.args.after)) (sym (c.member_in-member.ensures ∙ ap (λ q. member_of_entry q c.args.entry) c.id-id.ensures)) (put_gap s.links.ends s.links.marks s.links.slots s.tallies c.self.invariant c.args.self.now c.self.view_is (id_of c.args.class c.args.queue) c.requires.place c.args.entry c.requires.slot c.requires.gone c.args.after c.requires.after))

pub tell-requires : goal.tell-requires
tell-requires g c =
    let o = c.open.new.self in
    some_link (link_at o.ends o.marks o.slots (At c.member_in-member.result)) c.open.ensures.value.n c.open.ensures.value.opened.behind.onward

pub get-tally-requires : goal.get-tally-requires
get-tally-requires g c =
    let s = c.self.inside in
    tally_there s.links.ends s.links.marks s.links.slots s.tallies c.self.invariant c.args.self.now c.self.view_is (id_of c.args.class c.args.queue) c.requires.place c.from-place.result (c.from-place.ensures ∙ ap (λ (q : QueueId). q.number) c.id-id.ensures)

pub set-requires : goal.set-requires
set-requires g c =
    let s = c.self.inside in
    tally_there s.links.ends s.links.marks s.links.slots s.tallies c.self.invariant c.args.self.now c.self.view_is (id_of c.args.class c.args.queue) c.requires.place c.from-place.result (c.from-place.ensures ∙ ap (λ (q : QueueId). q.number) c.id-id.ensures)

pub with-requires-clause-bytes : goal.with-requires-clause-bytes
with-requires-clause-bytes g c =
    let s = c.self.inside in
    let o = c.open.new.self in
    let t = c.tell.new.self in
    let i = c.id-id.ensures in
    let m = c.member_in-member.ensures ∙ ap (λ q. member_of_entry q c.args.entry) i in
    put_bytes s.links.ends s.links.marks s.links.slots s.tallies c.self.invariant c.args.self.now c.self.view_is (id_of c.args.class c.args.queue) c.requires.place c.args.entry c.requires.slot c.requires.gone c.args.after c.requires.after c.args.footprint c.ranges.footprint.fits
    o.ends o.marks o.slots c.open.ensures.shape
    (subst (λ p. Opens (next_in s.links.ends s.links.marks s.links.slots) (previous_in s.links.ends s.links.marks s.links.slots) (next_in o.ends o.marks o.slots) (previous_in o.ends o.marks o.slots) (member_of_entry (id_of c.args.class c.args.queue) c.args.entry) p) (c.position_in.ensures ∙ ap (λ q. position_of q c.args.after) i)
    (subst (λ x. Opens (next_in s.links.ends s.links.marks s.links.slots) (previous_in s.links.ends s.links.marks s.links.slots) (next_in o.ends o.marks o.slots) (previous_in o.ends o.marks o.slots) x c.position_in.result) m c.open.ensures.value))
    c.open.ensures.standing t.ends t.marks t.slots c.tell.ensures.shape c.tell.ensures.links
    (subst (λ q. Tells o.slots t.slots (member_of_entry (id_of c.args.class c.args.queue) c.args.entry) (record { queue = q; footprint = c.args.footprint })) i
    (subst (λ x. Tells o.slots t.slots x (record { queue = c.id-id.result; footprint = c.args.footprint })) m c.tell.ensures.value))
    c.get-tally.result (subst (λ n. slice_get s.tallies n ≡ Some c.get-tally.result) (c.from-place.ensures ∙ ap (λ (q : QueueId). q.number) i) c.get-tally.ensures.value)
    c.from-bytes.result (c.from-bytes.ensures ∙ c.bytes_told.ensures)

pub with-requires-clause-count : goal.with-requires-clause-count
with-requires-clause-count g c =
    let s = c.self.inside in
    let o = c.open.new.self in
    let t = c.tell.new.self in
    let i = c.id-id.ensures in
    let m = c.member_in-member.ensures ∙ ap (λ q. member_of_entry q c.args.entry) i in
    put_count s.links.ends s.links.marks s.links.slots s.tallies c.self.invariant c.args.self.now c.self.view_is (id_of c.args.class c.args.queue) c.requires.place c.args.entry c.requires.slot c.requires.gone c.args.after c.requires.after c.args.footprint c.ranges.footprint.fits
    o.ends o.marks o.slots c.open.ensures.shape
    (subst (λ p. Opens (next_in s.links.ends s.links.marks s.links.slots) (previous_in s.links.ends s.links.marks s.links.slots) (next_in o.ends o.marks o.slots) (previous_in o.ends o.marks o.slots) (member_of_entry (id_of c.args.class c.args.queue) c.args.entry) p) (c.position_in.ensures ∙ ap (λ q. position_of q c.args.after) i)
    (subst (λ x. Opens (next_in s.links.ends s.links.marks s.links.slots) (previous_in s.links.ends s.links.marks s.links.slots) (next_in o.ends o.marks o.slots) (previous_in o.ends o.marks o.slots) x c.position_in.result) m c.open.ensures.value))
    c.open.ensures.standing t.ends t.marks t.slots c.tell.ensures.shape c.tell.ensures.links
    (subst (λ q. Tells o.slots t.slots (member_of_entry (id_of c.args.class c.args.queue) c.args.entry) (record { queue = q; footprint = c.args.footprint })) i
    (subst (λ x. Tells o.slots t.slots x (record { queue = c.id-id.result; footprint = c.args.footprint })) m c.tell.ensures.value))
    c.get-tally.result (subst (λ n. slice_get s.tallies n ≡ Some c.get-tally.result) (c.from-place.ensures ∙ ap (λ (q : QueueId). q.number) i) c.get-tally.ensures.value)

pub invariant_of-self : goal.invariant_of-self
invariant_of-self g c =
    let s = c.self.inside in
    let o = c.open.new.self in
    let t = c.tell.new.self in
    let i = c.id-id.ensures in
    let m = c.member_in-member.ensures ∙ ap (λ q. member_of_entry q c.args.entry) i in
    put_linked s.links.ends s.links.marks s.links.slots s.tallies c.self.invariant c.args.self.now c.self.view_is (id_of c.args.class c.args.queue) c.requires.place c.args.entry c.requires.slot c.requires.gone c.args.after c.requires.after c.args.footprint c.ranges.footprint.fits
    o.ends o.marks o.slots c.open.ensures.shape
    (subst (λ p. Opens (next_in s.links.ends s.links.marks s.links.slots) (previous_in s.links.ends s.links.marks s.links.slots) (next_in o.ends o.marks o.slots) (previous_in o.ends o.marks o.slots) (member_of_entry (id_of c.args.class c.args.queue) c.args.entry) p) (c.position_in.ensures ∙ ap (λ q. position_of q c.args.after) i)
    (subst (λ x. Opens (next_in s.links.ends s.links.marks s.links.slots) (previous_in s.links.ends s.links.marks s.links.slots) (next_in o.ends o.marks o.slots) (previous_in o.ends o.marks o.slots) x c.position_in.result) m c.open.ensures.value))
    c.open.ensures.standing t.ends t.marks t.slots c.tell.ensures.shape c.tell.ensures.links
    (subst (λ q. Tells o.slots t.slots (member_of_entry (id_of c.args.class c.args.queue) c.args.entry) (record { queue = q; footprint = c.args.footprint })) i
    (subst (λ x. Tells o.slots t.slots x (record { queue = c.id-id.result; footprint = c.args.footprint })) m c.tell.ensures.value))
    c.get-tally.result (subst (λ n. slice_get s.tallies n ≡ Some c.get-tally.result) (c.from-place.ensures ∙ ap (λ (q : QueueId). q.number) i) c.get-tally.ensures.value)
    c.from-place.result (c.from-place.ensures ∙ ap (λ (q : QueueId). q.number) i) c.from-bytes.result (c.from-bytes.ensures ∙ c.bytes_told.ensures) c.set.new.self c.with.result c.with.ensures c.set.ensures.value

pub returns-clause-queues : goal.returns-clause-queues
returns-clause-queues g c =
    let s = c.self.inside in
    let o = c.open.new.self in
    let t = c.tell.new.self in
    let i = c.id-id.ensures in
    let m = c.member_in-member.ensures ∙ ap (λ q. member_of_entry q c.args.entry) i in
    put_queues s.links.ends s.links.marks s.links.slots s.tallies c.self.invariant c.args.self.now c.self.view_is (id_of c.args.class c.args.queue) c.requires.place c.args.entry c.requires.slot c.requires.gone c.args.after c.requires.after c.args.footprint c.ranges.footprint.fits
    o.ends o.marks o.slots c.open.ensures.shape
    (subst (λ p. Opens (next_in s.links.ends s.links.marks s.links.slots) (previous_in s.links.ends s.links.marks s.links.slots) (next_in o.ends o.marks o.slots) (previous_in o.ends o.marks o.slots) (member_of_entry (id_of c.args.class c.args.queue) c.args.entry) p) (c.position_in.ensures ∙ ap (λ q. position_of q c.args.after) i)
    (subst (λ x. Opens (next_in s.links.ends s.links.marks s.links.slots) (previous_in s.links.ends s.links.marks s.links.slots) (next_in o.ends o.marks o.slots) (previous_in o.ends o.marks o.slots) x c.position_in.result) m c.open.ensures.value))
    c.open.ensures.standing t.ends t.marks t.slots c.tell.ensures.shape c.tell.ensures.links
    (subst (λ q. Tells o.slots t.slots (member_of_entry (id_of c.args.class c.args.queue) c.args.entry) (record { queue = q; footprint = c.args.footprint })) i
    (subst (λ x. Tells o.slots t.slots x (record { queue = c.id-id.result; footprint = c.args.footprint })) m c.tell.ensures.value))
    c.get-tally.result (subst (λ n. slice_get s.tallies n ≡ Some c.get-tally.result) (c.from-place.ensures ∙ ap (λ (q : QueueId). q.number) i) c.get-tally.ensures.value)
    c.from-place.result (c.from-place.ensures ∙ ap (λ (q : QueueId). q.number) i) c.from-bytes.result (c.from-bytes.ensures ∙ c.bytes_told.ensures) c.set.new.self c.with.result c.with.ensures c.set.ensures.value

pub returns-clause-slots : goal.returns-clause-slots
returns-clause-slots g c =
    let s = c.self.inside in
    let o = c.open.new.self in
    let t = c.tell.new.self in
    let i = c.id-id.ensures in
    let m = c.member_in-member.ensures ∙ ap (λ q. member_of_entry q c.args.entry) i in
    put_slots s.links.ends s.links.marks s.links.slots s.tallies c.self.invariant c.args.self.now c.self.view_is (id_of c.args.class c.args.queue) c.requires.place c.args.entry c.requires.slot c.requires.gone c.args.after c.requires.after c.args.footprint c.ranges.footprint.fits
    o.ends o.marks o.slots c.open.ensures.shape
    (subst (λ p. Opens (next_in s.links.ends s.links.marks s.links.slots) (previous_in s.links.ends s.links.marks s.links.slots) (next_in o.ends o.marks o.slots) (previous_in o.ends o.marks o.slots) (member_of_entry (id_of c.args.class c.args.queue) c.args.entry) p) (c.position_in.ensures ∙ ap (λ q. position_of q c.args.after) i)
    (subst (λ x. Opens (next_in s.links.ends s.links.marks s.links.slots) (previous_in s.links.ends s.links.marks s.links.slots) (next_in o.ends o.marks o.slots) (previous_in o.ends o.marks o.slots) x c.position_in.result) m c.open.ensures.value))
    c.open.ensures.standing t.ends t.marks t.slots c.tell.ensures.shape c.tell.ensures.links
    (subst (λ q. Tells o.slots t.slots (member_of_entry (id_of c.args.class c.args.queue) c.args.entry) (record { queue = q; footprint = c.args.footprint })) i
    (subst (λ x. Tells o.slots t.slots x (record { queue = c.id-id.result; footprint = c.args.footprint })) m c.tell.ensures.value))
    c.get-tally.result (subst (λ n. slice_get s.tallies n ≡ Some c.get-tally.result) (c.from-place.ensures ∙ ap (λ (q : QueueId). q.number) i) c.get-tally.ensures.value)
    c.from-place.result (c.from-place.ensures ∙ ap (λ (q : QueueId). q.number) i) c.from-bytes.result (c.from-bytes.ensures ∙ c.bytes_told.ensures) c.set.new.self c.with.result c.with.ensures c.set.ensures.value

pub returns-clause-cost : goal.returns-clause-cost
returns-clause-cost g c = let a = c.open.ensures.cost in let b = c.tell.ensures.cost in let d = c.get-tally.ensures.cost in let e = c.set.ensures.cost in omega (arith, a, b, d, e)
