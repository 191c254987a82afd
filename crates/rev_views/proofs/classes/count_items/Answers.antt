use Rattle.std.proofs.Common.{◌≡◌, ◌+◌, Some, length, sym, ◌∙◌, ap, arith}
use Rattle.rev_model.specs.Chunk.{same_entry}
use Rattle.rev_model.proofs.Undo.{tells_entry}
use Rattle.rev_model.specs.State.{queue_of}
use Rattle.rev_views.specs.Classes.{shown, item_count, items_in}
use Rattle.rev_views.proofs.Walk.{rest_after, next_after-rest, head-rest, head-none, rest-next, rest-has}
use Rattle.rev_views.proofs.Shows.{queue_once}
use Rattle.rev_views.proofs.Counting.{count_more, count_ends, shown_again}
use Rattle.rev_views.proofs.classes.count_items.Goals as goal

pub entries-smaller : goal.entries-smaller
entries-smaller g c =
    let list = queue_of c.args.store.now c.args.class c.args.queue in
    let w = head-rest (rest_after same_entry c.entries.behind list) c.in-Some.entry (sym (next_after-rest same_entry c.entries.behind list) ∙ sym c.queue_entry.ensures ∙ c.in-Some.is) in
    let e : rest_after same_entry (Some c.in-Some.entry) list ≡ w.0 = rest-next same_entry tells_entry.self c.entries.behind list c.in-Some.entry w.0 (queue_once c.args.store.now c.requires.sound c.args.class c.args.queue c.in-Some.entry) w.1 in
    omega (arith, ap (λ t. length t) e, ap (λ t. length t) w.1)

pub entries-preserved : goal.entries-preserved
entries-preserved g c =
    let list = queue_of c.args.store.now c.args.class c.args.queue in
    let w = head-rest (rest_after same_entry c.entries.behind list) c.in-Some.entry (sym (next_after-rest same_entry c.entries.behind list) ∙ sym c.queue_entry.ensures ∙ c.in-Some.is) in
    let e : rest_after same_entry (Some c.in-Some.entry) list ≡ w.0 = rest-next same_entry tells_entry.self c.entries.behind list c.in-Some.entry w.0 (queue_once c.args.store.now c.requires.sound c.args.class c.args.queue c.in-Some.entry) w.1 in
    let counted = c.more-count.ensures ∙ ap (λ n. shown (c.entries.count + n)) c.item_count.ensures in
    record {
      there = rest-has same_entry tells_entry.self c.entries.behind list c.in-Some.entry w.0 w.1;
      told =
          ap (λ t. shown (c.more-count.result + items_in t)) e
          ∙ ap (λ n. shown (n + items_in w.0)) counted
          ∙ count_more c.entries.count (item_count c.in-Some.entry) (items_in (rest_after same_entry c.entries.behind list)) (items_in w.0) (items_in list) c.entries.invariant.told (ap items_in w.1);
      within = c.more-count.ensures ∙ shown_again (c.entries.count + c.item_count.result) ∙ ap shown (sym c.more-count.ensures);
    }

pub returns : goal.returns
returns g c =
    let list = queue_of c.args.store.now c.args.class c.args.queue in
    let n = head-none (rest_after same_entry c.entries.behind list) (sym (next_after-rest same_entry c.entries.behind list) ∙ sym c.queue_entry.ensures ∙ c.in_default.is) in
    count_ends c.entries.count (items_in (rest_after same_entry c.entries.behind list)) (items_in list) c.entries.invariant.told (ap items_in n) c.entries.invariant.within
