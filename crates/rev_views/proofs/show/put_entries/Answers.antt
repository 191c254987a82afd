use Rattle.std.proofs.Common.{◌≡◌, ◌++◌, Some, length, sym, ◌∙◌, ap, arith, append_assoc, append-nil}
use Rattle.rev_model.specs.Chunk.{same_entry}
use Rattle.rev_model.proofs.Undo.{tells_entry}
use Rattle.rev_model.specs.State.{queue_of}
use Rattle.rev_texts.specs.Texts.{entries_text, entry_text}
use Rattle.rev_views.proofs.Walk.{rest_after, next_after-rest, head-rest, head-none, rest-next, rest-has}
use Rattle.rev_views.proofs.Shows.{queue_once}
use Rattle.rev_views.proofs.show.put_entries.Goals as goal

pub entries-smaller : goal.entries-smaller
entries-smaller g c =
    let list = queue_of c.args.store.now c.args.class c.args.queue in
    let w = head-rest (rest_after same_entry c.entries.behind list) c.in-Some.entry (sym (next_after-rest same_entry c.entries.behind list) ∙ sym c.queue_entry.ensures ∙ c.in-Some.is) in
    let e : rest_after same_entry (Some c.in-Some.entry) list ≡ w.0 = rest-next same_entry tells_entry.self c.entries.behind list c.in-Some.entry w.0 (queue_once c.args.store.now c.requires.sound c.args.class c.args.queue c.in-Some.entry) w.1 in
    omega (arith, ap (λ t. length t) e, ap (λ t. length t) w.1)

pub entries-preserved : goal.entries-preserved
entries-preserved g c =
    let list = queue_of c.args.store.now c.args.class c.args.queue in
    let w = head-rest (rest_after same_entry c.entries.behind list) c.in-Some.entry (sym (next_after-rest same_entry c.entries.behind list) ∙ sym c.queue_entry.ensures ∙ c.in-Some.is) in
    let e : rest_after same_entry (Some c.in-Some.entry) list ≡ w.0 = rest-next same_entry tells_entry.self c.entries.behind list c.in-Some.entry w.0 (queue_once c.args.store.now c.requires.sound c.args.class c.args.queue c.in-Some.entry) w.1 in
    record {
      there = rest-has same_entry tells_entry.self c.entries.behind list c.in-Some.entry w.0 w.1;
      text =
          ap (λ t. c.put_entry.new.answer.items ++ entries_text c.args.store.now t) e
          ∙ ap (λ t. t ++ entries_text c.args.store.now w.0) c.in_ok-put_entry.ensures
          ∙ append_assoc c.entries.answer.items (entry_text c.args.store.now c.in-Some.entry) (entries_text c.args.store.now w.0)
          ∙ ap (λ t. c.entries.answer.items ++ entries_text c.args.store.now t) (sym w.1)
          ∙ c.entries.invariant.text;
    }

pub returns : goal.returns
returns g c =
    let list = queue_of c.args.store.now c.args.class c.args.queue in
    let n = head-none (rest_after same_entry c.entries.behind list) (sym (next_after-rest same_entry c.entries.behind list) ∙ sym c.queue_entry.ensures ∙ c.in_default.is) in
    sym (append-nil c.entries.answer.items) ∙ ap (λ t. c.entries.answer.items ++ entries_text c.args.store.now t) (sym n) ∙ c.entries.invariant.text
