use Rattle.std.proofs.Common.{◌≡◌, ◌+◌, Some, length, sym, ◌∙◌, ap, arith}
use Rattle.rev_model.specs.Chunk.{same_chunk}
use Rattle.rev_model.proofs.Undo.{tells_chunk}
use Rattle.rev_model.specs.State.{free_of}
use Rattle.rev_views.specs.Classes.{shown}
use Rattle.rev_views.proofs.Walk.{rest_after, next_after-rest, head-rest, head-none, rest-next, rest-has}
use Rattle.rev_views.proofs.Shows.{free_once}
use Rattle.rev_views.proofs.Counting.{count_more, count_ends, shown_again}
use Rattle.rev_views.proofs.classes.count_free.Goals as goal

pub chunks-smaller : goal.chunks-smaller
chunks-smaller g c =
    let list = free_of c.args.store.now c.args.class in
    let w = head-rest (rest_after same_chunk c.chunks.behind list) c.in-Some.chunk (sym (next_after-rest same_chunk c.chunks.behind list) ∙ sym c.free_at.ensures ∙ c.in-Some.is) in
    let e : rest_after same_chunk (Some c.in-Some.chunk) list ≡ w.0 = rest-next same_chunk tells_chunk.self c.chunks.behind list c.in-Some.chunk w.0 (free_once c.args.store.now c.requires.sound c.args.class c.in-Some.chunk) w.1 in
    omega (arith, ap (λ t. length t) e, ap (λ t. length t) w.1)

pub chunks-preserved : goal.chunks-preserved
chunks-preserved g c =
    let list = free_of c.args.store.now c.args.class in
    let w = head-rest (rest_after same_chunk c.chunks.behind list) c.in-Some.chunk (sym (next_after-rest same_chunk c.chunks.behind list) ∙ sym c.free_at.ensures ∙ c.in-Some.is) in
    let e : rest_after same_chunk (Some c.in-Some.chunk) list ≡ w.0 = rest-next same_chunk tells_chunk.self c.chunks.behind list c.in-Some.chunk w.0 (free_once c.args.store.now c.requires.sound c.args.class c.in-Some.chunk) w.1 in
    let longer = ap (λ t. length t) w.1 in
    record {
      there = rest-has same_chunk tells_chunk.self c.chunks.behind list c.in-Some.chunk w.0 w.1;
      told =
          ap (λ t. shown (c.more-count.result + length t)) e
          ∙ ap (λ n. shown (n + length w.0)) c.more-count.ensures
          ∙ count_more c.chunks.count 1 (length (rest_after same_chunk c.chunks.behind list)) (length w.0) (length list) c.chunks.invariant.told (omega (arith, longer));
      within = c.more-count.ensures ∙ shown_again (c.chunks.count + 1) ∙ ap shown (sym c.more-count.ensures);
    }

pub returns : goal.returns
returns g c =
    let list = free_of c.args.store.now c.args.class in
    let n = head-none (rest_after same_chunk c.chunks.behind list) (sym (next_after-rest same_chunk c.chunks.behind list) ∙ sym c.free_at.ensures ∙ c.in_default.is) in
    count_ends c.chunks.count (length (rest_after same_chunk c.chunks.behind list)) (length list) c.chunks.invariant.told (ap (λ t. length t) n) c.chunks.invariant.within
