use Rattle.std.specs.Prelude.{length}
use Rattle.std.proofs.Common.{sym, ◌∙◌, ap, arith}
use Rattle.rev_model.specs.State.{free_of}
use Rattle.rev_model.specs.Actor.{spare}
use Rattle.rev_mover.proofs.Walking.{read_one, read_none, free_once, spare_skips, spare_found}
use Rattle.rev_mover.proofs.clearing.spare_chunk.Goals as goal

pub chunks-smaller : goal.chunks-smaller
chunks-smaller g c =
    let s = c.args.store.now in
    let w = read_one c.chunks.behind (free_of s c.args.class) c.in-Some.chunk (free_once s c.requires.sound c.args.class c.in-Some.chunk) (sym c.free_at.ensures ∙ c.in-Some.is) in
    omega (arith, ap (λ t. length t) w.1, ap (λ t. length t) w.2)

pub chunks-preserved : goal.chunks-preserved
chunks-preserved g c =
    let s = c.args.store.now in
    let w = read_one c.chunks.behind (free_of s c.args.class) c.in-Some.chunk (free_once s c.requires.sound c.args.class c.in-Some.chunk) (sym c.free_at.ensures ∙ c.in-Some.is) in
    record {
      there = w.3;
      spare = ap (spare c.args.page) w.2 ∙ sym (spare_skips c.args.page c.in-Some.chunk w.0 c.if-chunk-page.false) ∙ sym (ap (spare c.args.page) w.1) ∙ c.chunks.invariant.spare;
    }

pub returns-then-chunk-page : goal.returns-then-chunk-page
returns-then-chunk-page g c =
    let s = c.args.store.now in
    let w = read_one c.chunks.behind (free_of s c.args.class) c.in-Some.chunk (free_once s c.requires.sound c.args.class c.in-Some.chunk) (sym c.free_at.ensures ∙ c.in-Some.is) in
    sym (spare_found c.args.page c.in-Some.chunk w.0 c.if-chunk-page.true) ∙ sym (ap (spare c.args.page) w.1) ∙ c.chunks.invariant.spare

pub returns : goal.returns
returns g c = sym (ap (spare c.args.page) (read_none c.chunks.behind (free_of c.args.store.now c.args.class) (sym c.free_at.ensures ∙ c.in_default.is))) ∙ c.chunks.invariant.spare
