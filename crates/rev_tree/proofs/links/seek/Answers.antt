use Rattle.std.proofs.Common.{length, refl, inr}
use Rattle.rev_tree.specs.Links.{mentions_of}
use Rattle.rev_tree.proofs.Latest.{begins, goes_on, seek_past, finds, holds_found, seek_end}
use Rattle.rev_tree.proofs.links.seek.Goals as goal

pub walk-init : goal.walk-init
walk-init c =
    begins c.args.heads.now c.args.entries.now c.args.hash c.args.bound c.bucket-place.result c.requires c.bucket-place.ensures.value c.bucket-place.ensures.within

pub walk-preserved : goal.walk-preserved
walk-preserved c =
    goes_on c.args.heads.now c.args.entries.now c.requires c.args.hash c.args.bound c.walk.cursor c.walk.invariant c.walk-test.true (inr c.if-entry-hash.false)

pub walk-preserved-then-leads_past : goal.walk-preserved-then-leads_past
walk-preserved-then-leads_past c =
    seek_past (mentions_of c.args.entries.now) (length c.args.heads.now) c.args.hash c.args.bound c.walk.cursor _ c.bucket-place.result c.requires.rises c.bucket-place.ensures.value c.walk.invariant (c.if-leads_past.ensures refl)

pub returns-then-entry-hash-clause-latest : goal.returns-then-entry-hash-clause-latest
returns-then-entry-hash-clause-latest c =
    finds c.args.heads.now c.args.entries.now c.requires c.args.hash c.args.bound c.walk.cursor c.walk.invariant c.walk-test.true

pub returns-clause-latest : goal.returns-clause-latest
returns-clause-latest c =
    seek_end (mentions_of c.args.entries.now) (length c.args.heads.now) c.args.hash c.args.bound c.walk.cursor c.walk.invariant c.walk-test.false

pub returns-then-entry-hash-clause-held : goal.returns-then-entry-hash-clause-held
returns-then-entry-hash-clause-held c = λ _.
    holds_found c.args.heads.now c.args.entries.now c.requires c.args.hash c.args.bound c.walk.cursor c.walk.invariant c.walk-test.true c.if-entry-hash.true
