use Rattle.std.proofs.Common.{◌∷◌, [], refl, sym, ◌∙◌, ap, subst, length, map}
use Rattle.std.proofs.lemmas.List.{map-append}
use Rattle.rev_inverse.proofs.Lists.{map-reverse}
use Rattle.rev_requests.specs.Plain.{plain_step}
use Rattle.rev_tree.specs.Machine.{lineage}
use Rattle.rev_explain.proofs.Climbs.{above_root}
use Rattle.rev_whatif.proofs.Reading.{Reading, read_starts, read_more, read_ends}
use Rattle.rev_whatif.proofs.path.steps.Goals as goal

pub nodes-init : goal.nodes-init
nodes-init g c =
    let v = c.args.session.now in
    let read = map (λ step. plain_step step.now) c.in_ok-steps.steps.items in
    subst (λ d. Reading v d read) (sym c.depth-depth.ensures) (read_starts v read (ap (map (λ step. plain_step step.now)) c.in_ok-steps.ensures.items))

pub nodes-preserved : goal.nodes-preserved
nodes-preserved g c =
    let v = c.args.session.now in
    read_more v c.nodes.depth c.in-Some.field-0-0.0 (plain_step c.in-Some.step.now) c.in-Some.field-0-2 c.in-Some.field-0-3 (map (λ step. plain_step step.now) c.nodes.steps.items)
    (map (λ step. plain_step step.now) c.push.new.self.items) c.nodes.invariant
    (above_root c.nodes.depth (length (lineage v.rows v.current)) c.in-Some.ensures.none.1) c.in-Some.ensures.some
    (ap (map (λ step. plain_step step.now)) c.in_ok-push.ensures.items ∙ map-append (λ step. plain_step step.now) c.nodes.steps.items (c.in-Some.step ∷ []))

pub returns : goal.returns
returns g c =
    read_ends c.args.session.now c.nodes.depth (map (λ step. plain_step step.now) c.nodes.steps.items) (map (λ step. plain_step step.now) c.reverse.new.self.items) c.nodes.invariant
    (c.in_default.ensures.none.0 refl)
    (ap (map (λ step. plain_step step.now)) c.reverse.ensures.items ∙ map-reverse (λ step. plain_step step.now) c.nodes.steps.items)
