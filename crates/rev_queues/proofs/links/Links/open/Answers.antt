use Rattle.rev_queues.specs.Positions.{link_at}
use Rattle.rev_queues.proofs.Steps.{opens}
use Rattle.rev_queues.proofs.links.Links.open.Goals as goal

pub returns-clause-value : goal.returns-clause-value
returns-clause-value g c =
    let s₀ = c.args.self.now in
    let s₁ = c.set_link.new.self in
    let s₂ = c.set_next.new.self in
    let s₃ = c.set_previous.new.self in
    opens (link_at s₀.ends s₀.marks s₀.slots) (link_at s₁.ends s₁.marks s₁.slots) (link_at s₂.ends s₂.marks s₂.slots) (link_at s₃.ends s₃.marks s₃.slots)
    c.args.member c.args.after _ c.link-next.ensures.value c.requires.apart c.requires.gap c.set_link.ensures.value c.set_link.ensures.others c.set_next.ensures.value c.set_previous.ensures.value
