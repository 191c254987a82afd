use Rattle.std.proofs.Common.{ap, ◌∙◌, nat_le}
use Rattle.rev_rules.specs.Events.{is_flushed_item}
use Rattle.rev_rules.proofs.events.is_flushed_in.Goals as goal

pub returns-in-Some : goal.returns-in-Some
returns-in-Some g c =
    ap (λ n. nat_le n c.globals.result.flush_limit) c.cas.ensures
    ∙ ap (λ all. nat_le c.in-Some.item.now.cas all.flush_limit) c.globals.ensures
    ∙ ap (is_flushed_item c.args.store.now) c.in-Some.ensures
