use Rattle.std.proofs.Common.{rules, ◌≡◌, ◌++◌, ◌-◌, length, take, ◌∙◌, ap}
use Rattle.rev_script.proofs.Pieces.{kept_room}
use Rattle.rev_script.proofs.raw_line.keep_text.Goals as goal

pub returns-in-Ok : goal.returns-in-Ok
returns-in-Ok g c =
    let n : c.len.result ≡ length c.args.line.now.items = search rules in
    c.in-Ok.ensures.items
    ∙ ap (λ t. c.args.line.now.items ++ t) (c.at_most.ensures ∙ ap (λ k. take (65537 - k) c.args.text.now) n)
    ∙ kept_room 65537 c.args.line.now.items c.args.text.now c.requires
