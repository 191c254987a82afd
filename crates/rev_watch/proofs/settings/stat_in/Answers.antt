use Rattle.std.proofs.Common.{◌≡◌, ◌∙◌, MatchResult, Ok, Err, length, sym, ap, subst, refl, arith}
use Rattle.rev_watch.proofs.WordLemmas.{cut-some, cut-none, past-shorter, next_stat, stat_twice, stat_kept, stat_none, stat_end}
use Rattle.rev_watch.specs.Settings.{stat_in, stat_name}
use Rattle.rev_watch.proofs.settings.stat_in.Goals as goal

pub returns-in_default : goal.returns-in_default
returns-in_default c =
    subst (λ r. MatchResult r (λ v. stat_in c.args.stat c.args.text.now ≡ Ok v.now) (λ e. stat_in c.args.stat c.args.text.now ≡ Err e)) (sym c.ok_or.ensures.value)
    (stat_end c.args.stat c.args.text.now c.lines.rest.now c.lines.found c.lines.invariant (cut-none 10 c.lines.rest.now c.cut.result.1 c.cut.ensures.back c.in_default.is))

pub returns-then-is_some : goal.returns-then-is_some
returns-then-is_some c =
    let s = cut-some 10 c.lines.rest.now c.cut.result.1 c.in-Some.behind c.cut.ensures.back c.in-Some.is in
    stat_twice c.args.stat c.args.text.now c.lines.found c.stat_value.result c.in-Some-stat_value.value _
    (next_stat (stat_name c.args.stat) c.as_bytes-name.result.now c.args.text.now c.lines.rest.now c.cut.result.0.now c.in-Some.behind.now _ _
    (c.as_bytes-name.ensures.value ∙ c.name.ensures) s.0 c.cut.ensures.front s.1 c.lines.invariant c.stat_value.ensures)
    (sym c.is_some.ensures ∙ c.if-is_some.true) c.in-Some-stat_value.is

pub lines-smaller-else-is_some : goal.lines-smaller-else-is_some
lines-smaller-else-is_some c =
    let s = cut-some 10 c.lines.rest.now c.cut.result.1 c.in-Some.behind c.cut.ensures.back c.in-Some.is in
    omega (arith, past-shorter 10 c.lines.rest.now s.0, ap length s.1)

pub lines-preserved-else-is_some : goal.lines-preserved-else-is_some
lines-preserved-else-is_some c =
    let s = cut-some 10 c.lines.rest.now c.cut.result.1 c.in-Some.behind c.cut.ensures.back c.in-Some.is in
    stat_kept (stat_name c.args.stat) c.args.text.now c.in-Some.behind.now c.lines.found c.stat_value.result _ c.in-Some-stat_value.value
    (next_stat (stat_name c.args.stat) c.as_bytes-name.result.now c.args.text.now c.lines.rest.now c.cut.result.0.now c.in-Some.behind.now _ _
    (c.as_bytes-name.ensures.value ∙ c.name.ensures) s.0 c.cut.ensures.front s.1 c.lines.invariant c.stat_value.ensures)
    (sym c.is_some.ensures ∙ c.if-is_some.false) c.in-Some-stat_value.is refl

pub lines-smaller : goal.lines-smaller
lines-smaller c =
    let s = cut-some 10 c.lines.rest.now c.cut.result.1 c.in-Some.behind c.cut.ensures.back c.in-Some.is in
    omega (arith, past-shorter 10 c.lines.rest.now s.0, ap length s.1)

pub lines-preserved : goal.lines-preserved
lines-preserved c =
    let s = cut-some 10 c.lines.rest.now c.cut.result.1 c.in-Some.behind c.cut.ensures.back c.in-Some.is in
    stat_none (stat_name c.args.stat) c.args.text.now c.in-Some.behind.now c.lines.found c.stat_value.result
    (next_stat (stat_name c.args.stat) c.as_bytes-name.result.now c.args.text.now c.lines.rest.now c.cut.result.0.now c.in-Some.behind.now _ _
    (c.as_bytes-name.ensures.value ∙ c.name.ensures) s.0 c.cut.ensures.front s.1 c.lines.invariant c.stat_value.ensures)
    c.in_default-stat_value.is
