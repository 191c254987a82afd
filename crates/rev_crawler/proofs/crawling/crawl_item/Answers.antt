use Rattle.std.specs.Prelude.{None, true, false, IfOk}
use Rattle.std.proofs.Common.{sym, ◌∙◌, subst}
use Rattle.rev_model.specs.State.{queue_of, item_at}
use Rattle.rev_model.proofs.Places.{glanced}
use Rattle.rev_model.specs.declared.Entry.TheVariants.{Chunk, Mark}
use Rattle.rev_inverse.specs.Telling.{TellsAll}
use Rattle.rev_crawler.proofs.Passing.{before_there, entry_stands, answers, answers_same, no_item, death, crawl_none, crawl_none-told, crawl_dead, crawl_dead-told, crawl_alive, crawl_alive-told}
use Rattle.rev_crawler.proofs.crawling.crawl_item.Goals as goal

pub reclaim-requires-clause-stands : goal.reclaim-requires-clause-stands
reclaim-requires-clause-stands g c =
    entry_stands c.args.store.now None c.requires.sound c.args.class c.requires.class c.args.queue c.args.chunk
    (before_there Mark (Chunk c.args.chunk) (queue_of c.args.store.now c.args.class c.args.queue) c.requires.entry)

pub returns-in-None-clause-step : goal.returns-in-None-clause-step
returns-in-None-clause-step g c =
    let s = c.args.store.now in
    let e = no_item (item_at s c.args.chunk) (sym c.header.ensures ∙ c.in-None.is) in
    answers_same c.unchanged.result s _ _ (crawl_none s c.args.class c.args.queue c.args.chunk e) c.unchanged.ensures.outcome

pub returns-in-None-clause-told : goal.returns-in-None-clause-told
returns-in-None-clause-told g c =
    let s = c.args.store.now in
    let e = no_item (item_at s c.args.chunk) (sym c.header.ensures ∙ c.in-None.is) in
    subst (λ rs. IfOk c.unchanged.result (λ p. TellsAll p.1 c.args.store.now rs)) (crawl_none-told s c.args.class c.args.queue c.args.chunk e) c.unchanged.ensures.told

pub returns-then-is_dead-clause-step : goal.returns-then-is_dead-clause-step
returns-then-is_dead-clause-step g c =
    let s = c.args.store.now in
    let w = glanced (item_at s c.args.chunk) c.in-Some.item (sym c.header.ensures ∙ c.in-Some.is) in
    let dead = death c.globals.result s.globals w.0 c.in-Some.item true c.globals.ensures w.2 (sym c.is_dead.ensures ∙ c.if-is_dead.true) in
    answers c.reclaim.result c.reclaim.new.store _ _ _ (crawl_dead s c.args.class c.args.queue c.args.chunk w.0 w.1 dead) (c.reclaim.ensures.step w.0 w.1)

pub returns-then-is_dead-clause-told : goal.returns-then-is_dead-clause-told
returns-then-is_dead-clause-told g c =
    let s = c.args.store.now in
    let w = glanced (item_at s c.args.chunk) c.in-Some.item (sym c.header.ensures ∙ c.in-Some.is) in
    let dead = death c.globals.result s.globals w.0 c.in-Some.item true c.globals.ensures w.2 (sym c.is_dead.ensures ∙ c.if-is_dead.true) in
    subst (λ rs. IfOk c.reclaim.result (λ p. TellsAll p.1 c.reclaim.new.store rs)) (crawl_dead-told s c.args.class c.args.queue c.args.chunk w.0 w.1 dead) c.reclaim.ensures.told

pub returns-else-is_dead-clause-step : goal.returns-else-is_dead-clause-step
returns-else-is_dead-clause-step g c =
    let s = c.args.store.now in
    let w = glanced (item_at s c.args.chunk) c.in-Some.item (sym c.header.ensures ∙ c.in-Some.is) in
    let alive = death c.globals.result s.globals w.0 c.in-Some.item false c.globals.ensures w.2 (sym c.is_dead.ensures ∙ c.if-is_dead.false) in
    answers c.pass.result c.pass.new.store _ _ _ (crawl_alive s c.args.class c.args.queue c.args.chunk w.0 w.1 alive) c.pass.ensures.step

pub returns-else-is_dead-clause-told : goal.returns-else-is_dead-clause-told
returns-else-is_dead-clause-told g c =
    let s = c.args.store.now in
    let w = glanced (item_at s c.args.chunk) c.in-Some.item (sym c.header.ensures ∙ c.in-Some.is) in
    let alive = death c.globals.result s.globals w.0 c.in-Some.item false c.globals.ensures w.2 (sym c.is_dead.ensures ∙ c.if-is_dead.false) in
    subst (λ rs. IfOk c.pass.result (λ p. TellsAll p.1 c.pass.new.store rs)) (crawl_alive-told s c.args.class c.args.queue c.args.chunk w.0 w.1 alive) c.pass.ensures.told
