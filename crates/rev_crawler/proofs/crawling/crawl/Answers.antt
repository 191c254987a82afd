use Rattle.std.specs.Prelude.{◌≡◌, None, Some, IfOk}
use Rattle.std.proofs.Common.{sym, ◌∙◌, subst, rules}
use Rattle.rev_model.specs.Chunk.{same_entry}
use Rattle.rev_model.specs.Lists.{before}
use Rattle.rev_model.specs.State.{State, queue_of}
use Rattle.rev_model.specs.declared.Outcome.{Outcome}
use Rattle.rev_model.specs.declared.Entry.TheVariants.{Chunk, Mark}
use Rattle.rev_inverse.specs.Telling.{TellsAll}
use Rattle.rev_crawler.proofs.Marking.{class_is}
use Rattle.rev_crawler.proofs.Passing.{answers_same, crawl_bad, crawl_bad-told, crawl_idle, crawl_idle-told, crawl_is, crawl_is-told}
use Rattle.rev_crawler.proofs.crawling.crawl.Goals as goal

pub returns-then-not-is_class-clause-step : goal.returns-then-not-is_class-clause-step
returns-then-not-is_class-clause-step g c = answers_same c.unchanged.result c.args.store.now _ _ (crawl_bad c.args.store.now c.args.class c.args.queue (sym c.is_class.ensures ∙ c.if-not-is_class.true)) c.unchanged.ensures.outcome

pub returns-then-not-is_class-clause-told : goal.returns-then-not-is_class-clause-told
returns-then-not-is_class-clause-told g c = subst (λ rs. IfOk c.unchanged.result (λ p. TellsAll p.1 c.args.store.now rs)) (crawl_bad-told c.args.store.now c.args.class c.args.queue (sym c.is_class.ensures ∙ c.if-not-is_class.true)) c.unchanged.ensures.told

pub returns-then-not-has_mark-clause-step : goal.returns-then-not-has_mark-clause-step
returns-then-not-has_mark-clause-step g c = answers_same c.unchanged-then-not-has_mark.result c.args.store.now _ _ (crawl_idle c.args.store.now c.args.class c.args.queue (sym c.is_class.ensures ∙ c.if-not-is_class.false) (sym c.has_mark.ensures ∙ c.if-not-has_mark.true)) c.unchanged-then-not-has_mark.ensures.outcome

pub returns-then-not-has_mark-clause-told : goal.returns-then-not-has_mark-clause-told
returns-then-not-has_mark-clause-told g c = subst (λ rs. IfOk c.unchanged-then-not-has_mark.result (λ p. TellsAll p.1 c.args.store.now rs)) (crawl_idle-told c.args.store.now c.args.class c.args.queue (sym c.is_class.ensures ∙ c.if-not-is_class.false) (sym c.has_mark.ensures ∙ c.if-not-has_mark.true)) c.unchanged-then-not-has_mark.ensures.told

pub returns-in-None-clause-step : goal.returns-in-None-clause-step
returns-in-None-clause-step g c = subst (λ (z : State × Outcome). IfOk c.end.result (λ p. (c.end.new.store, p.0) ≡ z)) (crawl_is c.args.store.now c.args.class c.args.queue (sym c.is_class.ensures ∙ c.if-not-is_class.false) (sym c.has_mark.ensures ∙ c.if-not-has_mark.false) None (sym c.before-2.ensures ∙ c.in-None.is)) c.end.ensures.step

pub returns-in-None-clause-told : goal.returns-in-None-clause-told
returns-in-None-clause-told g c = subst (λ rs. IfOk c.end.result (λ p. TellsAll p.1 c.end.new.store rs)) (crawl_is-told c.args.store.now c.args.class c.args.queue (sym c.is_class.ensures ∙ c.if-not-is_class.false) (sym c.has_mark.ensures ∙ c.if-not-has_mark.false) None (sym c.before-2.ensures ∙ c.in-None.is)) c.end.ensures.told

pub returns-in-Some-Chunk-clause-step : goal.returns-in-Some-Chunk-clause-step
returns-in-Some-Chunk-clause-step g c =
    let e : before same_entry Mark (queue_of c.args.store.now c.args.class c.args.queue) ≡ Some (Chunk c.in-Some-Chunk.chunk) = search rules in
    subst (λ (z : State × Outcome). IfOk c.crawl_item.result (λ p. (c.crawl_item.new.store, p.0) ≡ z)) (crawl_is c.args.store.now c.args.class c.args.queue (sym c.is_class.ensures ∙ c.if-not-is_class.false) (sym c.has_mark.ensures ∙ c.if-not-has_mark.false) (Some (Chunk c.in-Some-Chunk.chunk)) e) c.crawl_item.ensures.step

pub returns-in-Some-Chunk-clause-told : goal.returns-in-Some-Chunk-clause-told
returns-in-Some-Chunk-clause-told g c =
    let e : before same_entry Mark (queue_of c.args.store.now c.args.class c.args.queue) ≡ Some (Chunk c.in-Some-Chunk.chunk) = search rules in
    subst (λ rs. IfOk c.crawl_item.result (λ p. TellsAll p.1 c.crawl_item.new.store rs)) (crawl_is-told c.args.store.now c.args.class c.args.queue (sym c.is_class.ensures ∙ c.if-not-is_class.false) (sym c.has_mark.ensures ∙ c.if-not-has_mark.false) (Some (Chunk c.in-Some-Chunk.chunk)) e) c.crawl_item.ensures.told

pub end-requires-clause-class : goal.end-requires-clause-class
end-requires-clause-class g c = class_is c.args.store.now c.args.class (sym c.is_class.ensures ∙ c.if-not-is_class.false)

pub crawl_item-requires-clause-class : goal.crawl_item-requires-clause-class
crawl_item-requires-clause-class g c = class_is c.args.store.now c.args.class (sym c.is_class.ensures ∙ c.if-not-is_class.false)
