use Rattle.std.proofs.Common.{◌≡◌, sym, ◌∙◌, arith, false, w32, to_z, of_z, rules}
use Rattle.std.proofs.lemmas.Int.{to_z-of_z}
use Rattle.std.proofs.lemmas.Result.{on_ok_weaker}
use Rattle.rev_import.proofs.Written.{wrote, when, unless, respelled}
use Rattle.rev_import.proofs.scribe.Scribe.write.Goals as goal

pub returns-in-LookUp : goal.returns-in-LookUp
returns-in-LookUp g c = on_ok_weaker c.look_up.result (λ x. wrote _ _ _ _ 0 c.in-LookUp.is (omega arith) c.in_ok-set_clock.ensures x) c.look_up.ensures

pub returns-in-Deletion : goal.returns-in-Deletion
returns-in-Deletion g c = on_ok_weaker c.delete.result (λ x. wrote _ _ false false 0 c.in-Deletion.is (omega arith) c.in_ok-set_clock.ensures x) c.delete.ensures

pub returns-in-PageMove : goal.returns-in-PageMove
returns-in-PageMove g c = on_ok_weaker c.move_page.result (λ x. wrote _ _ false false 0 c.in-PageMove.is (omega arith) c.in_ok-set_clock.ensures x) c.move_page.ensures

pub returns-in-CrawlEnd : goal.returns-in-CrawlEnd
returns-in-CrawlEnd g c = on_ok_weaker c.end_crawl.result (λ x. wrote _ _ false false 0 c.in-CrawlEnd.is (omega arith) c.in_ok-set_clock.ensures x) c.end_crawl.ensures

pub returns-then-is_too_large : goal.returns-then-is_too_large
returns-then-is_too_large g c = on_ok_weaker c.too_large.result
    (λ x. wrote c.args.line.now _ false c.args.guess.deletes 0 c.in-Store.is (omega arith) c.in_ok-set_clock.ensures
    (when _ _ _ (sym c.is_too_large.ensures ∙ c.if-is_too_large.true) x)) c.too_large.ensures

pub returns-else-is_too_large : goal.returns-else-is_too_large
returns-else-is_too_large g c =
    let range : to_z w32 (of_z w32 c.exptime_of-exptime.result) ≡ c.exptime_of-exptime.result = search (rules, to_z-of_z) in
    on_ok_weaker c.store.result
    (λ x. wrote c.args.line.now _ false false c.flags_of-flags.result c.in-Store.is c.flags_of-flags.ensures c.in_ok-set_clock.ensures
    (unless _ _ _ (sym c.is_too_large.ensures ∙ c.if-is_too_large.false)
    (respelled _ _ _ _ _ _ _ c.storing_of-storing.ensures (range ∙ c.exptime_of-exptime.ensures) x))) c.store.ensures
