use Rattle.rev_lead.proofs.Later.{deleted_more, look_up_more, store_as, promised_more}
use Rattle.rev_lead.proofs.Driving.{led_of}
use Rattle.rev_lead.proofs.driver.Driver.event.Goals as goal

pub returns-in_ok-settle-in-LookUp-clause-agrees : goal.returns-in_ok-settle-in-LookUp-clause-agrees
returns-in_ok-settle-in-LookUp-clause-agrees g c = rw c.in-LookUp.is (promised_more c.look_up.result _ _ (look_up_more c.args.stage.now c.settle.new.stage c.look_up.new.stage _ _ _ (led_of _ _ _ _ c.settle.ensures.driven)) c.look_up.ensures.agrees)

pub returns-in_ok-settle-in-Store-clause-agrees : goal.returns-in_ok-settle-in-Store-clause-agrees
returns-in_ok-settle-in-Store-clause-agrees g c = rw c.in-Store.is (promised_more c.store-in-Store.result _ _ (store_as c.args.stage.now c.settle-in-Store.new.stage c.store-in-Store.new.stage _ _ c.logged-storing.result.class _ c.logged-storing.result.outcome c.logged-storing.ensures.class c.logged-storing.ensures.outcome (led_of _ _ _ _ c.settle-in-Store.ensures.driven)) c.store-in-Store.ensures.agrees)

pub returns-in_ok-settle-in-Deletion-clause-agrees : goal.returns-in_ok-settle-in-Deletion-clause-agrees
returns-in_ok-settle-in-Deletion-clause-agrees g c = rw c.in-Deletion.is (promised_more c.delete.result _ _ (deleted_more c.args.stage.now c.settle-in-Deletion.new.stage c.delete.new.stage _ (led_of _ _ _ _ c.settle-in-Deletion.ensures.driven)) c.delete.ensures.agrees)
