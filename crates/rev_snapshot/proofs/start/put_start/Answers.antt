use Rattle.std.proofs.lemmas.Result.{on_ok_weaker}
use Rattle.rev_import.proofs.Written.{actor, more}
use Rattle.rev_snapshot.proofs.Starting.{starts, more_fills}
use Rattle.rev_snapshot.proofs.start.put_start.Goals as goal

pub returns : goal.returns
returns g c =
    on_ok_weaker c.put_temp_ttl-2.result
    (λ x. starts _ (actor _ c.in_ok-put_temp_ttl.ensures) (more_fills c.in_ok-put_all_pages.ensures c.in_ok-put_all_pages-2.ensures) c.in_ok-put_items.ensures
    (more c.in_ok-set_clock.ensures (more c.in_ok-put_shares.ensures (more c.in_ok-put_leaving.ensures (more c.in_ok-put_shares_of.ensures (actor _ x))))))
    c.put_temp_ttl-2.ensures
