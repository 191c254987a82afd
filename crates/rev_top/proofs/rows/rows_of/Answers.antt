use Rattle.rev_top.proofs.rows.rows_of.Goals as goal

pub returns : goal.returns
returns g c = record {
  all = c.in_ok-rows.rows.items;
  ranked = c.arrange.new.rows.items;
  lived = c.of_all.result;
  are = c.in_ok-rows.ensures;
  same = c.in_ok-arrange.ensures.same;
  falling = c.in_ok-arrange.ensures.falling;
  told = c.in_ok-cut.ensures;
}
