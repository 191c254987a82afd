use Rattle.rev_intake.proofs.report.put_server.Goals as goal

pub returns : goal.returns
returns g c =
    let last =
    rw (c.in_ok-put_part-5.ensures, c.in_ok-put_part-4.ensures, c.in_ok-put_part-3.ensures, c.in_ok-put_part-2.ensures, c.in_ok-put_part.ensures) at c.put_part-6.ensures in
    last
