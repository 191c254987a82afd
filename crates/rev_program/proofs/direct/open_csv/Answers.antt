use Rattle.std.proofs.Common.{inl, Err}
use Rattle.rev_program.proofs.Ends.{stopped_of, unnoted}
use Rattle.rev_program.proofs.direct.open_csv.Goals as goal

pub returns-in-Some-clause-ends : goal.returns-in-Some-clause-ends
returns-in-Some-clause-ends g c =
    inl (c.ended.ensures.range, unnoted _ _ _ _ _ c.ended.ensures.quiet (λ n. inl (stopped_of _ _ _ _ (Err c.from.result) _ c.ended.ensures.status c.ended.ensures.told n)))

pub returns-in-Err-clause-ends : goal.returns-in-Err-clause-ends
returns-in-Err-clause-ends g c =
    inl (c.ended-in-Err.ensures.range, unnoted _ _ _ _ _ c.ended-in-Err.ensures.quiet (λ n. inl (stopped_of _ _ _ _ (Err c.in-Err.stop) _ c.ended-in-Err.ensures.status c.ended-in-Err.ensures.told n)))
