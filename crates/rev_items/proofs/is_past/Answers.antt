use Rattle.std.proofs.Common.{rules, ◌≡◌, false, ◌&&◌, not, nat_eq, nat_le, refl}
use Rattle.rev_items.proofs.is_past.Goals as goal

pub returns-else-expired : goal.returns-else-expired
returns-else-expired c =
    let alive : (not (nat_eq c.args.moment 0) && nat_le c.args.moment c.args.now) ≡ false = search rules steps 500000 in
    rw alive refl
