use Rattle.std.proofs.Common.{rules, ◌≡◌, ◌↔◌, ◌∙◌, IsTrue, take, sym}
use Rattle.rev_items.proofs.Padded.{as_long, alike}
use Rattle.rev_items.specs.Bytes.{IsPadded}
use Rattle.rev_items.proofs.bytes.Bytes.is_same.Goals as goal

pub returns-then-length-other_length : goal.returns-then-length-other_length
returns-then-length-other_length g c =
    let p = c.in-Inline-Inline in
    let here : IsPadded p.length p.bytes = search rules in
    let there : IsPadded p.other_length p.other_bytes = search rules in
    let a : c.args.self.now ≡ take p.length p.bytes = search rules in
    let b : c.args.other.now ≡ take p.other_length p.other_bytes = search rules in
    let all : IsTrue c.eq.result ↔ (p.bytes ≡ p.other_bytes) = search rules in
    let as_many = c.if-length-other_length.true in
    (λ t. a ∙ rw (as_many, all.0 t) (sym b), λ e. all.1 (alike p.length p.other_length p.bytes p.other_bytes as_many here there (sym a ∙ e ∙ b)))

pub returns-else-length-other_length : goal.returns-else-length-other_length
returns-else-length-other_length g c =
    let p = c.in-Inline-Inline in
    let here : IsPadded p.length p.bytes = search rules in
    let there : IsPadded p.other_length p.other_bytes = search rules in
    let a : c.args.self.now ≡ take p.length p.bytes = search rules in
    let b : c.args.other.now ≡ take p.other_length p.other_bytes = search rules in
    let never : c.args.self.now ≡ c.args.other.now → ⊥ = λ e. c.if-length-other_length.false (as_long p.length p.other_length p.bytes p.other_bytes here there (sym a ∙ e ∙ b)) in
    search rules
