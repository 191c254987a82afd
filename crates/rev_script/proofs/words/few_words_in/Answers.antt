use Rattle.std.proofs.Common.{◌≡◌, ◌↔◌, ℕ, ◌<◌, List, length, get_or, take, sym, ◌∙◌, ap, arith}
use Rattle.std.proofs.lemmas.List.{get_or-take}
use Rattle.rev_script.proofs.words.few_words_in.Goals as goal

told_of : (text front : List ℕ) (k bit : ℕ) → text ≡ take (length text) front → k < length text → (bit ≡ 1) ↔ (get_or front k 0 ≡ 32) → (bit ≡ 1) ↔ (get_or text k 0 ≡ 32)
told_of text front k bit e l t =
    let at : get_or text k 0 ≡ get_or front k 0 = ap (λ x. get_or x k 0) e ∙ get_or-take (length text) front k 0 l in
    (λ h. at ∙ t.0 h, λ h. t.1 (sym at ∙ h))

pub few_words_by-requires-clause-tells : goal.few_words_by-requires-clause-tells
few_words_by-requires-clause-tells c k l =
    told_of c.args.text.now c.args.front.now k _ c.requires.begins l (c.space_mask.ensures k (omega (arith, c.if-text-le-MASK_BYTES.true)))
