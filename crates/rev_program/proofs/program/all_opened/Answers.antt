use Rattle.std.proofs.Common.{◌≡◌, List, [], ◌∷◌, ◌++◌, map, length, length-append, refl, sym, subst, ap, arith, ◌∙◌, append-nil}
use Rattle.rev_program.proofs.Running.{names_more}
use Rattle.rev_program.proofs.program.all_opened.Goals as goal

no_items : {X : Type 0} (xs : List X) → length xs ≡ 0 → xs ≡ []
no_items [] e = refl
no_items (x ∷ xs) e = absurd (omega (arith, e))

pub returns-clause-names : goal.returns-clause-names
returns-clause-names g c =
    let rest = c.loop-name.name-iterator.rest in
    let none : rest.items ≡ [] = no_items rest.items (omega (arith, rest.ok.0, c.in-None.ensures.steps.0)) in
    sym (append-nil _) ∙ ap (λ l. map (λ file. file.0) c.loop-name.files.items ++ l) (sym none) ∙ c.loop-name.invariant.1

pub loop-name-preserved : goal.loop-name-preserved
loop-name-preserved g c =
    let files = c.loop-name.files.items in
    let file = c.in_ok-file.file in
    let more = c.next.new.self.rest.items in
    let step : c.loop-name.name-iterator.rest.items ≡ c.in-Some.name ∷ more = c.in-Some.ensures.steps.0 in
    let pushed : c.push.new.self.items ≡ files ++ file ∷ [] = rw c.if-is_err.ensures.negation at c.push.ensures.items in (
      omega (arith, ap (λ l. length l) pushed, length-append files (file ∷ []), ap (λ l. length l) step, c.loop-name.invariant.0),
      subst (λ l. map (λ f. f.0) l ++ more ≡ c.args.names.items) (sym pushed) (names_more files file c.in-Some.name c.loop-name.name-iterator.rest.items more c.args.names.items c.in_ok-file.ensures step c.loop-name.invariant.1),
    )
