use Rattle.std.proofs.Common.{◌≡◌, ◌∙◌, ap}
use Rattle.rev_index.proofs.Widening.{replaced_kept, replaced_new, replaced_value}
use Rattle.rev_index.proofs.growth.replace_ends.Goals as goal

pub enter_all-requires-clause-kept : goal.enter_all-requires-clause-kept
enter_all-requires-clause-kept g c =
    let s = c.args.chains.now in
    let r = c.requires in
    let now : c.replace-old.new.dest.items ≡ c.args.ends.items = ap (λ v. v.items) c.replace-old.ensures.after in
    let was : c.as_slice.result.now ≡ s.ends.items = c.as_slice.ensures.value ∙ ap (λ v. v.items) c.replace-old.ensures.value in
    replaced_kept s.ends.items s.links c.args.items.now r.kept c.args.ends.items r.some r.few r.empty _ _ now was

pub enter_all-requires-clause-new : goal.enter_all-requires-clause-new
enter_all-requires-clause-new g c =
    let s = c.args.chains.now in
    let r = c.requires in
    let now : c.replace-old.new.dest.items ≡ c.args.ends.items = ap (λ v. v.items) c.replace-old.ensures.after in
    let was : c.as_slice.result.now ≡ s.ends.items = c.as_slice.ensures.value ∙ ap (λ v. v.items) c.replace-old.ensures.value in
    replaced_new s.ends.items s.links c.args.items.now r.kept c.args.ends.items r.some r.few r.empty _ _ now was

pub returns-clause-value : goal.returns-clause-value
returns-clause-value g c =
    let s = c.args.chains.now in
    let r = c.requires in
    let now : c.replace-old.new.dest.items ≡ c.args.ends.items = ap (λ v. v.items) c.replace-old.ensures.after in
    let was : c.as_slice.result.now ≡ s.ends.items = c.as_slice.ensures.value ∙ ap (λ v. v.items) c.replace-old.ensures.value in
    replaced_value s.ends.items s.links c.args.items.now r.kept c.args.ends.items r.some r.few r.empty _ _ now was _ c.enter_all.ensures.value
