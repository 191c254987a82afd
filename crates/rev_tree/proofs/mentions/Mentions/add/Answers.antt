use Rattle.std.proofs.Common.{◌≡◌, ◌⊎◌, ℕ, sym, ◌∙◌, subst}
use Rattle.rev_tree.specs.declared.links.Entry.{Entry}
use Rattle.rev_tree.specs.Mentions.{Holds, Within}
use Rattle.rev_tree.specs.Links.{mention_of}
use Rattle.rev_tree.proofs.Logs.{ready, noted, sound_noted, holds_it, held_more, only_it, within_more}
use Rattle.rev_tree.proofs.mentions.Mentions.add.Goals as goal

abbrev entry : ℕ → ℕ → Entry
entry h n = record { hash = h; node = n; earlier = 0; skip = record { bits = 0 } }

pub link-requires-clause-linked : goal.link-requires-clause-linked
link-requires-clause-linked g c =
    ready c.self.inside.heads.items c.deref_mut.result.now c.self.inside.entries.items c.push.new.self.items c.deref_mut-2.result.now (entry c.args.hash c.args.node) c.len-at.result
    c.deref_mut.ensures.value c.in_ok-push.ensures.items c.deref_mut-2.ensures.value (c.len-at.ensures ∙ c.self.inside.entries.ok.0) c.self.invariant.linked

pub invariant_of-self-2 : goal.invariant_of-self-2
invariant_of-self-2 g c =
    sound_noted c.push.new.self c.self.inside.entries.items c.deref_mut-2.result.now c.link.new.entries (entry c.args.hash c.args.node)
    c.in_ok-push.ensures.items c.deref_mut-2.ensures.value c.link.ensures.mentions c.link.auto.entries
    c.self.inside.heads c.deref_mut.result.now c.link.new.heads c.args.self.now c.len-at.result
    c.deref_mut.ensures.value c.link.auto.heads c.self.view_is (c.len-at.ensures ∙ c.self.inside.entries.ok.0) c.if-at.false
    c.requires c.self.invariant c.link.ensures.linked

pub returns-clause-ok : goal.returns-clause-ok
returns-clause-ok g c =
    let x = entry c.args.hash c.args.node in
    let v = noted c.push.new.self c.self.inside.entries.items c.deref_mut-2.result.now c.link.new.entries x
    c.in_ok-push.ensures.items c.deref_mut-2.ensures.value c.link.ensures.mentions c.link.auto.entries c.args.self.now c.self.view_is in
    subst (λ ms. Holds ms c.args.hash c.args.node) (sym v) (holds_it c.args.self.now (mention_of x))

pub returns-clause-kept : goal.returns-clause-kept
returns-clause-kept g c =
    let x = entry c.args.hash c.args.node in
    let v = noted c.push.new.self c.self.inside.entries.items c.deref_mut-2.result.now c.link.new.entries x
    c.in_ok-push.ensures.items c.deref_mut-2.ensures.value c.link.ensures.mentions c.link.auto.entries c.args.self.now c.self.view_is in
    subst (λ ms. (h n : ℕ) → Holds c.args.self.now h n → Holds ms h n) (sym v) (held_more c.args.self.now (mention_of x))

pub returns-clause-only : goal.returns-clause-only
returns-clause-only g c =
    let x = entry c.args.hash c.args.node in
    let v = noted c.push.new.self c.self.inside.entries.items c.deref_mut-2.result.now c.link.new.entries x
    c.in_ok-push.ensures.items c.deref_mut-2.ensures.value c.link.ensures.mentions c.link.auto.entries c.args.self.now c.self.view_is in
    subst (λ ms. (h n : ℕ) → Holds ms h n → Holds c.args.self.now h n ⊎ ((h ≡ c.args.hash) × (n ≡ c.args.node))) (sym v) (only_it c.args.self.now (mention_of x))

pub returns-clause-within : goal.returns-clause-within
returns-clause-within g c =
    let x = entry c.args.hash c.args.node in
    let v = noted c.push.new.self c.self.inside.entries.items c.deref_mut-2.result.now c.link.new.entries x
    c.in_ok-push.ensures.items c.deref_mut-2.ensures.value c.link.ensures.mentions c.link.auto.entries c.args.self.now c.self.view_is in
    subst (λ ms. Within ms c.args.node) (sym v) (within_more c.args.self.now (mention_of x) c.requires)
