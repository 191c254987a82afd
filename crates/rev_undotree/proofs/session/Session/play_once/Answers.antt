use Rattle.std.proofs.Common.{ℕ, List, rules, ◌≡◌, ◌+◌, length, arith, ap, ◌∙◌, sym, refl, add-one, eqb, subst}
use Rattle.rev_tree.specs.Steps.{State, outcome_of}
use Rattle.rev_tree.specs.Tree.{PlainNode, PlainBranch}
use Rattle.rev_tree.specs.States.{rewind}
use Rattle.rev_tree.specs.Rows.{rows_of, number_at}
use Rattle.rev_tree.specs.Positions.{SessionState}
use Rattle.rev_tree.specs.Mentioned.{Noted}
use Rattle.rev_tree.specs.declared.junction.Junction.{Junction}
use Rattle.rev_tree.specs.declared.mention.Mention.{Mention}
use Rattle.rev_tree.specs.Runs.{node_of}
use Rattle.rev_steps.specs.Plain.{plain_step}
use Rattle.rev_tree.proofs.Turns.{step_next, step_outcome, undoes_applied}
use Rattle.rev_tree.specs.Ways.{reach}
use Rattle.rev_tree.specs.Index.{PlainIndex}
use Rattle.rev_tree.proofs.Indexes.{index_grown}
use Rattle.rev_undotree.proofs.Mentioned.{play_noted, noted_more}
use Rattle.rev_tree.proofs.Positions.{stands_way, stands_within, stands_at}
use Rattle.rev_tree.proofs.Growth.{kept_sound, length_rows, play_kept, play_state}
use Rattle.rev_tree.proofs.Machine.{kept_tree, kept_path, goes_on_is, deep_is, deep_not}
use Rattle.rev_tree.specs.Mentions.{Within}
use Rattle.rev_tree.proofs.Junctions.{held_number}
use Rattle.rev_undotree.proofs.session.Session.play_once.Goals as goal

-- a session with all its parts as they were
state_back : (t u : State) (b c : PlainBranch) (w v : List Junction) (k j issued : ℕ) → u ≡ t → c ≡ b → v ≡ w → j ≡ k →
    ◌≡◌ {A = SessionState} (record { root = rewind c v j u; rows = rows_of issued c; current = number_at c v j }) (record { root = rewind b w k t; rows = rows_of issued b; current = number_at b w k })
state_back t u b c w v k j issued e f g h = rw (e, f, g, h) refl

noted_back : (t u : State) (b c : PlainBranch) (w v : List Junction) (k j issued : ℕ) (ms : List Mention) (i l : PlainIndex) → u ≡ t → c ≡ b → v ≡ w → j ≡ k → l ≡ i → Noted (rewind b w k t) t b w k issued ms i → Noted (rewind c v j u) u c v j issued ms l
noted_back t u b c w v k j issued ms i l e f g h x n = rw (e, f, g, h, x) n

pub has_room-requires : goal.has_room-requires
has_room-requires g c = stands_way _ _ _ _ _ c.self.invariant.kept.stands

pub apply-requires : goal.apply-requires
apply-requires g c = kept_sound _ _ _ _ _ _ c.self.invariant.kept

pub add-requires-clause-way : goal.add-requires-clause-way
add-requires-clause-way g c = stands_way _ _ _ _ _ c.self.invariant.kept.stands

pub add-requires-clause-within : goal.add-requires-clause-within
add-requires-clause-within g c = λ n held. subst (Within c.self.inside.mentions) (ap held_number held) c.self.invariant.within

pub invariant_of-self-in-Ok-add : goal.invariant_of-self-in-Ok-add
invariant_of-self-in-Ok-add g c =
    let i = c.self.inside.position in
    let made : PlainNode = node_of record { number = c.self.inside.issued + 1; step = plain_step c.args.step; outcome = c.in-Ok.outcome } c.in-Ok.undo in
    let n = c.add.new.position in
    let q = eqb i.here (length (reach i.base i.way.items).run) in
    let m = c.in-Ok-add.ensures.ok made refl _ i.store c.self.invariant.kept.stands (step_next _ _ _ _ c.in-Ok.ensures.step) (undoes_applied _ _ _ _ _ c.in-Ok.ensures.sound (kept_sound _ _ _ _ _ _ c.self.invariant.kept) c.in-Ok.ensures.step c.in-Ok.ensures.leads c.in-Ok.ensures.told) (step_outcome _ _ _ _ c.in-Ok.ensures.step) in
    let f = c.self.invariant.kept.few in
    let k = play_kept _ i.store n.store i.base n.base i.way.items n.way.items i.here n.here c.self.inside.issued (c.self.inside.issued + 1) (plain_step c.args.step) c.self.invariant.kept (omega (arith, f)) (add-one c.self.inside.issued) q m in
    let v = play_state _ i.store n.store i.base n.base i.way.items n.way.items i.here n.here c.self.inside.issued (c.self.inside.issued + 1) (plain_step c.args.step) c.self.invariant.kept (add-one c.self.inside.issued) q q refl m in
    play_noted _ i.store _ n.store _ i.base n.base i.way.items n.way.items i.here n.here c.self.inside.issued (c.self.inside.issued + 1) (plain_step c.args.step) q c.in-Ok.outcome c.in-Ok.undo _ _ i.index n.index c.self.invariant k (add-one c.self.inside.issued)
    (ap (λ z. z.root) v) (ap (λ z. z.rows) v)
    (record { before = kept_sound _ _ _ _ _ _ c.self.invariant.kept; sound = c.in-Ok.ensures.sound; stepped = ap (λ p. p.0) c.in-Ok.ensures.step; answered = ap (λ p. p.1) c.in-Ok.ensures.step; leads = c.in-Ok.ensures.leads; told = c.in-Ok.ensures.told.told })
    (c.in-Ok-add.ensures.named made refl) (c.add.ensures.grows made refl).kept (c.add.ensures.grows made refl).within
    (index_grown _ i.store n.store _ i.base n.base i.way.items n.way.items i.here n.here c.self.inside.issued (c.self.inside.issued + 1) i.index n.index (plain_step c.args.step) q (add-one c.self.inside.issued) c.self.invariant.kept k m c.self.invariant.indexed c.in-Ok-add.ensures.notes)

pub returns-in-Ok-add-clause-ok : goal.returns-in-Ok-add-clause-ok
returns-in-Ok-add-clause-ok g c =
    let i = c.self.inside.position in
    let made : PlainNode = node_of record { number = c.self.inside.issued + 1; step = plain_step c.args.step; outcome = c.in-Ok.outcome } c.in-Ok.undo in
    let n = c.add.new.position in
    let m = c.in-Ok-add.ensures.ok made refl _ i.store c.self.invariant.kept.stands (step_next _ _ _ _ c.in-Ok.ensures.step) (undoes_applied _ _ _ _ _ c.in-Ok.ensures.sound (kept_sound _ _ _ _ _ _ c.self.invariant.kept) c.in-Ok.ensures.step c.in-Ok.ensures.leads c.in-Ok.ensures.told) (step_outcome _ _ _ _ c.in-Ok.ensures.step) in
    let k = goes_on_is c.self.inside.issued i.base i.way.items i.here (kept_tree _ _ _ _ _ _ c.self.invariant.kept) (kept_path _ _ _ _ _ _ c.self.invariant.kept) c.self.invariant.kept.proper in
    rw (← c.self.view_is) (play_state _ i.store n.store i.base n.base i.way.items n.way.items i.here n.here c.self.inside.issued (c.self.inside.issued + 1) (plain_step c.args.step) c.self.invariant.kept (add-one c.self.inside.issued) (eqb i.here (length (reach i.base i.way.items).run)) _ k m)

pub returns-in-Ok-add-clause-node : goal.returns-in-Ok-add-clause-node
returns-in-Ok-add-clause-node g c = rw (← c.self.view_is) (ap (λ z. z + 1) (sym (length_rows c.self.inside.issued c.self.inside.position.base)))

pub returns-in-Ok-add-clause-outcome : goal.returns-in-Ok-add-clause-outcome
returns-in-Ok-add-clause-outcome g c =
    let i = c.self.inside.position in
    rw (← c.self.view_is) (step_outcome _ _ _ _ c.in-Ok.ensures.step ∙ ap (λ z. outcome_of z (plain_step c.args.step)) (stands_at _ i.store i.base i.way.items i.here c.self.inside.issued c.self.invariant.kept))

pub add-requires-clause-within_run : goal.add-requires-clause-within_run
add-requires-clause-within_run g c = stands_within _ _ _ _ _ c.self.invariant.kept.stands

pub add-requires-clause-room : goal.add-requires-clause-room
add-requires-clause-room g c = c.has_room.ensures.value.0 (let h = c.if-not-has_room.false in cc)

pub returns-then-self-eq-MAX_NODES-clause-many : goal.returns-then-self-eq-MAX_NODES-clause-many
returns-then-self-eq-MAX_NODES-clause-many g c = (λ _. rw (← c.self.view_is) (length_rows c.self.inside.issued c.self.inside.position.base ∙ c.if-self-eq-MAX_NODES.true), λ _. refl)

pub returns-then-self-eq-MAX_NODES-clause-deep : goal.returns-then-self-eq-MAX_NODES-clause-deep
returns-then-self-eq-MAX_NODES-clause-deep g c = (
  λ e. cc,
  λ p.
      let q = rw (← c.self.view_is) at p.0 in
      let l = length_rows c.self.inside.issued c.self.inside.position.base in
      let h = c.if-self-eq-MAX_NODES.true in absurd (omega (arith, q, l, h)),
)

pub returns-then-not-has_room-clause-many : goal.returns-then-not-has_room-clause-many
returns-then-not-has_room-clause-many g c = (
  λ e. cc,
  λ p.
      let q = rw (← c.self.view_is) at p in
      let l = length_rows c.self.inside.issued c.self.inside.position.base in
      let h = c.if-self-eq-MAX_NODES.false in absurd (omega (arith, q, l, h)),
)

pub returns-then-not-has_room-clause-deep : goal.returns-then-not-has_room-clause-deep
returns-then-not-has_room-clause-deep g c =
    let i = c.self.inside.position in
    let l = length_rows c.self.inside.issued i.base in
    let h = c.if-self-eq-MAX_NODES.false in
    let f = c.self.invariant.kept.few in
    let d = deep_is c.self.inside.issued i.base i.way.items i.here (kept_tree _ _ _ _ _ _ c.self.invariant.kept) (kept_path _ _ _ _ _ _ c.self.invariant.kept) c.self.invariant.kept.proper c.has_room.ensures.fits (λ y. let z = c.has_room.ensures.value.1 y in let x = c.if-not-has_room.true in cc) in
    (λ _. rw (← c.self.view_is) (omega (arith, l, h, f), d), λ _. refl)

pub returns-in_default-clause-many : goal.returns-in_default-clause-many
returns-in_default-clause-many g c = (
  λ e. cc,
  λ p.
      let q = rw (← c.self.view_is) at p in
      let l = length_rows c.self.inside.issued c.self.inside.position.base in
      let h = c.if-self-eq-MAX_NODES.false in absurd (omega (arith, q, l, h)),
)

pub returns-in_default-clause-deep : goal.returns-in_default-clause-deep
returns-in_default-clause-deep g c =
    let i = c.self.inside.position in
    let d = deep_not c.self.inside.issued i.base i.way.items i.here (kept_tree _ _ _ _ _ _ c.self.invariant.kept) (kept_path _ _ _ _ _ _ c.self.invariant.kept) c.self.invariant.kept.proper c.has_room.ensures.fits (c.has_room.ensures.value.0 (let h = c.if-not-has_room.false in cc)) in
    (λ e. cc, λ p. let q = rw (← c.self.view_is) at p.1 in absurd (omega (arith, q, d)))

pub returns-in-Ok-add-clause-many : goal.returns-in-Ok-add-clause-many
returns-in-Ok-add-clause-many g c = (
  λ e. absurd e,
  λ p.
      let q = rw (← c.self.view_is) at p in
      let l = length_rows c.self.inside.issued c.self.inside.position.base in
      let h = c.if-self-eq-MAX_NODES.false in omega (arith, q, l, h),
)

pub returns-in-Ok-add-clause-deep : goal.returns-in-Ok-add-clause-deep
returns-in-Ok-add-clause-deep g c =
    let i = c.self.inside.position in
    let d = deep_not c.self.inside.issued i.base i.way.items i.here (kept_tree _ _ _ _ _ _ c.self.invariant.kept) (kept_path _ _ _ _ _ _ c.self.invariant.kept) c.self.invariant.kept.proper c.has_room.ensures.fits (c.has_room.ensures.value.0 (let h = c.if-not-has_room.false in cc)) in
    (λ e. absurd e, λ p. let q = rw (← c.self.view_is) at p.1 in omega (arith, q, d))

pub returns-in-Some-clause-many : goal.returns-in-Some-clause-many
returns-in-Some-clause-many g c = (
  λ e. cc,
  λ p.
      let q = rw (← c.self.view_is) at p in
      let l = length_rows c.self.inside.issued c.self.inside.position.base in
      let h = c.if-self-eq-MAX_NODES.false in absurd (omega (arith, q, l, h)),
)

pub returns-in-Some-clause-deep : goal.returns-in-Some-clause-deep
returns-in-Some-clause-deep g c =
    let i = c.self.inside.position in
    let d = deep_not c.self.inside.issued i.base i.way.items i.here (kept_tree _ _ _ _ _ _ c.self.invariant.kept) (kept_path _ _ _ _ _ _ c.self.invariant.kept) c.self.invariant.kept.proper c.has_room.ensures.fits (c.has_room.ensures.value.0 (let h = c.if-not-has_room.false in cc)) in
    (λ e. cc, λ p. let q = rw (← c.self.view_is) at p.1 in absurd (omega (arith, q, d)))

pub invariant_of-self-in-Some : goal.invariant_of-self-in-Some
invariant_of-self-in-Some g c =
    let i = c.self.inside.position in
    let made : PlainNode = node_of record { number = c.self.inside.issued + 1; step = plain_step c.args.step; outcome = c.in-Ok.outcome } c.in-Ok.undo in
    let e = c.in-Err.ensures.err in
    let s : c.turn.new.self ≡ i.store = search rules steps 4000000 in
    let n = c.add.new.position in
    noted_back i.store c.turn.new.self i.base n.base i.way.items n.way.items i.here n.here c.self.inside.issued _ i.index n.index s e.1 (ap (λ z. z.items) e.2) e.3 c.in-Err.ensures.index (noted_more _ _ _ _ _ _ _ _ i.index c.self.invariant (c.add.ensures.grows made refl).kept (c.add.ensures.grows made refl).within)

pub invariant_of-self : goal.invariant_of-self
invariant_of-self g c = rw c.in_default.ensures.err c.self.invariant

pub returns-then-not-has_room-clause-err : goal.returns-then-not-has_room-clause-err
returns-then-not-has_room-clause-err g c = refl

pub returns-in_default-clause-err : goal.returns-in_default-clause-err
returns-in_default-clause-err g c = rw c.in_default.ensures.err c.self.view_is

pub returns-in-Some-clause-err : goal.returns-in-Some-clause-err
returns-in-Some-clause-err g c =
    let i = c.self.inside.position in
    let n = c.add.new.position in
    let e = c.in-Err.ensures.err in
    let s : c.turn.new.self ≡ i.store = search rules steps 4000000 in
    state_back i.store c.turn.new.self i.base n.base i.way.items n.way.items i.here n.here c.self.inside.issued s e.1 (ap (λ z. z.items) e.2) e.3 ∙ c.self.view_is

pub turn-requires-clause-fits : goal.turn-requires-clause-fits
turn-requires-clause-fits g c = search rules steps 1500000

pub turn-requires-clause-well : goal.turn-requires-clause-well
turn-requires-clause-well g c = rw c.in-Err.ensures.err.0 c.in-Ok.ensures.sound.well
