-- A line whose fields stand in the order in which the server writes them: its time, its number and its event.
use Rattle.std.proofs.Common.{◌≡◌, ℕ, ℤ, ◌-◌, ◌==◌, true, false, Some, List, [], ◌∷◌, ◌++◌, refl, sym, ◌∙◌, ap, inl, inr, arith, Ok, Err, codes}
use Rattle.std.proofs.lemmas.Bool.{ne_eqb}
use Rattle.std.proofs.lemmas.Bool.Decides.{eqb_tells}
use Rattle.rev_script.specs.Number.{number, has, until, past}
use Rattle.rev_watch.specs.Fields.{look_up_outcome, store_command, store_outcome, key_in}
use Rattle.rev_watch.specs.Keys.{key_of}
use Rattle.rev_watch.specs.Line.{look_up, store, event_by_names, timestamp, timestamp_of, gid_of, first, behind}
use Rattle.rev_watch.specs.Usual.{IsLookUp, IsStore}
use Rattle.rev_watch.specs.Words.{value_behind}
use Rattle.rev_watch.specs.declared.event.Event.TheVariants as events
use Rattle.rev_watch.specs.declared.fault.LineFault.{LineFault}
use Rattle.rev_watch.specs.declared.kind.Kind.TheVariants as kinds
use Rattle.rev_watch.proofs.NumberLemmas.{no_sign}
use Rattle.rev_watch.proofs.UsualLemmas.{behind_is}

-- ---- the event

pub looked_up : {A : Type 0} (text key outcome : List ℕ) (class : ℕ) (connection : ℤ) (size : ℕ) (k : List ℕ × ℕ) → IsLookUp text key outcome class connection size → key_of key ≡ Ok k →
    event_by_names {A = A} kinds.LookUp text ≡ Ok (events.LookUp k.0 (look_up_outcome outcome) class connection (size - k.1))
unfolding look_up key_in
looked_up text key outcome class connection size k u e = rw (u.all, u.outcome_is, u.class_is, u.connection_is, u.size_is, u.key_is, e) refl

pub not_looked_up : {A : Type 0} (text key outcome : List ℕ) (class : ℕ) (connection : ℤ) (size : ℕ) (f : LineFault) → IsLookUp text key outcome class connection size → key_of key ≡ Err f →
    event_by_names {A = A} kinds.LookUp text ≡ Err f
unfolding look_up key_in
not_looked_up text key outcome class connection size f u e = rw (u.all, u.outcome_is, u.class_is, u.connection_is, u.size_is, u.key_is, e) refl

pub stored : {A : Type 0} (text key outcome command : List ℕ) (ttl class : ℕ) (connection : ℤ) (size : ℕ) (k : List ℕ × ℕ) → IsStore text key outcome command ttl class connection size → key_of key ≡ Ok k →
    event_by_names {A = A} kinds.Store text ≡ Ok (events.Store k.0 (store_command command) (store_outcome outcome) ttl class connection (size - k.1))
unfolding store key_in
stored text key outcome command ttl class connection size k u e = rw (u.all, u.outcome_is, u.command_is, u.ttl_is, u.class_is, u.connection_is, u.size_is, u.key_is, e) refl

pub not_stored : {A : Type 0} (text key outcome command : List ℕ) (ttl class : ℕ) (connection : ℤ) (size : ℕ) (f : LineFault) → IsStore text key outcome command ttl class connection size → key_of key ≡ Err f →
    event_by_names {A = A} kinds.Store text ≡ Err f
unfolding store key_in
not_stored text key outcome command ttl class connection size f u e = rw (u.all, u.outcome_is, u.command_is, u.ttl_is, u.class_is, u.connection_is, u.size_is, u.key_is, e) refl

-- ---- the time and the number

-- a point with no space in front of it is a point of the first word
point_within : (t : List ℕ) → has 46 t ≡ true → has 32 (until 46 t) ≡ false →
    (has 46 (until 32 t) ≡ true) × (until 46 (until 32 t) ≡ until 46 t) × (past 46 (until 32 t) ≡ until 32 (past 46 t)) × (past 32 t ≡ past 32 (past 46 t))
point_within [] h n = absurd (cc)
point_within (x ∷ xs) h n = elim (eqb_tells x 46) [
  | inl p ↦
      let other : (x == 32) ≡ false = ne_eqb x 32 (λ e. omega (arith, p.1, e)) in
      (rw (other, p.0) refl, rw (other, p.0) refl, rw (other, p.0) refl, rw (other, p.0) refl)
  | inr p ↦
      elim (eqb_tells x 32) [
        | inl q ↦ absurd (let r = rw (p.0, q.0) at n in cc)
        | inr q ↦
            let r = point_within xs (rw p.0 at h) (rw (p.0, q.0) at n) in
            (rw (q.0, p.0) r.0, rw (q.0, p.0) (ap (λ t. x ∷ t) r.1), rw (q.0, p.0) r.2, rw (q.0, p.0) r.3)
      ]
]

time_is : (r : List ℕ) (seconds micros : ℕ) → has 46 r ≡ true → number 4294967295 (until 46 r) ≡ Some seconds → number 999999 (until 32 (past 46 r)) ≡ Some micros →
    timestamp (until 32 r) ≡ Some record { seconds = seconds; microseconds = micros }
unfolding timestamp
time_is r seconds micros h s m =
    let w = point_within r h (no_sign 4294967295 32 (until 46 r) seconds (omega arith) s) in
    rw (w.0, w.1, w.2, s, m) refl

stamp_is : (r : List ℕ) (seconds micros : ℕ) → timestamp (until 32 r) ≡ Some record { seconds = seconds; microseconds = micros } →
    timestamp_of (until 32 (codes "ts=" ++ r)) ≡ Ok record { seconds = seconds; microseconds = micros }
unfolding timestamp_of value_behind
stamp_is r seconds micros e = rw e refl

gid_is : (r : List ℕ) (gid : ℕ) → number 18446744073709551615 (until 32 r) ≡ Some gid → gid_of (until 32 (codes "gid=" ++ r)) ≡ Ok gid
unfolding gid_of value_behind
gid_is r gid e = rw e refl

pub head_is : (text r1 r2 r3 r4 r5 : List ℕ) (seconds micros gid : ℕ) → Some r1 ≡ value_behind (codes "ts") 61 text →
    has 46 r1 ≡ true → number 4294967295 (until 46 r1) ≡ Some seconds → r2 ≡ past 46 r1 →
    number 999999 (until 32 r2) ≡ Some micros → r3 ≡ past 32 r2 → Some r4 ≡ value_behind (codes "gid") 61 r3 →
    number 18446744073709551615 (until 32 r4) ≡ Some gid → r5 ≡ past 32 r4 →
    (timestamp_of (first text) ≡ Ok record { seconds = seconds; microseconds = micros }) × (gid_of (first (behind text)) ≡ Ok gid) × (r5 ≡ behind (behind text))
head_is text r1 r2 r3 r4 r5 seconds micros gid t h s p2 m p3 g n p5 =
    let text_is : text ≡ codes "ts=" ++ r1 = behind_is (codes "ts") 61 text r1 (sym t) in
    let rest_is : r3 ≡ codes "gid=" ++ r4 = behind_is (codes "gid") 61 r3 r4 (sym g) in
    let w = point_within r1 h (no_sign 4294967295 32 (until 46 r1) seconds (omega arith) s) in
    let time = stamp_is r1 seconds micros (time_is r1 seconds micros h s (ap (λ r. number 999999 (until 32 r)) (sym p2) ∙ m)) in
    let second : past 32 text ≡ codes "gid=" ++ r4 = ap (past 32) text_is ∙ w.3 ∙ ap (past 32) (sym p2) ∙ sym p3 ∙ rest_is in (
      ap (λ x. timestamp_of (until 32 x)) text_is ∙ time,
      ap (λ x. gid_of (until 32 x)) second ∙ gid_is r4 gid n,
      p5 ∙ sym (ap (past 32) second),
    )
