-- Events that are passed on, and their lines, which are sent.
use Rattle.std.proofs.Common.{◌≡◌, ℕ, List, [], ◌∷◌, ◌++◌, Option, Result, Ok, Err, OnOk, append_assoc, append-nil, refl, sym, ◌∙◌, ap, subst}
use Rattle.std.specs.Io.KnownBytes.{Appends}
use Rattle.rev_output.proofs.Written.{Appends-then, Appends-none}
use Rattle.rev_watch.specs.declared.event.LogLine.{LogLine}
use Rattle.rev_import.specs.Becoming.{Moves}
use Rattle.rev_import.proofs.Moved.{moves_none, moves_more, moves_from}
use Rattle.rev_intake.specs.Sending.{Sends, Passes}

-- nothing was written and nothing sent
pub sends_none : (waits : List ℕ) (held : Option (List ℕ)) (failures : ℕ) → Sends waits waits [] held held failures failures
sends_none waits held failures = record { sent = []; appends = Appends-none held; same = append-nil waits; none_failed = refl }

-- all that waited was sent
pub sends_all : {held holds : Option (List ℕ)} {before after : ℕ} (waits : List ℕ) → Appends held holds waits → after ≡ before → Sends waits [] [] held holds before after
sends_all waits a e = record { sent = waits; appends = a; same = refl; none_failed = e }

pub sends_then : {a b c t u : List ℕ} {h i j : Option (List ℕ)} {k l m : ℕ} → Sends a b t h i k l → Sends b c u i j l m → Sends a c (t ++ u) h j k m
sends_then {a} {b} {c} {t} {u} {h} {i} {j} x y = record {
  sent = x.sent ++ y.sent;
  appends = Appends-then h i j x.sent y.sent x.appends y.appends;
  same =
      sym (append_assoc a t u)
      ∙ ap (λ z. z ++ u) x.same
      ∙ append_assoc x.sent b u
      ∙ ap (λ z. x.sent ++ z) y.same
      ∙ sym (append_assoc x.sent y.sent c);
  none_failed = y.none_failed ∙ x.none_failed;
}

-- what was written, by itself
pub moves_alone : {A : Type 0} {x y : List (LogLine A)} {a b : List ℕ} (m : Moves x y a b) → Moves x y [] m.writes.adds.text
moves_alone m = record {
  moved = m.moved;
  parted = m.parted;
  clients = m.clients;
  became = m.became;
  writes = record {
    lines = m.writes.lines;
    adds = record { text = m.writes.adds.text; behind = refl; lines_are = m.writes.adds.lines_are };
    steps = m.writes.steps;
    of_clients = m.writes.of_clients;
  };
}

-- the same, behind another text
moves_after : {A : Type 0} {x y : List (LogLine A)} {t : List ℕ} (a : List ℕ) → Moves x y [] t → Moves x y a (a ++ t)
moves_after a m = record {
  moved = m.moved;
  parted = m.parted;
  clients = m.clients;
  became = m.became;
  writes = record {
    lines = m.writes.lines;
    adds = record { text = m.writes.adds.text; behind = ap (λ z. a ++ z) m.writes.adds.behind; lines_are = m.writes.adds.lines_are };
    steps = m.writes.steps;
    of_clients = m.writes.of_clients;
  };
}

-- others wait behind
moves_wider : {A : Type 0} {x y : List (LogLine A)} {t : List ℕ} (more : List (LogLine A)) → Moves x y [] t → Moves (x ++ more) (y ++ more) [] t
moves_wider {A} {x} {y} more m = record {
  moved = m.moved;
  parted = ap (λ z. z ++ more) m.parted ∙ append_assoc m.moved y more;
  clients = m.clients;
  became = m.became;
  writes = m.writes;
}

-- none of them became lines
pub passes_same : {A : Type 0} (waiting : List (LogLine A)) (waits : List ℕ) (held : Option (List ℕ)) (failures : ℕ) → Passes waiting waiting waits waits held held failures failures
passes_same waiting waits held failures = record { text = []; moves = moves_none waiting waiting [] refl; sends = sends_none waits held failures }

-- no event came
pub passes_none : {A : Type 0} (waiting : List (LogLine A)) (waits : List ℕ) (held : Option (List ℕ)) (failures : ℕ) → Passes (waiting ++ []) waiting waits waits held held failures failures
passes_none waiting waits held failures =
    record { text = []; moves = moves_none (waiting ++ []) waiting [] (append-nil waiting); sends = sends_none waits held failures }

-- the lines were written, and some of all that waited was sent
pub passes_written : {A : Type 0} {x y : List (LogLine A)} {a b c : List ℕ} {h i : Option (List ℕ)} {k l : ℕ} → Moves x y a b → Sends b c [] h i k l → Passes x y a c h i k l
passes_written {A} {x} {y} {a} {b} m s = record {
  text = m.writes.adds.text;
  moves = moves_alone m;
  sends = record {
    sent = s.sent;
    appends = s.appends;
    same = sym m.writes.adds.behind ∙ sym (append-nil b) ∙ s.same;
    none_failed = s.none_failed;
  };
}

-- first some of those that wait, then others
pub passes_on : {A : Type 0} {x y z : List (LogLine A)} {a b c : List ℕ} {h i j : Option (List ℕ)} {k l m : ℕ} → Passes x y a b h i k l → Passes y z b c i j l m → Passes x z a c h j k m
passes_on f g = record { text = f.text ++ g.text; moves = moves_more f.moves (moves_after f.text g.moves); sends = sends_then f.sends g.sends }

-- an event was taken in
pub taken : {A : Type 0} {x was y z : List (LogLine A)} {a had b c : List ℕ} {h i : Option (List ℕ)} {k l : ℕ} (line : LogLine A) → was ≡ x → had ≡ a → z ≡ y →
    Moves (was ++ line ∷ []) y had b → Sends b c [] h i k l → Passes (x ++ line ∷ []) z a c h i k l
taken line e f g m s = rw (sym e, sym f, g) (passes_written m s)

-- what two facts of a call that went well give
pub both_ok : {T E P Q R : Type 0} (r : Result T E) → (P → Q → R) → OnOk r P → OnOk r Q → OnOk r R
both_ok (Ok v) f p q = f p q
both_ok (Err e) f p q = tt

-- and three
pub all_ok : {T E P Q R S : Type 0} (r : Result T E) → (P → Q → R → S) → OnOk r P → OnOk r Q → OnOk r R → OnOk r S
all_ok (Ok v) f p q s = f p q s
all_ok (Err e) f p q s = tt

-- the same, where events come in between
pub passes_then : {A : Type 0} {y z : List (LogLine A)} {a b c : List ℕ} {h i j : Option (List ℕ)} {k l m : ℕ} (x given more : List (LogLine A)) →
    Passes (x ++ given) y a b h i k l → Passes (y ++ more) z b c i j l m → Passes (x ++ (given ++ more)) z a c h j k m
passes_then x given more f g = record {
  text = f.text ++ g.text;
  moves = moves_from (x ++ (given ++ more)) (append_assoc x given more) (moves_more (moves_wider more f.moves) (moves_after f.text g.moves));
  sends = sends_then f.sends g.sends;
}

-- of events that are told by another name
pub passes_from : {A : Type 0} {x y z : List (LogLine A)} {a b : List ℕ} {h i : Option (List ℕ)} {k l : ℕ} → x ≡ z → Passes x y a b h i k l → Passes z y a b h i k l
passes_from {A} {x} {y} {z} {a} {b} {h} {i} {k} {l} e p = subst (λ w. Passes w y a b h i k l) e p

-- at last all that waits is sent
passes_sent : {A : Type 0} (c : List ℕ) (j q : Option (List ℕ)) (m n : ℕ) → Appends j q c → n ≡ m → Passes {A = A} [] [] c [] j q m n
passes_sent c j q m n a e = record { text = []; moves = moves_none [] [] [] refl; sends = record { sent = c; appends = a; same = refl; none_failed = e } }

pub all_sent : {A : Type 0} {x y : List (LogLine A)} {a b c : List ℕ} {h i j q : Option (List ℕ)} {k l m n : ℕ} →
    Passes x y a b h i k l → Passes y [] b c i j l m → Appends j q c → n ≡ m → Passes x [] a [] h q k n
all_sent {A} {x} {y} {a} {b} {c} {h} {i} {j} {q} {k} {l} {m} {n} f g s e = passes_on (passes_on f g) (passes_sent c j q m n s e)

pub sent_whole : {a t : List ℕ} {h q : Option (List ℕ)} {k n : ℕ} → Sends a [] t h q k n → Appends h q (a ++ t)
sent_whole {a} {t} {h} {q} s = subst (λ z. Appends h q z) (sym (s.same ∙ append-nil s.sent)) s.appends

-- some of what waited was sent first
pub sent_first : {A : Type 0} {x y : List (LogLine A)} {a b c : List ℕ} {h i j : Option (List ℕ)} {k l m : ℕ} → Sends a b [] h i k l → Passes x y b c i j l m → Passes x y a c h j k m
sent_first {A} {x} {y} {a} {b} s p = passes_on (record { text = []; moves = moves_none x x [] refl; sends = s }) p

-- and then an event was taken in
pub taken_behind : {A : Type 0} {v x z : List (LogLine A)} {a b c : List ℕ} {h i j : Option (List ℕ)} {k l m : ℕ} (line : LogLine A) → v ≡ x →
    Sends a b [] h i k l → Passes (v ++ line ∷ []) z b c i j l m → Passes (x ++ line ∷ []) z a c h j k m
taken_behind line e s p = sent_first s (passes_from (ap (λ w. w ++ line ∷ []) e) p)

-- the lines of the first one that waited were written
pub written_first : {A : Type 0} {x was y z : List (LogLine A)} {a had b c : List ℕ} {h i : Option (List ℕ)} {k l : ℕ} → was ≡ x → had ≡ a → z ≡ y →
    Moves was y had b → Sends b c [] h i k l → Passes x z a c h i k l
written_first e f g m s = rw (sym e, sym f, g) (passes_written m s)
