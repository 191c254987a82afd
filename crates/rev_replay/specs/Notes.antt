-- What is told of logs and of their replay.
-- Rule of this project: a line each for what was read, what was left out, evictions, what is inferred, what else was put
-- right, and what the replay does not agree with. A line has the kinds that occurred, and there is none where none did.
use Rattle.std.specs.Prelude.{ℕ, Bool, true, false, nat_lt, cond, List, [], ◌∷◌, ◌++◌, decimal, codes}
use Rattle.rev_lead.specs.declared.tally.Tally.{Tally}
use Rattle.rev_replay.specs.declared.counts.LineCounts.{LineCounts}
use Rattle.rev_replay.specs.declared.run.Replay.{Replay}
use Rattle.rev_replay.specs.Replayed.{counts_of, late_of, repeated_of, tally_of}

-- how often something occurred, and what it is, behind a text
abbrev pub kind_text : List ℕ → ℕ × List ℕ → List ℕ
kind_text front k = (front ++ decimal k.0) ++ k.1

-- what stands in front of a kind: the head of the line, or a comma once it is begun
abbrev pub front_text : Bool → List ℕ → List ℕ
front_text false head = head
front_text true head = codes ", "

-- what ends a line, if it is begun
abbrev pub end_text : Bool → List ℕ
end_text false = []
end_text true = 10 ∷ []

-- the kinds that occurred, and the end of the line
abbrev pub line_text : Bool → List ℕ → List (ℕ × List ℕ) → List ℕ
line_text begun head [] = end_text begun
line_text begun head (k ∷ kinds) =
    cond (nat_lt 0 k.0) (kind_text (front_text begun head) k ++ line_text true head kinds) (line_text begun head kinds)

unfoldable pub read_kinds : LineCounts → List (ℕ × List ℕ)
read_kinds c = (c.lines, codes " lines") ∷ (c.events, codes " events") ∷ (c.restarts, codes " restarts of the server") ∷ []

unfoldable pub left_out_kinds : LineCounts → (late repeated : ℕ) → List (ℕ × List ℕ)
left_out_kinds c late repeated =
    (c.outside, codes " outside the range") ∷ (c.other, codes " of no log") ∷ (late, codes " too late for their place")
    ∷ (repeated, codes " with the number of another") ∷ (c.cut_off, codes " cut off at an end") ∷ (c.skipped, codes " skipped by the server for a slow watcher")
    ∷ (c.of_other_keys, codes " of keys outside the sample") ∷ (c.page_moves, codes " page moves outside the sample") ∷ []

unfoldable pub eviction_kinds : Tally → List (ℕ × List ℕ)
eviction_kinds t =
    (t.evicted_by_rules, codes " by the rules as logged") ∷ (t.evicted, codes " by the log alone")
    ∷ (t.other_evictions, codes " stores that evicted another key") ∷ []

unfoldable pub inferred_kinds : Tally → List (ℕ × List ℕ)
inferred_kinds t =
    (t.deleted_at_hit, codes " deletes in place of hits") ∷ (t.deleted_at_miss, codes " in front of misses")
    ∷ (t.wanted, codes " for a chunk that was free") ∷ (t.wanted_unseen, codes " of keys not seen again") ∷ []

unfoldable pub adjusted_kinds : Tally → List (ℕ × List ℕ)
adjusted_kinds t =
    (t.wanted_expired, codes " expired for a chunk") ∷ (t.lifetimes, codes " lifetimes") ∷ (t.flushed, codes " flushed")
    ∷ (t.restored, codes " keys that the replay lacked") ∷ []

unfoldable pub disagreed_kinds : Tally → List (ℕ × List ℕ)
disagreed_kinds t =
    (t.other_class, codes " other classes") ∷ (t.refused_moves, codes " page moves")
    ∷ (t.no_chunk, codes " stores without a chunk") ∷ (t.other_answers, codes " other answers") ∷ []

abbrev pub read_text : LineCounts → List ℕ
read_text c = line_text false (codes "read: ") (read_kinds c)

abbrev pub left_out_text : LineCounts → (late repeated : ℕ) → List ℕ
left_out_text c late repeated = line_text false (codes "left out: ") (left_out_kinds c late repeated)

abbrev pub eviction_text : Tally → List ℕ
eviction_text t = line_text false (codes "evictions: ") (eviction_kinds t)

abbrev pub inferred_text : Tally → List ℕ
inferred_text t = line_text false (codes "inferred: ") (inferred_kinds t)

abbrev pub adjusted_text : Tally → List ℕ
adjusted_text t = line_text false (codes "adjusted: ") (adjusted_kinds t)

abbrev pub disagreed_text : Tally → List ℕ
disagreed_text t = line_text false (codes "not agreed with: ") (disagreed_kinds t)

-- a text with all of it behind it
abbrev pub with_notes : {A : Type 0} → List ℕ → Replay A → List ℕ
with_notes old r =
    (((((old ++ read_text (counts_of r)) ++ left_out_text (counts_of r) (late_of r) (repeated_of r))
    ++ eviction_text (tally_of r)) ++ inferred_text (tally_of r)) ++ adjusted_text (tally_of r)) ++ disagreed_text (tally_of r)

-- a text, and behind it which life of a server was played, where it had several
abbrev pub with_life : List ℕ → (life lives : ℕ) → List ℕ
with_life old life lives =
    cond (nat_lt 1 lives)
    ((old ++ kind_text (codes "life: ") (life, codes " of ")) ++ kind_text [] (lives, codes " that the server had; --life N takes another one\n"))
    old

-- a text, and behind it of how many keys one is taken, since the server has so many pages
abbrev pub with_sample : List ℕ → (one_of pages : ℕ) → List ℕ
with_sample old one_of pages =
    (old ++ kind_text (codes "sample: 1 of ") (one_of, codes " keys, since the server has "))
    ++ kind_text [] (pages, codes " pages; --sample takes another one\n")
