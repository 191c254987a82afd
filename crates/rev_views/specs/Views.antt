-- What is answered to questions about a node, and about the way from the root to the current node.
-- Rule of this project: the texts of `:gone`, `:step` and `:time`.
use Rattle.std.specs.Prelude.{ℕ, cond, nat_eq, List, [], ◌∷◌, ◌++◌, Option, None, Some, codes, decimal}
use Rattle.rev_model.specs.Client.{ClientStep, Stores, Joins, Gets, Touches, Deletes, Evicts, Flushes, Counts}
use Rattle.rev_model.specs.Actor.{Step, Client, Pull, Crawl}
use Rattle.rev_model.specs.declared.Outcome.{Outcome}
use Rattle.rev_model.specs.declared.Queue.{Queue}
use Rattle.rev_tree.specs.Steps.{outcome_of}
use Rattle.rev_tree.specs.Rows.{Row, at}
use Rattle.rev_tree.specs.Positions.{SessionState}
use Rattle.rev_explain.specs.Departures.{PlainDeparture}
use Rattle.rev_explain.specs.Clocks.{clock_at}
use Rattle.rev_texts.specs.Texts.{output, queue_text}
use Rattle.rev_texts.specs.Words.{step_word, outcome_word}
use Rattle.rev_views.specs.Trees.{go_text, gone}
use Rattle.rev_evidence.specs.Notes.{PlainNotes}
use Rattle.rev_views.specs.Reasons.{left_words}

-- ---- keys that left

-- a key that left: the node, the key, and why
abbrev pub departure_text : PlainNotes → PlainDeparture → List ℕ
departure_text log d = output (decimal d.node ++ codes " " ++ d.key ++ codes " " ++ left_words log d.node d.cause d.key)

-- a line for each, then END
abbrev pub departures_text : PlainNotes → List PlainDeparture → List ℕ
departures_text log [] = output (codes "END")
departures_text log (d ∷ ds) = departure_text log d ++ departures_text log ds

-- ---- a node

-- what a step names: a client's its key, a pull or a crawl its class and queue
abbrev pub client_subject : ClientStep → List ℕ
client_subject (Stores verb k flags exptime payload) = k
client_subject (Joins side k payload) = k
client_subject (Gets k) = k
client_subject (Touches k exptime) = k
client_subject (Deletes k) = k
client_subject (Evicts k) = k
client_subject (Flushes delay) = codes "-"
client_subject (Counts sum k n) = k

abbrev pub queue_name : ℕ → Queue → List ℕ
queue_name c q = decimal c ++ codes " " ++ queue_text q

abbrev pub step_subject : Step → List ℕ
step_subject (Client e) = client_subject e
step_subject (Pull c q) = queue_name c q
step_subject (Crawl c q) = queue_name c q
step_subject e = codes "-"

-- a step, what it was answered, and what it names
abbrev pub played_text : Step → Outcome → List ℕ
played_text e o = step_word e ++ codes " " ++ outcome_word o ++ codes " " ++ step_subject e

-- a node's number, its parent's and its clock
abbrev pub numbers_text : ℕ → ℕ → ℕ → List ℕ
numbers_text n parent clock = codes "STEP " ++ decimal n ++ codes " " ++ decimal parent ++ codes " " ++ decimal clock ++ codes " "

abbrev pub root_text : ℕ → List ℕ
root_text clock = codes "STEP 0 - " ++ decimal clock ++ output (codes " root - -")

-- the line of node n, by its row
abbrev pub step_text : SessionState → ℕ → Option Row → List ℕ
step_text m n None = cond (nat_eq n 0) (root_text (clock_at m.root m.rows n)) (output (codes "NONODE"))
step_text m n (Some r) =
    output (numbers_text n r.parent (clock_at m.root m.rows n) ++ played_text r.step (outcome_of (at m.root m.rows r.parent) r.step))

-- ---- a time

-- to the node that is found, if there is one
abbrev pub time_text : SessionState → Option ℕ → List ℕ
time_text m None = output (codes "NONODE")
time_text m (Some n) = go_text m n

abbrev pub after_time : SessionState → Option ℕ → SessionState
after_time m None = m
after_time m (Some n) = gone m n
