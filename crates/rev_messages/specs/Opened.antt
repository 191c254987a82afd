-- What is told of a session that was opened in the middle of logs.
-- Rule of this project: behind which step its root is and of how many, the second of that by the Unix clock, and where the
-- session stands.
use Rattle.std.specs.Prelude.{ℕ, List, ◌++◌, codes, decimal}
use Rattle.rev_messages.specs.declared.opened.OpenedAt.{OpenedAt}

-- a number behind a text
abbrev pub number_text : List ℕ → ℕ → List ℕ
number_text front n = front ++ decimal n

-- a text with that behind it, for people
abbrev pub with_opened : List ℕ → OpenedAt → List ℕ
with_opened old o =
    (((old ++ number_text (codes "node 0 is step ") o.root) ++ number_text (codes " of ") o.steps) ++ number_text (codes ", @") o.second)
    ++ number_text (codes "; the session stands at node ") o.node

-- and with the line of JSON
abbrev pub with_object : List ℕ → OpenedAt → List ℕ
with_object old o =
    ((((old ++ number_text (codes "{\"line\":0,\"node\":") o.node)
    ++ number_text (codes ",\"command\":null,\"answer\":[{\"kind\":\"OPENED\",\"root\":") o.root) ++ number_text (codes ",\"steps\":") o.steps)
    ++ number_text (codes ",\"ts\":") o.second) ++ codes "}]}\n"
