-- How the entries of a log are linked. A link is the number of an entry and one more, or 0 for none.
-- Rule of this project: the mentions of a bucket lead from each to the one before it.
use Rattle.std.specs.Prelude.{◌≡◌, ℕ, ◌-◌, ◌^◌, ◌%◌, ◌<◌, ◌≤◌, List, length, map, get_or}
use Rattle.rev_tree.specs.declared.mention.Mention.{Mention}
use Rattle.rev_tree.specs.declared.links.Entry.{Entry}
use Rattle.rev_tree.specs.declared.links.Head.{Head}

-- what an entry notes
abbrev pub mention_of : Entry → Mention
mention_of e = record { hash = e.hash; node = e.node }

-- what a list of entries notes
abbrev pub mentions_of : List Entry → List Mention
mentions_of es = map mention_of es

-- the links of a list of entries
abbrev pub links_of : List Entry → List ℕ
links_of es = map (λ e. e.earlier) es

-- the links of a list of heads
abbrev pub lasts_of : List Head → List ℕ
lasts_of heads = map (λ h. h.last) heads

-- stands in where there is no mention
abbrev pub no_mention : Mention
no_mention = record { hash = 0; node = 0 }

-- the bucket of mention i, where there are m
abbrev pub bucket_at : List Mention → ℕ → ℕ → ℕ
bucket_at ms m i = (get_or ms i no_mention).hash % m

-- the node of mention i
abbrev pub node_at : List Mention → ℕ → ℕ
node_at ms i = (get_or ms i no_mention).node

-- of the first k mentions, the link c leads to the last one in bucket b
pub record Leads (ms : List Mention) (m k b c : ℕ) : Type 0 where
  pub below : c ≤ k
  pub home : 0 < c → bucket_at ms m (c - 1) ≡ b
  pub last : (i : ℕ) → i < k → bucket_at ms m i ≡ b → i < c

-- of m buckets, the links in `lasts` lead to the last of the first k mentions in each, and the link of each of these to
-- the one before it
pub record Linked (m : ℕ) (lasts : List ℕ) (ms : List Mention) (links : List ℕ) (k : ℕ) : Type 0 where
  pub some : 0 < m
  pub at_head : (b : ℕ) → b < m → Leads ms m k b (get_or lasts b 0)
  pub at_link : (j : ℕ) → j < k → Leads ms m j (bucket_at ms m j) (get_or links j 0)

-- the link c leads into bucket b, of m, to a mention of a node past d, before the one that the link a leads to
pub record LeadsPast (ms : List Mention) (m b d a c : ℕ) : Type 0 where
  pub some : 0 < c
  pub before : c < a
  pub home : bucket_at ms m (c - 1) ≡ b
  pub past : d < node_at ms (c - 1)

-- the first k entries are linked
abbrev pub IsLinked : List Head → List Entry → ℕ → Type 0
IsLinked heads es k = Linked (length heads) (lasts_of heads) (mentions_of es) (links_of es) k

-- the nodes of mentions do not fall
abbrev pub Rises : List Mention → Type 0
Rises ms = (i j : ℕ) → i ≤ j → j < length ms → node_at ms i ≤ node_at ms j

-- all entries are linked, their nodes do not fall, and links can tell them apart
pub record IsSound (heads : List Head) (es : List Entry) : Type 0 where
  pub linked : IsLinked heads es (length es)
  pub rises : Rises (mentions_of es)
  pub few : length es < 2 ^ 32
