-- What may be typed, in words.
-- Rule of this project: each form of each command has a usage, what it does in a few words, and an example.
use Rattle.std.specs.Prelude.{ℕ, Bool, cond, List, [], ◌∷◌, ◌++◌, codes}
use Rattle.std.specs.List.{list_any}
use Rattle.std.specs.Str.{bytes_eq}
use Rattle.rev_texts.specs.Texts.{output}
use Rattle.rev_texts.specs.declared.help.Topic.{Topic}

-- one form of a command: the command's own word, its usage, what it does, and an example
pub record PlainTopic : Type 0 where
  pub word : List ℕ
  pub usage : List ℕ
  pub line : List ℕ
  pub example : List ℕ

-- a form as the definitions have it
abbrev pub topic_of : Topic → PlainTopic
topic_of t = record { word = t.word.now; usage = t.usage.now; line = t.line.now; example = t.example.now }

-- a form of these words
abbrev pub topic : (word usage line example : List ℕ) → PlainTopic
topic w u l e = record { word = w; usage = u; line = l; example = e }

-- all of them
unfoldable pub topics : List PlainTopic
topics =
    topic (codes "set") (codes "set <key> <flags> <exptime> <bytes> [noreply]") (codes "stores the data of the next line") (codes "set home 0 0 5")
    ∷ topic (codes "add") (codes "add <key> <flags> <exptime> <bytes> [noreply]") (codes "the same, where the key is not there") (codes "add home 0 0 5")
    ∷ topic (codes "replace") (codes "replace <key> <flags> <exptime> <bytes> [noreply]") (codes "the same, where the key is there") (codes "replace home 0 0 5")
    ∷ topic (codes "append") (codes "append <key> <flags> <exptime> <bytes> [noreply]") (codes "puts the data of the next line behind the key's") (codes "append home 0 0 5")
    ∷ topic (codes "prepend") (codes "prepend <key> <flags> <exptime> <bytes> [noreply]") (codes "puts the data of the next line before the key's") (codes "prepend home 0 0 5")
    ∷ topic (codes "cas") (codes "cas <key> <flags> <exptime> <bytes> <cas> [noreply]") (codes "set, where the item has this cas number") (codes "cas home 0 0 5 7")
    ∷ topic (codes "get") (codes "get <key>..") (codes "the values of the keys that are there") (codes "get home cart")
    ∷ topic (codes "gets") (codes "gets <key>..") (codes "the same, with their cas numbers") (codes "gets home")
    ∷ topic (codes "delete") (codes "delete <key> [0] [noreply]") (codes "takes the item away") (codes "delete home")
    ∷ topic (codes "touch") (codes "touch <key> <exptime> [noreply]") (codes "sets when the item expires") (codes "touch home 60")
    ∷ topic (codes "incr") (codes "incr <key> <number> [noreply]") (codes "adds to a number") (codes "incr visits 1")
    ∷ topic (codes "decr") (codes "decr <key> <number> [noreply]") (codes "takes from a number, down to 0") (codes "decr visits 1")
    ∷ topic (codes "flush_all") (codes "flush_all [delay] [noreply]") (codes "makes all items dead, now or later") (codes "flush_all 10")
    ∷ topic (codes "~pull") (codes "~pull <class> <queue>") (codes "a step of the LRU maintainer at a queue's tail") (codes "~pull 1 hot")
    ∷ topic (codes "~bump") (codes "~bump") (codes "its step for items of COLD that were read") (codes "~bump")
    ∷ topic (codes "lru_crawler") (codes "lru_crawler crawl <id,..>|all") (codes "sends the crawler through queues") (codes "lru_crawler crawl all")
    ∷ topic (codes "~crawl") (codes "~crawl <class> <queue>") (codes "a step of the crawler") (codes "~crawl 1 hot")
    ∷ topic (codes "slabs") (codes "slabs reassign <source> <target>") (codes "sends a page from one class to another") (codes "slabs reassign 5 1")
    ∷ topic (codes "~move") (codes "~move") (codes "a step of the page mover") (codes "~move")
    ∷ topic (codes "~evict") (codes "~evict <key>") (codes "evicts the item, as a set that needs room does") (codes "~evict home")
    ∷ topic (codes "lru") (codes "lru tune <hot> <warm> <hot factor> <warm factor>") (codes "sets the shares and ages of HOT and WARM") (codes "lru tune 20 40 0.2 2")
    ∷ topic (codes "lru") (codes "lru temp_ttl <seconds>") (codes "sets which items enter TEMP") (codes "lru temp_ttl 60")
    ∷ topic (codes "@") (codes "@ <seconds>") (codes "sets the clock, which never goes back") (codes "@ 100")
    ∷ topic (codes ":at") (codes ":at") (codes "the number of the current node") (codes ":at")
    ∷ topic (codes ":back") (codes ":back") (codes "undoes the step of the current node") (codes ":back")
    ∷ topic (codes ":forward") (codes ":forward [i]") (codes "goes to a child of the current node, counted from 0") (codes ":forward 1")
    ∷ topic (codes ":go") (codes ":go <n>") (codes "goes to a node") (codes ":go 5")
    ∷ topic (codes ":tree") (codes ":tree") (codes "each node, its parent, step and outcome") (codes ":tree")
    ∷ topic (codes ":step") (codes ":step <n>") (codes "the step of a node") (codes ":step 5")
    ∷ topic (codes ":time") (codes ":time <seconds>") (codes "goes to the last node by that time") (codes ":time 100")
    ∷ topic (codes ":prune") (codes ":prune <n>") (codes "takes a node out, with all below it") (codes ":prune 5")
    ∷ topic (codes ":mark") (codes ":mark <name>") (codes "gives the current node a name") (codes ":mark full")
    ∷ topic (codes ":marks") (codes ":marks") (codes "the names, and their nodes") (codes ":marks")
    ∷ topic (codes ":goto") (codes ":goto <name>") (codes "goes to the node of a name") (codes ":goto full")
    ∷ topic (codes ":item") (codes ":item <key>") (codes "a key's item, dead or not") (codes ":item home")
    ∷ topic (codes ":chunk") (codes ":chunk <key>") (codes "the page and slot of a key's item") (codes ":chunk home")
    ∷ topic (codes ":queue") (codes ":queue <class> <queue> [n]") (codes "the keys of a queue, or the first n, head first") (codes ":queue 1 hot 9")
    ∷ topic (codes ":free") (codes ":free <class>") (codes "the free chunks of a class") (codes ":free 1")
    ∷ topic (codes ":pages") (codes ":pages") (codes "the pages, and their classes") (codes ":pages")
    ∷ topic (codes ":counters") (codes ":counters <class>") (codes "the counters of a class") (codes ":counters 1")
    ∷ topic (codes ":classes") (codes ":classes") (codes "each class that has pages") (codes ":classes")
    ∷ topic (codes ":globals") (codes ":globals") (codes "clock, cas number, flush, page move and bump queue") (codes ":globals")
    ∷ topic (codes ":why") (codes ":why <key>") (codes "why a key is not there, and since which node") (codes ":why home")
    ∷ topic (codes ":story") (codes ":story <key>") (codes "what befell a key, up to the current node") (codes ":story home")
    ∷ topic (codes ":gone") (codes ":gone [n]") (codes "the keys that left, or the last n") (codes ":gone 9")
    ∷ topic (codes ":help") (codes ":help [word]") (codes "what may be typed, or more of one command") (codes ":help :why")
    ∷ []

-- a form on a line
abbrev pub line_text : PlainTopic → List ℕ
line_text t = t.usage ++ (codes "  " ++ output t.line)

-- a line for each of these forms
abbrev pub lines_text : List PlainTopic → List ℕ
lines_text [] = []
lines_text (t ∷ ts) = line_text t ++ lines_text ts

-- the answer to `:help`
abbrev pub help_text : List ℕ
help_text = lines_text topics ++ output (codes "END")

-- the form is one of the command of this word
abbrev pub is_of : List ℕ → PlainTopic → Bool
is_of word t = bytes_eq t.word word

-- what there is to say of a form: of that command three lines, and of any other none
abbrev pub topic_text : List ℕ → PlainTopic → List ℕ
topic_text word t = cond (is_of word t) (output t.usage ++ (codes "  " ++ output t.line) ++ (codes "  example: " ++ output t.example)) []

-- and of these forms
abbrev pub topics_text : List ℕ → List PlainTopic → List ℕ
topics_text word [] = []
topics_text word (t ∷ ts) = topic_text word t ++ topics_text word ts

-- the answer to `:help` and a word: NOHELP where no command has it
abbrev pub help_on_text : List ℕ → List ℕ
help_on_text word = cond (list_any (is_of word) topics) (topics_text word topics ++ output (codes "END")) (output (codes "NOHELP"))
