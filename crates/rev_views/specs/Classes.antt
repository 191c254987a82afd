-- What is told of how full the slab classes are.
-- Rule of this project: the text of `:classes`.
use Rattle.std.specs.Prelude.{ℕ, zero, suc, ◌+◌, ◌-◌, cond, nat_lt, List, [], ◌∷◌, ◌++◌, length, slice_index, codes, decimal}
use Rattle.rev_model.specs.State.{State, free_of, queue_of, last_class}
use Rattle.rev_model.specs.Actor.{owned_pages}
use Rattle.rev_model.specs.Words.{bytes}
use Rattle.rev_model.specs.declared.Entry.{Entry}
use Rattle.rev_model.specs.declared.Entry.TheVariants.{Chunk, Mark}
use Rattle.rev_model.specs.declared.Queue.{Queue}
use Rattle.rev_model.specs.declared.Queue.TheVariants.{Hot, Warm, Cold, Temp}
use Rattle.rev_texts.specs.Texts.{output, queue_text}

-- a count as it is shown: no higher than the highest number of 64 bits
abbrev pub shown : ℕ → ℕ
shown n = cond (nat_lt n 18446744073709551615) n 18446744073709551615

-- how many items an entry is: one, or none for the crawler's mark
abbrev pub item_count : Entry → ℕ
item_count (Chunk x) = 1
item_count Mark = 0

-- how many items a queue has
abbrev pub items_in : List Entry → ℕ
items_in [] = 0
items_in (e ∷ es) = item_count e + items_in es

-- a queue: its items, and their bytes
abbrev pub queue_figures : State → ℕ → Queue → List ℕ
queue_figures s c q = codes " " ++ queue_text q ++ (codes " " ++ decimal (shown (items_in (queue_of s c q)))) ++ (codes " " ++ decimal (bytes s c q))

abbrev pub queues_figures : State → ℕ → List ℕ
queues_figures s c = queue_figures s c Hot ++ queue_figures s c Warm ++ queue_figures s c Cold ++ queue_figures s c Temp

-- a class: the size of its chunks, its pages and its free chunks
abbrev pub class_figures : State → ℕ → ℕ → List ℕ
class_figures s c pages =
    (codes "CLASS " ++ decimal c) ++ (codes " size " ++ decimal (slice_index s.fixed.sizes (c - 1))) ++ (codes " pages " ++ decimal pages)
    ++ (codes " free " ++ decimal (shown (length (free_of s c))))

abbrev pub class_text : State → ℕ → ℕ → List ℕ
class_text s c pages = output (class_figures s c pages ++ queues_figures s c)

-- the line of a class that owns pages
abbrev pub class_line : State → ℕ → List ℕ
class_line s c = cond (nat_lt 0 (owned_pages c s.owner)) (class_text s c (owned_pages c s.owner)) []

-- the lines of the first n classes
abbrev pub classes_to : State → ℕ → List ℕ
classes_to s zero = []
classes_to s (suc n) = classes_to s n ++ class_line s (suc n)

-- those of all classes, then END
abbrev pub classes_text : State → List ℕ
classes_text s = classes_to s (last_class s) ++ output (codes "END")
