-- Lines of items, one behind another, and filler in front of them.
use Rattle.std.proofs.Common.{◌≡◌, ℕ, ℤ, ◌+◌, ◌<◌, ◌≤◌, ◌&&◌, Bool, true, false, List, [], ◌∷◌, ◌++◌, length, map, take, get_or, append_assoc, append-nil, refl, sym, ◌∙◌, ap, subst, arith, nat_lt, Some, None}
use Rattle.std.specs.List.{list_all}
use Rattle.std.proofs.lemmas.List.{take_more}
use Rattle.std.proofs.lemmas.List.Folds.{list_all-append}
use Rattle.rev_requests.specs.Limits.{PlainTune}
use Rattle.rev_script.specs.Script.{ScriptLine, TuneLine}
use Rattle.rev_import.specs.Writing.{Adds, Writes}
use Rattle.rev_import.specs.Becoming.{store_lines, delete}
use Rattle.rev_import.specs.declared.writing.Storing.TheVariants.{Set}
use Rattle.rev_import.proofs.Written.{more, then_quiet, writes_none, setup_writes, when, unless}
use Rattle.rev_snapshot.specs.Start.{set_lines, stored_lines, item_lines, items_lines, is_fill, is_fill_key, Fills, Starts}
use Rattle.rev_snapshot.specs.declared.order.Placed.{Placed}

-- ---- filler

pub no_fills : (a : List ℕ) → Fills a a
no_fills a = record { clients = []; fills = refl; writes = writes_none a }

pub more_fills : {a b c : List ℕ} → Fills a b → Fills b c → Fills a c
more_fills {a} {b} {c} x y = record {
  clients = x.clients ++ y.clients;
  fills = list_all-append is_fill x.clients y.clients ∙ ap (λ t. t && list_all is_fill y.clients) x.fills ∙ y.fills;
  writes = more x.writes y.writes;
}

pub stored_fill : {a b key : List ℕ} (size : ℕ) (exptime : ℤ) → is_fill_key key ≡ true → Writes a b (store_lines Set key 0 exptime size) → Fills a b
stored_fill {a} {b} {key} size exptime e w = record {
  clients = store_lines Set key 0 exptime size;
  fills = ap (λ t. t && true) e;
  writes = w;
}

pub taken_fill : {a b key : List ℕ} → is_fill_key key ≡ true → Writes a b (delete key ∷ []) → Fills a b
taken_fill {a} {b} {key} e w = record {
  clients = delete key ∷ [];
  fills = ap (λ t. t && true) e;
  writes = w;
}

-- ---- items

items_append : {A : Type 0} (ps qs : List (Placed A)) → items_lines (ps ++ qs) ≡ items_lines ps ++ items_lines qs
items_append [] qs = refl
items_append (p ∷ ps) qs = ap (λ t. item_lines p ++ t) (items_append ps qs) ∙ sym (append_assoc (item_lines p) (items_lines ps) (items_lines qs))

items_more : {A : Type 0} (ps : List (Placed A)) (k : ℕ) (d : Placed A) → k < length ps → items_lines (take (k + 1) ps) ≡ items_lines (take k ps) ++ item_lines (get_or ps k d)
items_more ps k d h = ap items_lines (take_more ps k d h) ∙ items_append (take k ps) (get_or ps k d ∷ []) ∙ ap (λ t. items_lines (take k ps) ++ t) (append-nil (item_lines (get_or ps k d)))

-- the next item behind those that were written
pub next_item : {A : Type 0} {a b c : List ℕ} (ps : List (Placed A)) (k : ℕ) (p : Placed A) → k < length ps → p ≡ get_or ps k p →
    Writes a b (items_lines (take k ps)) → Writes b c (item_lines p) → Writes a c (items_lines (take (k + 1) ps))
next_item {A} {a} {b} {c} ps k p h e x y =
    subst (λ t. Writes a c t) (sym (items_more ps k p h)) (more x (subst (λ q. Writes b c (item_lines q)) e y))

-- the same set, by another spelling of its expiry time
pub reset : {a b : List ℕ} (key : List ℕ) (size : ℕ) (warm fetched : Bool) (e f : ℤ) → e ≡ f → Writes a b (set_lines key e size warm fetched) → Writes a b (set_lines key f size warm fetched)
reset {a} {b} key size warm fetched e f x w = subst (λ z. Writes a b (set_lines key z size warm fetched)) x w

-- the same by the queue
pub by_warmth : {a b : List ℕ} (key : List ℕ) (exptime : ℤ) (size : ℕ) (fetched warm same : Bool) → warm ≡ same → Writes a b (set_lines key exptime size warm fetched) → Writes a b (set_lines key exptime size same fetched)
by_warmth {a} {b} key exptime size fetched warm same e w = subst (λ z. Writes a b (set_lines key exptime size z fetched)) e w

-- lines of actors in front of lines of clients
pub quiet_first : {a b c : List ℕ} {cs : List ScriptLine} → Writes a b [] → Writes b c cs → Writes a c cs
quiet_first x y = more x y

-- an item that is too large, and one that is stored
pub item_left : {A : Type 0} (a : List ℕ) (p : Placed A) → nat_lt 1048576 p.item.size ≡ true → Writes a a (item_lines p)
item_left a p t = when (nat_lt 1048576 p.item.size) [] (stored_lines p) t (writes_none a)

pub item_stored : {A : Type 0} {a b c : List ℕ} (p : Placed A) → nat_lt 1048576 p.item.size ≡ false → Writes a b [] → Writes b c (stored_lines p) → Writes a c (item_lines p)
item_stored p t x y = unless (nat_lt 1048576 p.item.size) [] (stored_lines p) t (quiet_first x y)

-- shares and age factors are set
pub tuned : {a b : List ℕ} (t : PlainTune) → Adds a b (TuneLine t ∷ []) → Writes a b []
tuned {a} {b} t x = setup_writes a b (Some t) None x

-- no element is left
pub none_left : {X : Type 0} (xs : List X) → length xs ≡ 0 → xs ≡ []
none_left [] h = refl
none_left (x ∷ xs) h = absurd (omega (arith, h))

-- ---- the whole

pub starts : {A : Type 0} {a b c d e : List ℕ} (ps : List (Placed A)) → Writes a b [] → Fills b c → Writes c d (items_lines ps) → Writes d e [] → Starts a e ps
starts ps x f y z = record {
  fills = f.clients;
  are_fills = f.fills;
  writes = then_quiet (more (quiet_first x f.writes) y) z;
}
