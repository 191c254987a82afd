-- A run as its heads and its records: what is read, changed, added and kept of its nodes.
use Rattle.std.proofs.Common.{◌≡◌, ℕ, suc, zero, ◌<◌, Option, Some, List, [], ◌∷◌, ◌++◌, length, get_or, set, take, reverse, refl, ap, sym, ◌∙◌, arith}
use Rattle.rev_model.specs.Move as moves
use Rattle.rev_inverse.specs.Record.{flat, fitted, no_record}
use Rattle.rev_tree.specs.Steps.{State, PlainRecord, turned}
use Rattle.rev_tree.specs.Tree.{PlainNode}
use Rattle.rev_tree.specs.Ways.{no_node, undo_of}
use Rattle.rev_tree.specs.Runs.{PlainHead, node_of, nodes_of}
use Rattle.rev_tree.proofs.Turns.{turned_record}

pub some_inj : {X : Type 0} (x y : X) → Some x ≡ Some y → x ≡ y
some_inj x y e = cc

pub length_nodes : (hs : List PlainHead) (rs : List PlainRecord) → length rs ≡ length hs → length (nodes_of hs rs) ≡ length hs
length_nodes [] rs e = refl
length_nodes (h ∷ hs) [] e = absurd (omega (arith, e))
length_nodes (h ∷ hs) (r ∷ rs) e = ap suc (length_nodes hs rs (omega (arith, e)))

pub node_at : (hs : List PlainHead) (rs : List PlainRecord) (i : ℕ) (h : PlainHead) → length rs ≡ length hs → i < length hs → get_or (nodes_of hs rs) i no_node ≡ node_of (get_or hs i h) (get_or rs i no_record)
node_at [] rs i d e l = absurd (omega (arith, l))
node_at (h ∷ hs) [] i d e l = absurd (omega (arith, e))
node_at (h ∷ hs) (r ∷ rs) zero d e l = refl
node_at (h ∷ hs) (r ∷ rs) (suc i) d e l = node_at hs rs i d (omega (arith, e)) (omega (arith, l))

-- the record at a place of a run
pub undo_at : (hs : List PlainHead) (rs : List PlainRecord) (i : ℕ) → length rs ≡ length hs → i < length hs → (get_or (nodes_of hs rs) i no_node).undo ≡ flat (get_or rs i no_record)
undo_at [] rs i e l = absurd (omega (arith, l))
undo_at (h ∷ hs) [] i e l = absurd (omega (arith, e))
undo_at (h ∷ hs) (r ∷ rs) zero e l = refl
undo_at (h ∷ hs) (r ∷ rs) (suc i) e l = undo_at hs rs i (omega (arith, e)) (omega (arith, l))

pub set_node : (hs : List PlainHead) (rs : List PlainRecord) (i : ℕ) (r : PlainRecord) → length rs ≡ length hs → i < length hs → nodes_of hs (set rs i r) ≡ set (nodes_of hs rs) i (record (get_or (nodes_of hs rs) i no_node) { undo = flat r })
set_node [] rs i r e l = absurd (omega (arith, l))
set_node (h ∷ hs) [] i r e l = absurd (omega (arith, e))
set_node (h ∷ hs) (q ∷ rs) zero r e l = refl
set_node (h ∷ hs) (q ∷ rs) (suc i) r e l = ap (λ z. node_of h q ∷ z) (set_node hs rs i r (omega (arith, e)) (omega (arith, l)))

pub add_node : (hs : List PlainHead) (rs : List PlainRecord) (h : PlainHead) (r : PlainRecord) → length rs ≡ length hs → nodes_of (hs ++ h ∷ []) (rs ++ r ∷ []) ≡ nodes_of hs rs ++ node_of h r ∷ []
add_node [] [] h r e = refl
add_node [] (q ∷ rs) h r e = absurd (omega (arith, e))
add_node (g ∷ hs) [] h r e = absurd (omega (arith, e))
add_node (g ∷ hs) (q ∷ rs) h r e = ap (λ z. node_of g q ∷ z) (add_node hs rs h r (omega (arith, e)))

pub take_nodes : (n : ℕ) (hs : List PlainHead) (rs : List PlainRecord) → nodes_of (take n hs) (take n rs) ≡ take n (nodes_of hs rs)
take_nodes zero hs rs = refl
take_nodes (suc n) [] rs = refl
take_nodes (suc n) (h ∷ hs) [] = refl
take_nodes (suc n) (h ∷ hs) (r ∷ rs) = ap (λ z. node_of h r ∷ z) (take_nodes n hs rs)

-- a place of the run that is seen is one of the heads, and one of the records
pub in_heads : (hs : List PlainHead) (rs : List PlainRecord) (v : List PlainNode) (i : ℕ) → nodes_of hs rs ≡ v → length rs ≡ length hs → i < length v → i < length hs
in_heads hs rs v i e n l =
    let k : length v ≡ length hs = ap length (sym e) ∙ length_nodes hs rs n in
    omega (arith, k, l)

pub in_records : (hs : List PlainHead) (rs : List PlainRecord) (v : List PlainNode) (i : ℕ) → nodes_of hs rs ≡ v → length rs ≡ length hs → i < length v → i < length rs
in_records hs rs v i e n l =
    let k = in_heads hs rs v i e n l in
    omega (arith, k, n)

-- the node that is seen at the place of a head, and its record
pub node_seen : (hs : List PlainHead) (rs : List PlainRecord) (v : List PlainNode) (i : ℕ) (h : PlainHead) → nodes_of hs rs ≡ v → length rs ≡ length hs → i < length v → h ≡ get_or hs i h → get_or v i no_node ≡ node_of h (get_or rs i no_record)
node_seen hs rs v i h e n l q =
    ap (λ z. get_or z i no_node) (sym e)
    ∙ node_at hs rs i h n (in_heads hs rs v i e n l)
    ∙ ap (λ z. node_of z (get_or rs i no_record)) (sym q)

pub undo_seen : (hs : List PlainHead) (rs : List PlainRecord) (v : List PlainNode) (i : ℕ) → nodes_of hs rs ≡ v → length rs ≡ length hs → i < length v → (get_or v i no_node).undo ≡ flat (get_or rs i no_record)
undo_seen hs rs v i e n l = ap (λ z. (get_or z i no_node).undo) (sym e) ∙ undo_at hs rs i n (in_heads hs rs v i e n l)

-- a run whose record at a place was turned
pub turned_run : (hs : List PlainHead) (rs qs : List PlainRecord) (v : List PlainNode) (i : ℕ) (s : State) → nodes_of hs rs ≡ v → length rs ≡ length hs → i < length v → qs ≡ set rs i (get_or qs i no_record) →
    (get_or qs i no_record).moves ≡ (moves.turned (get_or rs i no_record).moves s).1 → (get_or qs i no_record).notes ≡ reverse (get_or rs i no_record).notes →
    nodes_of hs qs ≡ set v i (record (get_or v i no_node) { undo = (turned (undo_of v i) s).1 })
turned_run hs rs qs v i s e n l eq em en =
    let u = undo_seen hs rs v i e n l in
    ap (λ z. nodes_of hs z) eq
    ∙ set_node hs rs i (get_or qs i no_record) n (in_heads hs rs v i e n l)
    ∙ ap (λ z. set z i (record (get_or z i no_node) { undo = flat (get_or qs i no_record) })) e
    ∙ ap (λ z. set v i (record (get_or v i no_node) { undo = z })) (turned_record (get_or rs i no_record) (get_or qs i no_record) s em en ∙ ap (λ z. (turned z s).1) (sym u))

-- a run with one more node, which was held out
pub pushed_run : (hs ks : List PlainHead) (rs qs : List PlainRecord) (h : PlainHead) (r : PlainRecord) (v : List PlainNode) (o : Option PlainNode) (n : PlainNode) → nodes_of hs rs ≡ v → length rs ≡ length hs → ks ≡ hs ++ h ∷ [] → qs ≡ rs ++ fitted r ∷ [] → o ≡ Some (node_of h r) → o ≡ Some n → nodes_of ks qs ≡ v ++ n ∷ []
pushed_run hs ks rs qs h r v o n e l ek eq eo held =
    ap (λ z. nodes_of z qs) ek
    ∙ ap (λ z. nodes_of (hs ++ h ∷ []) z) eq
    ∙ add_node hs rs h (fitted r) l
    ∙ ap (λ z. z ++ node_of h r ∷ []) e
    ∙ ap (λ z. v ++ z ∷ []) (some_inj _ _ (sym eo ∙ held))
