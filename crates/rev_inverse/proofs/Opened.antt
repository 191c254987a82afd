-- A store over parts that were just opened.
use Rattle.std.specs.Prelude.{ℕ, zero, suc, ◌≡◌, ◌≤◌, ◌+◌, ◌*◌, List, [], ◌∷◌, None, length, map as map_list, replicate, slice_index, refl}
use Rattle.std.specs.FinMap as map
use Rattle.std.proofs.Common.{sym, ◌∙◌, ap, subst}
use Rattle.std.proofs.lemmas.List.{length-replicate}
use Rattle.rev_links.specs.Rings.{In}
use Rattle.rev_classes.specs.Limits.{class_sizes, fault_of}
use Rattle.rev_classes.specs.Table.{PlainTable}
use Rattle.rev_classes.specs.declared.Config.{Config}
use Rattle.rev_model.specs.State.{State, Fixed}
use Rattle.rev_model.specs.declared.BumpEntry.{BumpEntry}
use Rattle.rev_model.specs.declared.Entry.{Entry}
use Rattle.rev_model.specs.declared.Globals.{Globals}
use Rattle.rev_pages.specs.State.{PagesState, no_pages}
use Rattle.rev_queues.specs.Entries.{entries}
use Rattle.rev_queues.specs.QueueState.{QueuesState, empty_queues}
use Rattle.rev_index.specs.Index.{PlainIndex, empty_index}
use Rattle.rev_inverse.specs.Empty.{empty_globals, empty_state}
use Rattle.rev_inverse.proofs.Empty.{has_limits, none_at}
use Rattle.rev_inverse.specs.Fitted.{Fitted}

zero_at : (n p : ℕ) → slice_index (replicate n 0) p ≡ 0
zero_at zero p = refl
zero_at (suc n) zero = refl
zero_at (suc n) (suc p) = zero_at n p

no_entries : (n : ℕ) → map_list entries (replicate n []) ≡ replicate n []
no_entries zero = refl
no_entries (suc n) = ap (λ (l : List (List Entry)). [] ∷ l) (no_entries n)

module _ (c : Config) (t : PlainTable) (pages : PagesState) (queues : QueuesState) (index : PlainIndex)
    (no_page : pages ≡ no_pages (length t.sizes + 1) (c.pages + 62)) (no_entry : queues ≡ empty_queues (length t.sizes) c.pages) (no_item : index ≡ empty_index (c.pages + 62)) where
  pub opened_fits : (capacity : ℕ) → fault_of c ≡ None → c.bump ≤ capacity → Fitted (record { page_size = t.page_size; sizes = t.sizes; limit = c.pages; bump_room = c.bump }) pages queues index capacity
  opened_fits capacity limits room =
      let f : Fixed = record { page_size = t.page_size; sizes = t.sizes; limit = c.pages; bump_room = c.bump } in
      let fits : Fitted f (no_pages (length t.sizes + 1) (c.pages + 62)) (empty_queues (length t.sizes) c.pages) (empty_index (c.pages + 62)) capacity = record {
        table = length-replicate (c.pages + 62) 0;
        slots = zero_at (c.pages + 62);
        in_queues = refl;
        in_index = refl;
        told = λ p q i. absurd (subst (In q) (none_at (4 * (length t.sizes + 1)) p) i);
        bump = room;
        limit = (has_limits c limits).pages;
      } in
      subst (λ s. Fitted f s queues index capacity) (sym no_page)
      (subst (λ s. Fitted f (no_pages (length t.sizes + 1) (c.pages + 62)) s index capacity) (sym no_entry)
      (subst (λ s. Fitted f (no_pages (length t.sizes + 1) (c.pages + 62)) (empty_queues (length t.sizes) c.pages) s capacity) (sym no_item) fits))

  pub opened_value : (bump : List BumpEntry) (counters : List ℕ) (globals : Globals)
      → t ≡ record { page_size = c.page_size; sizes = class_sizes c } → bump ≡ [] → counters ≡ replicate (7 * (length t.sizes + 1)) 0 → globals ≡ empty_globals c
      → (let s : State = record {
        owner = pages.owner;
        free = pages.free;
        queues = map_list entries queues.queues;
        content = index.content;
        index = index.keys;
        bump = bump;
        counters = counters;
        globals = globals;
        fixed = record { page_size = t.page_size; sizes = t.sizes; limit = c.pages; bump_room = c.bump };
      } in s) ≡ empty_state c
  opened_value bump counters globals is no_bump no_count first =
      let of_table : PlainTable → State = λ u. record {
        owner = [];
        free = replicate (length u.sizes + 1) [];
        queues = replicate (4 * (length u.sizes + 1)) [];
        content = map.empty;
        index = map.empty;
        bump = [];
        counters = replicate (7 * (length u.sizes + 1)) 0;
        globals = empty_globals c;
        fixed = record { page_size = u.page_size; sizes = u.sizes; limit = c.pages; bump_room = c.bump };
      } in
      (λ i. record {
        owner = (no_page i).owner;
        free = (no_page i).free;
        queues = map_list entries (no_entry i).queues;
        content = (no_item i).content;
        index = (no_item i).keys;
        bump = no_bump i;
        counters = no_count i;
        globals = first i;
        fixed = record { page_size = t.page_size; sizes = t.sizes; limit = c.pages; bump_room = c.bump };
      })
      ∙ (λ i. record (of_table t) { queues = no_entries (4 * (length t.sizes + 1)) i })
      ∙ ap of_table is
