-- That a draft of the key's live item is the plan to rewrite it, and that the plans are those of the commands.
use Rattle.std.specs.Prelude.{ℕ, ◌≡◌, cond, List, [], ◌++◌, None, Some, Bool, true, false, refl}
use Rattle.std.proofs.Common.{sym, ◌∙◌, ap, subst, IfOk, Result}
use Rattle.std.proofs.lemmas.Result.{IfOk-weaker}
use Rattle.std.specs.Fmt.{decimal}
use Rattle.rev_items.specs.Plain.{PlainItem}
use Rattle.rev_items.specs.Rules.{footprint_of}
use Rattle.rev_model.specs.State.{State}
use Rattle.rev_model.specs.Words.{class_of, new_item}
use Rattle.rev_model.specs.declared.Outcome.{Outcome}
use Rattle.rev_model.specs.declared.Outcome.TheVariants.{TooLarge, NotStored, NotFound, NotNumber, Stored, Number}
use Rattle.rev_model.specs.Client.{Payload, Bytes, Skipped, Side, Sum, bytes_of, class_for, rewritten, rewritten_class, lookup, count_as, join, join_found, joined, count, count_found, is_number, digits_from, summed}
use Rattle.rev_model.specs.Causes.{look_removals, rewrite_in_removals, rewritten_removals, rewrite_removals, join_removals, join_found_removals, count_removals, count_found_removals}
use Rattle.rev_model.specs.Track.{Removal}
use Rattle.rev_commands.proofs.Living.{Lives}
use Rattle.rev_commands.specs.Numbers.{number_in}
use Rattle.rev_commands.specs.Rewriting.{rewritten_in}
use Rattle.rev_commands.proofs.Rewriting.{rewritten_fits}
use Rattle.rev_commands.specs.Drafts.{Drafted, Renews, IsDraft, IsPlan}
use Rattle.rev_commands.specs.declared.plan.Draft.{Draft}
use Rattle.rev_commands.specs.declared.plan.Plan.{Plan}
use Rattle.rev_commands.specs.declared.plan.Plan.TheVariants.{Missing, Refused, Replaced}

fits_of : (s : State) (i j : PlainItem) (p : Payload) (c : ℕ) → class_for s i.key i.flags p ≡ Some c → j ≡ new_item s i.key (bytes_of p) i.flags i.moment → class_of s.fixed (footprint_of j) ≡ Some c
fits_of s i j (Bytes bs) c h e = ap (λ (t : PlainItem). class_of s.fixed (footprint_of t)) e ∙ h
fits_of s i j (Skipped n) c h e = absurd (cc)

module _ (s : State) (k : List ℕ) (i : PlainItem) (p : Payload) (gone done : Outcome) where
  refused : (o : Outcome) → o ≡ TooLarge → class_for s i.key i.flags p ≡ None → (s, o) ≡ rewritten s i p gone done
  refused o e h = ap (λ (r : Outcome). (s, r)) e ∙ ap (rewritten_class s i.key (bytes_of p) i.flags i.moment gone done) (sym h)

  carries : {A : Type 0} (d : Draft A) → i.key ≡ k → Renews s i p done d → rewritten_in s d.class k d.item.value d.item.flags d.item.moment gone d.answer ≡ rewritten s i p gone done
  carries d e r =
      ap (λ (j : PlainItem). rewritten_in s d.class k j.value j.flags j.moment gone d.answer) r.item
      ∙ ap (λ (l : List ℕ). rewritten_in s d.class l (bytes_of p) i.flags i.moment gone d.answer) (sym e)
      ∙ ap (rewritten_in s d.class i.key (bytes_of p) i.flags i.moment gone) r.answer
      ∙ rewritten_fits s i p gone done d.class r.class

  fitting : {A : Type 0} (d : Draft A) → i.key ≡ k → Renews s i p done d → Drafted s k d
  fitting d e r =
      let is : d.item ≡ new_item s k d.item.value d.item.flags d.item.moment = r.item ∙ ap (λ (l : List ℕ). new_item s l (bytes_of p) i.flags i.moment) e ∙ ap (λ (j : PlainItem). new_item s k j.value j.flags j.moment) (sym r.item) in
      record { class = r.within; item = is; fits = fits_of s i d.item p d.class r.class r.item }

  pub rewrites : {A : Type 0} (plan : Plan A) → Lives s k i → IsDraft s i p done plan → IsPlan s k gone (rewritten s i p gone done) (rewrite_removals s i p) plan
  rewrites Missing l h = absurd h
  rewrites (Refused o) l h = record { done = refused o h.0 h.1; told = ap (rewritten_removals s i.key) (sym h.1); fits = tt }
  rewrites (Replaced d) l h = record { done = carries d l.key h; told = ap (rewrite_in_removals s d.class) (sym l.key) ∙ ap (rewritten_removals s i.key) (sym h.class); fits = fitting d l.key h }

module _ (s : State) (k : List ℕ) (i : PlainItem) (l : Lives s k i) where
  told_by : (f g : List Removal) → f ≡ g → look_removals s k ++ f ≡ g
  told_by f g e = ap (λ r. r ++ f) l.quiet ∙ e

  -- the item is joined
  pub joins : {A : Type 0} (side : Side) (d : Payload) (plan : Plan A) → IsDraft s i (joined side i.value d) Stored plan → IsPlan s k NotStored (join s side k d) (join_removals s side k d) plan
  joins side d plan h =
      let is = rewrites s k i (joined side i.value d) NotStored Stored plan l h in
      record { done = is.done ∙ sym (ap (join_found side d) l.looked); told = is.told ∙ sym (told_by _ _ (ap (join_found_removals side d) l.looked)); fits = is.fits }

  pub joins_ok : {A E : Type 0} (r : Result (Plan A) E) (side : Side) (d p : Payload) → p ≡ joined side i.value d → IfOk r (λ plan. IsDraft s i p Stored plan) → IfOk r (λ plan. IsPlan s k NotStored (join s side k d) (join_removals s side k d) plan)
  joins_ok r side d p e h = IfOk-weaker r _ _ (λ plan f. joins side d plan (subst (λ (q : Payload). IsDraft s i q Stored plan) e f)) h

  -- the item's number is counted
  pub counts : {A : Type 0} (sum : Sum) (d n : ℕ) (plan : Plan A) → number_in i.value ≡ Some n → IsDraft s i (Bytes (decimal (summed sum n d))) (Number (summed sum n d)) plan → IsPlan s k NotFound (count s sum k d) (count_removals s sum k d) plan
  counts sum d n plan e h =
      let number = is_some_number (is_number i.value) (digits_from 0 i.value) n e in
      let is = rewrites s k i (Bytes (decimal (summed sum n d))) NotFound (Number (summed sum n d)) plan l h in
      let done : count s sum k d ≡ count_as s i (summed sum n d) =
      ap (count_found sum d) l.looked
      ∙ ap (λ b. cond b (count_as s i (summed sum (digits_from 0 i.value) d)) (s, NotNumber)) number.0
      ∙ ap (λ m. count_as s i (summed sum m d)) number.1 in
      let told : count_found_removals sum d (lookup s k) ≡ rewrite_removals s i (Bytes (decimal (summed sum n d))) =
      ap (count_found_removals sum d) l.looked
      ∙ ap (λ b. cond b (rewrite_removals s i (Bytes (decimal (summed sum (digits_from 0 i.value) d)))) []) number.0
      ∙ ap (λ m. rewrite_removals s i (Bytes (decimal (summed sum m d)))) number.1 in
      record { done = is.done ∙ sym done; told = is.told ∙ sym (told_by _ _ told); fits = is.fits }
    where
      is_some_number : (b : Bool) (m n : ℕ) → cond b (Some m) None ≡ Some n → (b ≡ true) × (m ≡ n)
      is_some_number true m n e = (refl, cc)
      is_some_number false m n e = absurd (cc)

  pub counts_ok : {A E : Type 0} (r : Result (Plan A) E) (sum : Sum) (d m n : ℕ) (p : Payload) → number_in i.value ≡ Some m → n ≡ summed sum m d → p ≡ Bytes (decimal n) → IfOk r (λ plan. IsDraft s i p (Number n) plan) → IfOk r (λ plan. IsPlan s k NotFound (count s sum k d) (count_removals s sum k d) plan)
  counts_ok r sum d m n p e is same h =
      IfOk-weaker r _ _ (λ plan f. counts sum d m plan e (subst (λ (t : ℕ). IsDraft s i (Bytes (decimal t)) (Number t) plan) is (subst (λ (q : Payload). IsDraft s i q (Number n) plan) same f))) h
