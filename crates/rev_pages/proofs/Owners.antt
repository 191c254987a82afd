-- What the owners tell of the pages.
use Rattle.std.proofs.Common.{◌≡◌, ◌≢◌, ℕ, suc, zero, ◌+◌, ◌<◌, ◌≤◌, Bool, true, false, cond, ◌||◌, Option, Some, None, is_some, List, [], ◌∷◌, length, get_or, refl, sym, ◌∙◌, ap, arith, take, drop}
use Rattle.std.specs.Prelude.{nat_eq}
use Rattle.std.specs.List.{list_any}
use Rattle.std.proofs.lemmas.Bool.{eq-eqb, ne_eqb}
use Rattle.std.proofs.lemmas.List.{length-take-le, get_or-take}
use Rattle.rev_model.specs.Pull.{page_from}
use Rattle.rev_pages.specs.Tables.{FreeLink}
use Rattle.rev_pages.specs.State.{PagesState, state_of, IsLinked}
use Rattle.rev_pages.proofs.Counts.{read}

-- going on from a page
pub page_step : (class page : ℕ) (owner : List ℕ) → page < length owner
    → page_from page class (drop page owner) ≡ cond (nat_eq (get_or owner page 0) class) (Some page) (page_from (page + 1) class (drop (suc page) owner))
page_step class page owner l = go page owner l page
  where
    go : (i : ℕ) (xs : List ℕ) → i < length xs → (k : ℕ) → page_from k class (drop i xs) ≡ cond (nat_eq (get_or xs i 0) class) (Some k) (page_from (k + 1) class (drop (suc i) xs))
    go i [] l k = absurd (omega (arith, l))
    go zero (x ∷ xs) l k = refl
    go (suc i) (x ∷ xs) l k = go i xs (omega (arith, l)) k

-- this page is the class's, or it is not
pub page_met : (class page : ℕ) (owner : List ℕ) → page < length owner → get_or owner page 0 ≡ class → page_from page class (drop page owner) ≡ Some page
page_met class page owner l e = page_step class page owner l ∙ ap (λ b. cond b (Some page) (page_from (page + 1) class (drop (suc page) owner))) (eq-eqb (get_or owner page 0) class e)

pub page_passed : (class page : ℕ) (owner : List ℕ) → page < length owner → get_or owner page 0 ≢ class → page_from page class (drop page owner) ≡ page_from (page + 1) class (drop (page + 1) owner)
page_passed class page owner l n = page_step class page owner l ∙ ap (λ b. cond b (Some page) (page_from (page + 1) class (drop (suc page) owner))) (ne_eqb (get_or owner page 0) class n) ∙ ap (λ i. page_from (page + 1) class (drop i owner)) (let e : suc page ≡ page + 1 = omega arith in e)

pub page_end : (class page : ℕ) (owner : List ℕ) → length owner ≤ page → page_from page class (drop page owner) ≡ None
page_end class page owner l = go page owner l page
  where
    go : (i : ℕ) (xs : List ℕ) → length xs ≤ i → (k : ℕ) → page_from k class (drop i xs) ≡ None
    go zero [] l k = refl
    go (suc i) [] l k = refl
    go zero (x ∷ xs) l k = absurd (omega (arith, l))
    go (suc i) (x ∷ xs) l k = go i xs (omega (arith, l)) k

-- a lowest page is there exactly where some page is
pub some_page : (class : ℕ) (owner : List ℕ) (k : ℕ) → is_some (page_from k class owner) ≡ list_any (λ d. nat_eq d class) owner
some_page class [] k = refl
some_page class (d ∷ ds) k = go (nat_eq d class) (some_page class ds (k + 1))
  where
    go : (b : Bool) → is_some (page_from (k + 1) class ds) ≡ list_any (λ e. nat_eq e class) ds → is_some (cond b (Some k) (page_from (k + 1) class ds)) ≡ (b || list_any (λ e. nat_eq e class) ds)
    go true ih = refl
    go false ih = ih

-- where none is, there is no lowest
pub no_page : (class : ℕ) (owner : List ℕ) (k : ℕ) → list_any (λ d. nat_eq d class) owner ≡ false → None ≡ page_from k class owner
no_page class owner k e = go (page_from k class owner) (some_page class owner k ∙ e)
  where
    go : (o : Option ℕ) → is_some o ≡ false → None ≡ o
    go None n = refl
    go (Some p) n = cc

module _ (owners : List ℕ) (made : ℕ) (ends : List FreeLink) (links : List (List FreeLink)) (h : IsLinked owners made ends links) (v : PagesState) (e : state_of owners made ends links ≡ v) where
  pub made_count : made ≡ length v.owner
  made_count =
      let a : length (take made owners) ≡ length v.owner = ap (λ (q : PagesState). length q.owner) e in
      let b = length-take-le made owners h.made_within in omega arith

  pub owner_within : (page : ℕ) → page < length v.owner → page < length owners
  owner_within page l = let a = made_count in let b = h.made_within in omega arith

  pub owner_is : (page x : ℕ) → page < length v.owner → x ≡ get_or owners page x → x ≡ get_or v.owner page 0
  owner_is page x l u =
      let w = owner_within page l in
      let m = made_count in
      read owners page x w u ∙ (sym (get_or-take made owners page 0 (omega arith)) ∙ ap (λ (q : PagesState). get_or q.owner page 0) e)
