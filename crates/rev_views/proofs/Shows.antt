-- What a sound store's lists have once, and the texts of lists.
use Rattle.std.proofs.Common.{◌≡◌, ℕ, zero, suc, ◌+◌, ◌<◌, ◌≤◌, List, [], ◌∷◌, ◌++◌, length, take, slice_index, refl, sym, ◌∙◌, ap, arith, inl, inr, append_assoc, append-nil, slice_index_or}
use Rattle.std.proofs.lemmas.Bool.Decides.{leb_tells}
use Rattle.std.proofs.lemmas.List.Sums.{get_or-le-sum_by, sum_by-cons}
use Rattle.std.proofs.lemmas.List.{take_more, length-take-le}
use Rattle.std.specs.List.{sum_by}
use Rattle.rev_model.specs.Chunk.{same_chunk, same_entry}
use Rattle.rev_model.specs.Lists.{count}
use Rattle.rev_model.specs.Sound.{Sound}
use Rattle.rev_model.specs.State.{State, free_of, queue_of, queue_place}
use Rattle.rev_model.specs.declared.ChunkRef.{ChunkRef}
use Rattle.rev_model.specs.declared.Entry.{Entry}
use Rattle.rev_model.specs.declared.Entry.TheVariants.{Chunk, Mark}
use Rattle.rev_model.specs.declared.Queue.{Queue}
use Rattle.rev_texts.specs.Texts.{page_text, pages_text}

-- what one list of a table counts is within what all of them count
within : {X : Type 0} (f : List X → ℕ) → f [] ≡ 0 → (xs : List (List X)) (n : ℕ) → f (slice_index_or xs n []) ≤ sum_by f xs
within f z xs n = elim (leb_tells (length xs) n) [
  | inl p ↦ past f z xs n p.1
  | inr p ↦ get_or-le-sum_by f xs n [] p.1
]
  where
    past : {X : Type 0} (f : List X → ℕ) → f [] ≡ 0 → (xs : List (List X)) (n : ℕ) → length xs ≤ n → f (slice_index_or xs n []) ≤ sum_by f xs
    past f z [] n h = omega (arith, z)
    past f z (x ∷ xs) zero h = absurd (omega arith)
    past f z (x ∷ xs) (suc n) h = let k = past f z xs n (omega arith) in omega (arith, k, sum_by-cons f x xs)

pub free_once : (s : State) → Sound s → (c : ℕ) (x : ChunkRef) → count same_chunk x (free_of s c) ≤ 1
free_once s sound c x = let k = within (count same_chunk x) refl s.free c in omega (arith, k, sound.well.lists.once x)

pub queue_once : (s : State) → Sound s → (c : ℕ) (q : Queue) (e : Entry) → count same_entry e (queue_of s c q) ≤ 1
queue_once s sound c q (Chunk x) = let k = within (count same_entry (Chunk x)) refl s.queues (queue_place c q) in omega (arith, k, sound.well.lists.once x)
queue_once s sound c q Mark = sound.well.lists.one_mark (queue_place c q)

pub pages_text-more : (p : ℕ) (cs : List ℕ) (c : ℕ) → pages_text p (cs ++ c ∷ []) ≡ pages_text p cs ++ page_text (p + length cs) c
pages_text-more p [] c = append-nil (page_text p c) ∙ ap (λ n. page_text n c) (omega arith)
pages_text-more p (d ∷ ds) c =
    ap (λ t. page_text p d ++ t) (pages_text-more (suc p) ds c ∙ ap (λ n. pages_text (suc p) ds ++ page_text n c) (omega arith))
    ∙ sym (append_assoc (page_text p d) (pages_text (suc p) ds) (page_text (p + length (d ∷ ds)) c))

-- the pages' lines, one page more
pub pages_text-next : (cs : List ℕ) (n c : ℕ) → n < length cs → c ≡ slice_index cs n → pages_text 0 (take (n + 1) cs) ≡ pages_text 0 (take n cs) ++ page_text n c
pages_text-next cs n c h e =
    let size : 0 + length (take n cs) ≡ n = omega (arith, length-take-le n cs (omega (arith, h))) in
    ap (pages_text 0) (take_more cs n 0 h ∙ ap (λ d. take n cs ++ d ∷ []) (sym e))
    ∙ pages_text-more 0 (take n cs) c
    ∙ ap (λ k. pages_text 0 (take n cs) ++ page_text k c) size

-- three texts, one after another
pub three : (a b c d : List ℕ) → ((a ++ b) ++ c) ++ d ≡ a ++ ((b ++ c) ++ d)
three a b c d = ap (λ t. t ++ d) (append_assoc a b c) ∙ append_assoc a (b ++ c) d
