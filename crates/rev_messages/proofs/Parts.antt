-- Parts of a text, written one behind another.
use Rattle.std.proofs.Common.{◌≡◌, ◌<◌, ℕ, zero, suc, ◌+◌, List, [], ◌∷◌, ◌++◌, length, map, drop, slice_index_or, Option, Result, Ok, Err, OnOk, OnErr, refl, sym, subst, ◌∙◌, ap, arith, append_assoc, append-nil}
use Rattle.std.specs.Io.KnownBytes.{Appends}
use Rattle.std.proofs.KnownBytes.{Appends-nil, Appends-trans}
use Rattle.rev_output.specs.Sink.{WroteFront}
use Rattle.rev_output.specs.Sink as failures
use Rattle.std.specs.List.{concat}
use Rattle.rev_messages.specs.Telling.{Told, joined, joined_to}

drop-at : {X : Type 0} (xs : List X) (n : ℕ) (d : X) → n < length xs → drop n xs ≡ slice_index_or xs n d ∷ drop (suc n) xs
drop-at [] n d lt = absurd (omega (arith, lt))
drop-at (x ∷ xs) zero d lt = refl
drop-at (x ∷ xs) (suc n) d lt = drop-at xs n d (omega (arith, lt))

joined_to-is : (front : List ℕ) (xs : List (List ℕ)) → joined_to front xs ≡ front ++ concat xs
joined_to-is front [] = sym (append-nil front)
joined_to-is front (x ∷ xs) = joined_to-is (front ++ x) xs ∙ append_assoc front x (concat xs)

pub joined-is : (xs : List (List ℕ)) → concat xs ≡ joined xs
joined-is [] = refl
joined-is (x ∷ xs) = sym (joined_to-is x xs)

-- the part at a place stands in front of those that are left
pub concat-next : {X : Type 0} (f : X → List ℕ) (xs : List X) (n : ℕ) (d : X) → n < length xs →
    concat (map f (drop n xs)) ≡ f (slice_index_or xs n d) ++ concat (map f (drop (n + 1) xs))
concat-next f xs n d lt = let e : n + 1 ≡ suc n = omega arith in rw e (ap (λ l. concat (map f l)) (drop-at xs n d lt))

-- so much was written, and this is left of the whole text
pub record IsSoFar (old now : Option (List ℕ)) (rest all : List ℕ) : Type 0 where
  pub front : List ℕ
  pub wrote : Appends old now front
  pub all_is : front ++ rest ≡ all

pub none_yet : {X : Type 0} (f : X → List ℕ) (xs : List X) (old : Option (List ℕ)) → IsSoFar old old (concat (map f (drop 0 xs))) (joined (map f xs))
none_yet f xs old = record { front = []; wrote = Appends-nil old; all_is = joined-is (map f xs) }

pub one_more : (old now new : Option (List ℕ)) (part rest left all : List ℕ) → IsSoFar old now left all → left ≡ part ++ rest → Appends now new part → IsSoFar old new rest all
one_more old now new part rest left all s e w = record {
  front = s.front ++ part;
  wrote = Appends-trans old now new s.front part s.wrote w;
  all_is = append_assoc s.front part rest ∙ ap (λ l. s.front ++ l) (sym e) ∙ s.all_is;
}

pub all_of : (old now : Option (List ℕ)) (rest all : List ℕ) → IsSoFar old now rest all → rest ≡ [] → Appends old now all
all_of old now rest all s none = let e : s.front ≡ all = sym (append-nil s.front) ∙ ap (λ l. s.front ++ l) (sym none) ∙ s.all_is in subst (λ l. Appends old now l) e s.wrote

one_more-differs : (n : ℕ) → failures.one_more n ≡ n → ⊥
one_more-differs n e = omega (arith, e)

pub told_all : (old now : Option (List ℕ)) (before after : ℕ) (all : List ℕ) → Appends old now all → Told old now before after all
told_all old now before after all w = record { front = (all, [], w, append-nil all); whole = λ _. w }

pub told_front : (old now new : Option (List ℕ)) (before after : ℕ) (part rest left all : List ℕ) → IsSoFar old now left all → left ≡ part ++ rest → WroteFront now new part → after ≡ failures.one_more before → Told old new before after all
told_front old now new before after part rest left all s e w bad = record {
  front = (
    s.front ++ w.0,
    w.1 ++ rest,
    Appends-trans old now new s.front w.0 s.wrote w.2,
    append_assoc s.front w.0 (w.1 ++ rest) ∙ ap (λ l. s.front ++ l) (sym (append_assoc w.0 w.1 rest) ∙ ap (λ l. l ++ rest) w.3 ∙ sym e) ∙ s.all_is,
  );
  whole = λ good. absurd (one_more-differs before (sym bad ∙ good));
}

-- what was written at once
pub told_by : {X E : Type 0} (r : Result X E) (old new : Option (List ℕ)) (before after : ℕ) (all : List ℕ) →
    OnOk r (Appends old new all × (after ≡ before)) → OnErr r (WroteFront old new all × (after ≡ failures.one_more before)) → Told old new before after all
told_by (Ok x) old new before after all ok err = told_all old new before after all ok.0
told_by (Err e) old new before after all ok err = record { front = err.0; whole = λ good. absurd (one_more-differs before (sym err.1 ∙ good)) }
