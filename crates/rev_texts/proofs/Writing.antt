-- Texts that are written one behind another.
use Rattle.std.proofs.Common.{◌≡◌, ℕ, List, ◌++◌, ◌∙◌, ap, append_assoc, Result, Ok, Err, OnOk}
use Rattle.std.specs.Bool.{if◌then◌else◌}
use Rattle.std.specs.Result.{is_ok}

-- one text behind what was written already
pub behind : (a b c x t : List ℕ) → b ≡ a ++ x → c ≡ b ++ t → c ≡ a ++ (x ++ t)
behind a b c x t e n = n ∙ ap (λ l. l ++ t) e ∙ append_assoc a x t

-- what is told of a slice that was written
pub wrote : {T E : Type 0} (r : Result T E) (b c t : List ℕ) → c ≡ (if is_ok r then b ++ t else b) → OnOk r (c ≡ b ++ t)
wrote (Ok v) b c t h = h
wrote (Err e) b c t h = tt

-- so many texts, one behind another
pub two : (t1 t2 a0 a1 a2 : List ℕ) → a1 ≡ a0 ++ t1 → a2 ≡ a1 ++ t2 → a2 ≡ a0 ++ (t1 ++ t2)
two t1 t2 a0 a1 a2 e1 e2 = behind a0 a1 a2 t1 t2 e1 e2

pub three : (t1 t2 t3 a0 a1 a2 a3 : List ℕ) → a1 ≡ a0 ++ t1 → a2 ≡ a1 ++ t2 → a3 ≡ a2 ++ t3 → a3 ≡ a0 ++ (t1 ++ t2 ++ t3)
three t1 t2 t3 a0 a1 a2 a3 e1 e2 e3 = behind a0 a2 a3 (t1 ++ t2) t3 (two t1 t2 a0 a1 a2 e1 e2) e3

pub four : (t1 t2 t3 t4 a0 a1 a2 a3 a4 : List ℕ) → a1 ≡ a0 ++ t1 → a2 ≡ a1 ++ t2 → a3 ≡ a2 ++ t3 → a4 ≡ a3 ++ t4 → a4 ≡ a0 ++ (t1 ++ t2 ++ t3 ++ t4)
four t1 t2 t3 t4 a0 a1 a2 a3 a4 e1 e2 e3 e4 = behind a0 a3 a4 (t1 ++ t2 ++ t3) t4 (three t1 t2 t3 a0 a1 a2 a3 e1 e2 e3) e4

pub five : (t1 t2 t3 t4 t5 a0 a1 a2 a3 a4 a5 : List ℕ) → a1 ≡ a0 ++ t1 → a2 ≡ a1 ++ t2 → a3 ≡ a2 ++ t3 → a4 ≡ a3 ++ t4 → a5 ≡ a4 ++ t5 → a5 ≡ a0 ++ (t1 ++ t2 ++ t3 ++ t4 ++ t5)
five t1 t2 t3 t4 t5 a0 a1 a2 a3 a4 a5 e1 e2 e3 e4 e5 = behind a0 a4 a5 (t1 ++ t2 ++ t3 ++ t4) t5 (four t1 t2 t3 t4 a0 a1 a2 a3 a4 e1 e2 e3 e4) e5

pub six : (t1 t2 t3 t4 t5 t6 a0 a1 a2 a3 a4 a5 a6 : List ℕ) → a1 ≡ a0 ++ t1 → a2 ≡ a1 ++ t2 → a3 ≡ a2 ++ t3 → a4 ≡ a3 ++ t4 → a5 ≡ a4 ++ t5 → a6 ≡ a5 ++ t6 → a6 ≡ a0 ++ (t1 ++ t2 ++ t3 ++ t4 ++ t5 ++ t6)
six t1 t2 t3 t4 t5 t6 a0 a1 a2 a3 a4 a5 a6 e1 e2 e3 e4 e5 e6 = behind a0 a5 a6 (t1 ++ t2 ++ t3 ++ t4 ++ t5) t6 (five t1 t2 t3 t4 t5 a0 a1 a2 a3 a4 a5 e1 e2 e3 e4 e5) e6

pub seven : (t1 t2 t3 t4 t5 t6 t7 a0 a1 a2 a3 a4 a5 a6 a7 : List ℕ) → a1 ≡ a0 ++ t1 → a2 ≡ a1 ++ t2 → a3 ≡ a2 ++ t3 → a4 ≡ a3 ++ t4 → a5 ≡ a4 ++ t5 → a6 ≡ a5 ++ t6 → a7 ≡ a6 ++ t7 → a7 ≡ a0 ++ (t1 ++ t2 ++ t3 ++ t4 ++ t5 ++ t6 ++ t7)
seven t1 t2 t3 t4 t5 t6 t7 a0 a1 a2 a3 a4 a5 a6 a7 e1 e2 e3 e4 e5 e6 e7 = behind a0 a6 a7 (t1 ++ t2 ++ t3 ++ t4 ++ t5 ++ t6) t7 (six t1 t2 t3 t4 t5 t6 a0 a1 a2 a3 a4 a5 a6 e1 e2 e3 e4 e5 e6) e7

pub eight : (t1 t2 t3 t4 t5 t6 t7 t8 a0 a1 a2 a3 a4 a5 a6 a7 a8 : List ℕ) → a1 ≡ a0 ++ t1 → a2 ≡ a1 ++ t2 → a3 ≡ a2 ++ t3 → a4 ≡ a3 ++ t4 → a5 ≡ a4 ++ t5 → a6 ≡ a5 ++ t6 → a7 ≡ a6 ++ t7 → a8 ≡ a7 ++ t8 → a8 ≡ a0 ++ (t1 ++ t2 ++ t3 ++ t4 ++ t5 ++ t6 ++ t7 ++ t8)
eight t1 t2 t3 t4 t5 t6 t7 t8 a0 a1 a2 a3 a4 a5 a6 a7 a8 e1 e2 e3 e4 e5 e6 e7 e8 = behind a0 a7 a8 (t1 ++ t2 ++ t3 ++ t4 ++ t5 ++ t6 ++ t7) t8 (seven t1 t2 t3 t4 t5 t6 t7 a0 a1 a2 a3 a4 a5 a6 a7 e1 e2 e3 e4 e5 e6 e7) e8

pub nine : (t1 t2 t3 t4 t5 t6 t7 t8 t9 a0 a1 a2 a3 a4 a5 a6 a7 a8 a9 : List ℕ) → a1 ≡ a0 ++ t1 → a2 ≡ a1 ++ t2 → a3 ≡ a2 ++ t3 → a4 ≡ a3 ++ t4 → a5 ≡ a4 ++ t5 → a6 ≡ a5 ++ t6 → a7 ≡ a6 ++ t7 → a8 ≡ a7 ++ t8 → a9 ≡ a8 ++ t9 → a9 ≡ a0 ++ (t1 ++ t2 ++ t3 ++ t4 ++ t5 ++ t6 ++ t7 ++ t8 ++ t9)
nine t1 t2 t3 t4 t5 t6 t7 t8 t9 a0 a1 a2 a3 a4 a5 a6 a7 a8 a9 e1 e2 e3 e4 e5 e6 e7 e8 e9 = behind a0 a8 a9 (t1 ++ t2 ++ t3 ++ t4 ++ t5 ++ t6 ++ t7 ++ t8) t9 (eight t1 t2 t3 t4 t5 t6 t7 t8 a0 a1 a2 a3 a4 a5 a6 a7 a8 e1 e2 e3 e4 e5 e6 e7 e8) e9
