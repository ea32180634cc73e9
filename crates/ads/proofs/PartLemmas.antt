-- Lists that are part of others, and numbers that never fall.
use Rattle.std.proofs.Common.{◌≡◌, inl, inr, ℕ, ◌≤◌, List, [], ◌∷◌, ◌++◌, length, map, refl, ap, sym, subst, arith, length-append}
use Rattle.std.specs.List.{AllByRecursion}
use Rattle.ads.specs.Schedules.{NeverFalls, IsPart, IsLast}
pub use Rattle.ads.proofs.Lists.{all_push as all_put}

-- ---- parts

pub part_same : {A : Type 0} (xs : List A) → IsPart xs xs
part_same [] = tt
part_same (x ∷ xs) = inl (refl, part_same xs)

pub part_more : {A : Type 0} (ys xs zs : List A) → IsPart xs ys → IsPart xs (ys ++ zs)
part_more ys [] zs part = tt
part_more [] (x ∷ xs) zs part = absurd part
part_more (y ∷ ys) (x ∷ xs) zs (inl (same, part)) = inl (same, part_more ys xs zs part)
part_more (y ∷ ys) (x ∷ xs) zs (inr part) = inr (part_more ys (x ∷ xs) zs part)

pub part_behind : {A : Type 0} (ys xs zs : List A) → IsPart xs zs → IsPart xs (ys ++ zs)
part_behind [] xs zs part = part
part_behind (y ∷ ys) [] zs part = tt
part_behind (y ∷ ys) (x ∷ xs) zs part = inr (part_behind ys (x ∷ xs) zs part)

-- parts of both, one after the other
pub part_append : {A : Type 0} (ys xs us vs : List A) → IsPart xs ys → IsPart us vs
    → IsPart (xs ++ us) (ys ++ vs)
part_append ys [] us vs part more = part_behind ys us vs more
part_append [] (x ∷ xs) us vs part more = absurd part
part_append (y ∷ ys) (x ∷ xs) us vs (inl (same, part)) more = inl (same, part_append ys xs us vs part more)
part_append (y ∷ ys) (x ∷ xs) us vs (inr part) more = inr (part_append ys (x ∷ xs) us vs part more)

part_tail : {A : Type 0} (ys : List A) (x : A) (xs : List A) → IsPart (x ∷ xs) ys → IsPart xs ys
part_tail [] x xs part = absurd part
part_tail (y ∷ ys) x [] part = tt
part_tail (y ∷ ys) x (z ∷ xs) (inl (same, part)) = inr part
part_tail (y ∷ ys) x (z ∷ xs) (inr part) = inr (part_tail ys x (z ∷ xs) part)

part_drop : {A : Type 0} (a xs ys : List A) → IsPart (a ++ xs) ys → IsPart xs ys
part_drop [] xs ys part = part
part_drop (x ∷ a) xs ys part = part_drop a xs ys (part_tail ys x (a ++ xs) part)

-- without what stands in the middle
pub part_without : {A : Type 0} (ys xs a zs : List A) → IsPart (xs ++ (a ++ zs)) ys → IsPart (xs ++ zs) ys
part_without ys [] a zs part = part_drop a zs ys part
part_without [] (x ∷ xs) a zs part = absurd part
part_without (y ∷ ys) (x ∷ xs) a zs (inl (same, part)) = inl (same, part_without ys xs a zs part)
part_without (y ∷ ys) (x ∷ xs) a zs (inr part) = inr (part_without ys (x ∷ xs) a zs part)

pub part_map : {A B : Type 0} (f : A → B) (ys xs : List A) → IsPart xs ys → IsPart (map f xs) (map f ys)
part_map f ys [] part = tt
part_map f [] (x ∷ xs) part = absurd part
part_map f (y ∷ ys) (x ∷ xs) (inl (same, part)) = inl (ap f same, part_map f ys xs part)
part_map f (y ∷ ys) (x ∷ xs) (inr part) = inr (part_map f ys (x ∷ xs) part)

pub all_part : {A : Type 0} (P : A → Type 0) (ys xs : List A) → IsPart xs ys → AllByRecursion P ys
    → AllByRecursion P xs
all_part P ys [] part all = tt
all_part P [] (x ∷ xs) part all = absurd part
all_part P (y ∷ ys) (x ∷ xs) (inl (same, part)) (first, all) =
    (subst P (sym same) first, all_part P ys xs part all)
all_part P (y ∷ ys) (x ∷ xs) (inr part) (first, all) = all_part P ys (x ∷ xs) part all

-- ---- numbers that never fall

pub falls_part : (ys xs : List ℕ) → IsPart xs ys → NeverFalls ys → NeverFalls xs
falls_part ys [] part falls = tt
falls_part [] (x ∷ xs) part falls = absurd part
falls_part (y ∷ ys) (x ∷ xs) (inl (same, part)) (first, falls) = (
  all_part (λ m. x ≤ m) ys xs part (subst (λ z. AllByRecursion (λ m. z ≤ m) ys) (sym same) first),
  falls_part ys xs part falls,
)
falls_part (y ∷ ys) (x ∷ xs) (inr part) (first, falls) = falls_part ys (x ∷ xs) part falls

pub all_weaker : {A : Type 0} (P Q : A → Type 0) → ((x : A) → P x → Q x) → (xs : List A)
    → AllByRecursion P xs → AllByRecursion Q xs
all_weaker P Q weaker [] all = tt
all_weaker P Q weaker (x ∷ xs) (first, all) = (weaker x first, all_weaker P Q weaker xs all)

pub all_last : {A : Type 0} (P : A → Type 0) (xs : List A) (y : A) → AllByRecursion P (xs ++ y ∷ []) → P y
all_last P [] y all = all.0
all_last P (x ∷ xs) y all = all_last P xs y all.1

-- a number that is not less than the others comes last
pub falls_put : (xs : List ℕ) (n : ℕ) → NeverFalls xs → AllByRecursion (λ m. m ≤ n) xs
    → NeverFalls (xs ++ n ∷ [])
falls_put [] n falls within = (tt, tt)
falls_put (x ∷ xs) n (first, falls) (below, within) =
    (all_put (λ m. x ≤ m) xs n first below, falls_put xs n falls within)

-- ---- the last number

pub last_none : (n : ℕ) → IsLast n [] → ⊥
last_none n (before, is) = absurd (omega (arith, ap length is, length-append before (n ∷ [])))

put_one : (xs ys : List ℕ) (m n : ℕ) → xs ++ m ∷ [] ≡ ys ++ n ∷ [] → m ≡ n
put_one [] [] m n is = cc is
put_one [] (y ∷ ys) m n is = absurd (omega (arith, ap length is, length-append ys (n ∷ [])))
put_one (x ∷ xs) [] m n is = absurd (omega (arith, ap length is, length-append xs (m ∷ [])))
put_one (x ∷ xs) (y ∷ ys) m n is = let tail : xs ++ m ∷ [] ≡ ys ++ n ∷ [] = cc is in put_one xs ys m n tail

pub last_put : (xs : List ℕ) (m n : ℕ) → IsLast n (xs ++ m ∷ []) → n ≡ m
last_put xs m n (before, is) = sym (put_one xs before m n is)

last_some : (xs : List ℕ) (x : ℕ) → (k : ℕ) × IsLast k (x ∷ xs)
last_some [] x = (x, ([], refl))
last_some (y ∷ xs) x =
    let more = last_some xs y in
    (more.0, (x ∷ more.1.0, ap (λ (t : List ℕ). x ∷ t) more.1.1))

last_of_one : (ys : List ℕ) (n : ℕ) → IsPart (n ∷ []) ys → NeverFalls ys → (k : ℕ) × IsLast k ys × (n ≤ k)
last_of_one [] n part falls = absurd part
last_of_one (y ∷ []) n (inl (same, part)) falls = (y, ([], refl), omega (arith, same))
last_of_one (y ∷ z ∷ ys) n (inl (same, part)) (first, falls) =
    let last = last_some ys z in
    let all : AllByRecursion (λ m. y ≤ m) (last.1.0 ++ last.0 ∷ []) =
    subst (AllByRecursion (λ m. y ≤ m)) last.1.1 first in
    let above : y ≤ last.0 = all_last (λ m. y ≤ m) last.1.0 last.0 all in
    (last.0, (y ∷ last.1.0, ap (λ (t : List ℕ). y ∷ t) last.1.1), omega (arith, same, above))
last_of_one (y ∷ ys) n (inr part) (first, falls) =
    let more = last_of_one ys n part falls in
    (more.0, (y ∷ more.1.0, ap (λ (t : List ℕ). y ∷ t) more.1.1), more.2)

-- the last number of a part is at most the last of all
pub last_part : (ys xs : List ℕ) (n : ℕ) → IsPart xs ys → NeverFalls ys → IsLast n xs
    → (k : ℕ) × IsLast k ys × (n ≤ k)
last_part ys xs n part falls (before, is) =
    last_of_one ys n (part_drop before (n ∷ []) ys (subst (λ zs. IsPart zs ys) is part)) falls
