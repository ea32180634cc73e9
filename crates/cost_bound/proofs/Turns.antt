-- Turns, one after the other: once what is gathered grows no more, the others cost the same each.
use Rattle.std.proofs.Common.{◌≡◌, nat_eq, Bool, true, false, ℕ, suc, zero, ◌+◌, ◌*◌, ◌-◌, ◌<◌, ◌/◌, ◌%◌, List, [], ◌∷◌, length, refl, sym, ap, ◌∙◌, arith, suc-mul, zero-mul}
use Rattle.std.specs.Prelude.{if◌then◌else◌}
use Rattle.std.proofs.lemmas.Bool.Decides.{nat_tests}
use Rattle.cel_costs.specs.Sizes.{Size, Flat, Text, Many, Table, join}
use Rattle.cel_costs.specs.Visits.{is_same, turns_visits}
use Rattle.cel_costs.specs.Costs.{grown, turns_cost, keys_of, values_of}

less : (n : ℕ) → n ≡ suc n - 1
less n = omega arith

module _ (next : Size → Size) (turn : Size → ℕ) where
  -- what no turn grows stays as it is
  pub grown_still : (n : ℕ) (s : Size) → join s (next s) ≡ s → grown next n s ≡ s
  grown_still zero s e = refl
  grown_still (suc n) s e = ap (grown next n) e ∙ grown_still n s e

  -- and each turn costs the same
  pub turns_still : (n : ℕ) (s : Size) → join s (next s) ≡ s → turns_cost next turn n s ≡ n * turn s
  turns_still zero s e = sym (zero-mul (turn s))
  turns_still (suc n) s e =
      let others : turns_cost next turn n (join s (next s)) ≡ n * turn s =
      ap (turns_cost next turn n) e ∙ turns_still n s e in
      let all : suc n * turn s ≡ n * turn s + turn s = suc-mul n (turn s) in
      let whole : turns_cost next turn (suc n) s ≡ turn s + turns_cost next turn n (join s (next s)) = refl in
      omega arith

  -- one turn of those that are left
  pub grown_turn : (n : ℕ) (s : Size) → 0 < n → grown next n s ≡ grown next (n - 1) (join s (next s))
  grown_turn zero s h = absurd (omega arith)
  grown_turn (suc n) s h = ap (λ k. grown next k (join s (next s))) (less n)

  pub turns_turn : (n : ℕ) (s : Size) → 0 < n
      → turns_cost next turn n s ≡ turn s + turns_cost next turn (n - 1) (join s (next s))
  turns_turn zero s h = absurd (omega arith)
  turns_turn (suc n) s h = ap (λ k. turn s + turns_cost next turn k (join s (next s))) (less n)

  -- after one turn, what is gathered in the end is the same
  pub grown_next : (n : ℕ) (s s' whole : Size) → 0 < n → s' ≡ join s (next s) → grown next n s ≡ whole
      → grown next (n - 1) s' ≡ whole
  grown_next n s s' whole some one e = ap (grown next (n - 1)) one ∙ sym (grown_turn n s some) ∙ e

  -- and what the turns that are left cost is less by it
  pub turns_next : (n : ℕ) (s s' : Size) (left whole rest rest' : ℕ) → 0 < n → s' ≡ join s (next s)
      → left + turns_cost next turn n s ≡ whole + rest → rest ≡ turn s + rest'
      → left + turns_cost next turn (n - 1) s' ≡ whole + rest'
  turns_next n s s' left whole rest rest' some one e paid =
      let others = turns_turn n s some in
      let same : turns_cost next turn (n - 1) s' ≡ turns_cost next turn (n - 1) (join s (next s)) =
      ap (turns_cost next turn (n - 1)) one in
      omega arith

  -- where a turn gathers nothing more, the others cost as much as it each
  still_all : (n : ℕ) (s s' : Size) (left whole rest rest' : ℕ) → 0 < n → s' ≡ join s (next s) → s' ≡ s
      → left + turns_cost next turn n s ≡ whole + rest → rest ≡ turn s + rest'
      → left + (n - 1) * (rest - rest') ≡ whole + rest'
  still_all n s s' left whole rest rest' some one still e paid =
      let more = turns_next n s s' left whole rest rest' some one e paid in
      let each : rest - rest' ≡ turn s = omega arith in
      let all : turns_cost next turn (n - 1) s' ≡ (n - 1) * turn s =
      ap (turns_cost next turn (n - 1)) still ∙ turns_still (n - 1) s (sym one ∙ still) in
      rw (each, ← all) more

  pub still_short : (n : ℕ) (s s' : Size) (left whole rest rest' : ℕ) → 0 < n → s' ≡ join s (next s)
      → s' ≡ s → left + turns_cost next turn n s ≡ whole + rest → rest ≡ turn s + rest'
      → rest' < (n - 1) * (rest - rest') → left < whole
  still_short n s s' left whole rest rest' some one still e paid less =
      let all = still_all n s s' left whole rest rest' some one still e paid in
      omega arith

  pub still_paid : (n : ℕ) (s s' : Size) (left whole rest rest' out : ℕ) → 0 < n → s' ≡ join s (next s)
      → s' ≡ s → left + turns_cost next turn n s ≡ whole + rest → rest ≡ turn s + rest'
      → rest' ≡ (n - 1) * (rest - rest') + out → left ≡ whole + out
  still_paid n s s' left whole rest rest' out some one still e paid others =
      let all = still_all n s s' left whole rest rest' some one still e paid in
      omega arith

-- sizes that are tested to be the same are
both : (b c : Bool) → (if b then c else false) ≡ true → (b ≡ true) × (c ≡ true)
both true c h = (refl, h)
both false c h = absurd (let g : false ≡ true = h in cc)

not_true : (b : Bool) → (b ≡ true → ⊥) → b ≡ false
not_true true h = absurd (h refl)
not_true false h = refl

nat_same : (n m : ℕ) → nat_eq n m ≡ true → n ≡ m
nat_same n m h = grind (arith, nat_tests)

nat_self : (n : ℕ) → nat_eq n n ≡ true
nat_self n = grind (arith, nat_tests)

same_true : (s t : Size) → is_same s t ≡ true → s ≡ t
same_true Flat Flat h = refl
same_true Flat (Text m) h = absurd (let g : false ≡ true = h in cc)
same_true Flat (Many m f) h = absurd (let g : false ≡ true = h in cc)
same_true Flat (Table m j w) h = absurd (let g : false ≡ true = h in cc)
same_true (Text n) Flat h = absurd (let g : false ≡ true = h in cc)
same_true (Text n) (Text m) h = ap Text (nat_same n m h)
same_true (Text n) (Many m f) h = absurd (let g : false ≡ true = h in cc)
same_true (Text n) (Table m j w) h = absurd (let g : false ≡ true = h in cc)
same_true (Many n e) Flat h = absurd (let g : false ≡ true = h in cc)
same_true (Many n e) (Text m) h = absurd (let g : false ≡ true = h in cc)
same_true (Many n e) (Many m f) h =
    let p = both (nat_eq n m) (is_same e f) h in
    rw (nat_same n m p.0, same_true e f p.1) refl
same_true (Many n e) (Table m j w) h = absurd (let g : false ≡ true = h in cc)
same_true (Table n k v) Flat h = absurd (let g : false ≡ true = h in cc)
same_true (Table n k v) (Text m) h = absurd (let g : false ≡ true = h in cc)
same_true (Table n k v) (Many m f) h = absurd (let g : false ≡ true = h in cc)
same_true (Table n k v) (Table m j w) h =
    let p = both (nat_eq n m) (if is_same k j then is_same v w else false) h in
    let q = both (is_same k j) (is_same v w) p.1 in
    rw (nat_same n m p.0, same_true k j q.0, same_true v w q.1) refl

same_self : (s : Size) → is_same s s ≡ true
same_self Flat = refl
same_self (Text n) = nat_self n
same_self (Many n e) = rw (nat_self n) (same_self e)
same_self (Table n k v) = rw (nat_self n, same_self k) (same_self v)

-- the visits of turns, up to the first that gathers nothing more
module _ (next : Size → Size) (look : Size → ℕ) where
  visits_turn : (n : ℕ) (s s' : Size) (b : Bool) → 0 < n → s' ≡ join s (next s) → is_same s' s ≡ b
      → turns_visits next look n s ≡ look s + (if b then 0 else turns_visits next look (n - 1) s')
  visits_turn zero s s' b some one same = absurd (omega arith)
  visits_turn (suc n) s s' b some one same =
      rw (← same, one) (ap (λ k. look s + (if is_same (join s (next s)) s then 0
      else turns_visits next look k (join s (next s)))) (less n))

  pub visits_next : (n : ℕ) (s s' : Size) (visits whole rest rest' : ℕ) → 0 < n → s' ≡ join s (next s)
      → (s' ≡ s → ⊥) → visits + turns_visits next look n s ≡ whole + rest → rest ≡ look s + rest'
      → visits + turns_visits next look (n - 1) s' ≡ whole + rest'
  visits_next n s s' visits whole rest rest' some one other e paid =
      let all : turns_visits next look n s ≡ look s + turns_visits next look (n - 1) s' =
      visits_turn n s s' false some one (not_true _ (λ h. other (same_true s' s h))) in
      omega arith

  pub visits_still : (n : ℕ) (s s' : Size) (visits whole rest rest' : ℕ) → 0 < n → s' ≡ join s (next s)
      → s' ≡ s → visits + turns_visits next look n s ≡ whole + rest → rest ≡ look s + rest'
      → visits ≡ whole + rest'
  visits_still n s s' visits whole rest rest' some one still e paid =
      let all : turns_visits next look n s ≡ look s + 0 =
      visits_turn n s s' true some one (rw still (same_self s)) in
      omega arith

-- what is a key is a value of what stands before it
pub keys_of_more : (s : Size) (ss : List Size) → keys_of (s ∷ ss) ≡ s ∷ values_of ss
keys_of_more s [] = refl
keys_of_more s (t ∷ []) = refl
keys_of_more s (t ∷ u ∷ us) = ap (λ x. s ∷ x) (keys_of_more u us)

pub values_of_more : (s : Size) (ss : List Size) → values_of (s ∷ ss) ≡ keys_of ss
values_of_more s [] = refl
values_of_more s (t ∷ ss) = sym (keys_of_more t ss)

-- of keys and values in turn, half are keys; an odd one is a key
pub key_count_fact : (ss : List Size) → length (keys_of ss) ≡ length ss / 2 + length ss % 2
key_count_fact [] = refl
key_count_fact (k ∷ []) = refl
key_count_fact (k ∷ v ∷ ss) = let more = key_count_fact ss in omega arith
