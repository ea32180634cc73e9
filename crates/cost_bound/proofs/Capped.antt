-- Numbers of 64 bits that stand for whole numbers without limit: what holds of sums and products of
-- the whole numbers holds of theirs.
use Rattle.std.proofs.Common.{◌≡◌, ℕ, zero, suc, ◌+◌, ◌*◌, ◌-◌, ◌<◌, ◌≤◌, ◌^◌, refl, sym, ◌∙◌, arith, inl, inr, mul-zero, mul_comm, mul-one}
use Rattle.std.proofs.lemmas.Bool.{cases_lt}
use Rattle.std.proofs.lemmas.Nat.{mul-le}
use Rattle.cost_bound.specs.private.Numbers.{capped}

-- a number of 64 bits is itself
pub capped_same : (n : ℕ) → n < 2 ^ 64 → capped n ≡ n
capped_same n h = omega arith

-- a number that is more is the greatest
pub capped_high : (n : ℕ) → 2 ^ 64 - 1 < n → capped n ≡ 2 ^ 64 - 1
capped_high n h = omega arith

high_product : (m n : ℕ) → 2 ^ 64 - 1 < m → capped (capped m * capped n) ≡ capped (m * n)
high_product m zero h =
    let left : capped m * capped zero ≡ zero = mul-zero (capped m) in
    let right : m * zero ≡ zero = mul-zero m in
    rw (left, right) refl
high_product m (suc n) h =
    let some : 1 ≤ capped (suc n) = omega arith in
    let greatest : capped m ≡ 2 ^ 64 - 1 = capped_high m h in
    let left : capped m * 1 ≤ capped m * capped (suc n) =
    mul-le (capped m) 1 (capped m) (capped (suc n)) (omega arith) some in
    let right : m * 1 ≤ m * suc n = mul-le m 1 m (suc n) (omega arith) (omega arith) in
    let one : capped m * 1 ≡ capped m = mul-one (capped m) in
    let other : m * 1 ≡ m = mul-one m in
    let first : capped (capped m * capped (suc n)) ≡ 2 ^ 64 - 1 = omega arith in
    let second : capped (m * suc n) ≡ 2 ^ 64 - 1 = omega arith in
    first ∙ sym second

pub capped_product : (m n : ℕ) → capped (capped m * capped n) ≡ capped (m * n)
capped_product m n = elim (cases_lt (2 ^ 64 - 1) m) [
  | inl high ↦ high_product m n high
  | inr low ↦ elim (cases_lt (2 ^ 64 - 1) n) [
    | inl high ↦ rw (mul_comm (capped m) (capped n), mul_comm m n) (high_product n m high)
    | inr small ↦
        let first : capped m ≡ m = omega arith in
        let second : capped n ≡ n = omega arith in
        rw (first, second) refl
  ]
]

-- one and a part were paid: the part was no more than 64 bits
pub paid : (left part rest n : ℕ) → left < 2 ^ 64 → part ≡ capped n → left ≡ 1 + part + rest
    → left ≡ 1 + n + rest
paid left part rest n fits is e = omega arith

-- what is short of the capped is short of the whole
pub short : (left part n : ℕ) → part ≡ capped n → left < 1 + part → left < 1 + n
short left part n is h = omega arith

-- one and more, less one
pub one_less : (n : ℕ) → n ≡ 1 + n - 1
one_less n = omega arith

-- with what was paid before, one and a part were paid, or are more than what was left
pub paid_all : (left before rest n out : ℕ) → left ≡ before + rest → rest ≡ 1 + n + out
    → left ≡ before + (1 + n) + out
paid_all left before rest n out e f = omega arith

pub short_all : (left before rest n : ℕ) → left ≡ before + rest → rest < 1 + n → left < before + (1 + n)
short_all left before rest n e f = omega arith
