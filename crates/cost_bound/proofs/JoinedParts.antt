-- Sizes are joined in any order.
use Rattle.std.proofs.Common.{◌≡◌, ℕ, max, List, [], ◌∷◌, length, refl, ap, ◌∙◌, arith}
use Rattle.cel_value.specs.Types.{ValueType}
use Rattle.cel_costs.specs.Costs.{join_all, keys_of, list_size, map_size, values_of}
use Rattle.cel_costs.specs.Sizes.{Size, Flat, Text, Many, Table, join, least}

max_assoc : (n m p : ℕ) → max (max n m) p ≡ max n (max m p)
max_assoc n m p = omega arith

max_self : (n : ℕ) → max n n ≡ n
max_self n = omega arith

max_comm : (n m : ℕ) → max n m ≡ max m n
max_comm n m = omega arith

join_assoc : (s t u : Size) → join (join s t) u ≡ join s (join t u)
join_assoc Flat t u = refl
join_assoc (Text n) Flat u = refl
join_assoc (Text n) (Text m) Flat = refl
join_assoc (Text n) (Text m) (Text p) = rw (max_assoc n m p) refl
join_assoc (Text n) (Text m) (Many p g) = rw (max_assoc n m p) refl
join_assoc (Text n) (Text m) (Table p i u) = rw (max_assoc n m p) refl
join_assoc (Text n) (Many m f) Flat = refl
join_assoc (Text n) (Many m f) (Text p) = rw (max_assoc n m p) refl
join_assoc (Text n) (Many m f) (Many p g) = rw (max_assoc n m p) refl
join_assoc (Text n) (Many m f) (Table p i u) = rw (max_assoc n m p) refl
join_assoc (Text n) (Table m l w) Flat = refl
join_assoc (Text n) (Table m l w) (Text p) = rw (max_assoc n m p) refl
join_assoc (Text n) (Table m l w) (Many p g) = rw (max_assoc n m p) refl
join_assoc (Text n) (Table m l w) (Table p i u) = rw (max_assoc n m p) refl
join_assoc (Many n e) Flat u = refl
join_assoc (Many n e) (Text m) Flat = refl
join_assoc (Many n e) (Text m) (Text p) = rw (max_assoc n m p) refl
join_assoc (Many n e) (Text m) (Many p g) = rw (max_assoc n m p) refl
join_assoc (Many n e) (Text m) (Table p i u) = rw (max_assoc n m p) refl
join_assoc (Many n e) (Many m f) Flat = refl
join_assoc (Many n e) (Many m f) (Text p) = rw (max_assoc n m p) refl
join_assoc (Many n e) (Many m f) (Many p g) = rw (max_assoc n m p, join_assoc e f g) refl
join_assoc (Many n e) (Many m f) (Table p i u) = rw (max_assoc n m p, join_assoc e f i, join_assoc e f u) refl
join_assoc (Many n e) (Table m l w) Flat = refl
join_assoc (Many n e) (Table m l w) (Text p) = rw (max_assoc n m p) refl
join_assoc (Many n e) (Table m l w) (Many p g) = rw (max_assoc n m p, join_assoc e l g, join_assoc e w g) refl
join_assoc (Many n e) (Table m l w) (Table p i u) = rw (max_assoc n m p, join_assoc e l i, join_assoc e w u) refl
join_assoc (Table n k v) Flat u = refl
join_assoc (Table n k v) (Text m) Flat = refl
join_assoc (Table n k v) (Text m) (Text p) = rw (max_assoc n m p) refl
join_assoc (Table n k v) (Text m) (Many p g) = rw (max_assoc n m p) refl
join_assoc (Table n k v) (Text m) (Table p i u) = rw (max_assoc n m p) refl
join_assoc (Table n k v) (Many m f) Flat = refl
join_assoc (Table n k v) (Many m f) (Text p) = rw (max_assoc n m p) refl
join_assoc (Table n k v) (Many m f) (Many p g) = rw (max_assoc n m p, join_assoc k f g, join_assoc v f g) refl
join_assoc (Table n k v) (Many m f) (Table p i u) = rw (max_assoc n m p, join_assoc k f i, join_assoc v f u) refl
join_assoc (Table n k v) (Table m l w) Flat = refl
join_assoc (Table n k v) (Table m l w) (Text p) = rw (max_assoc n m p) refl
join_assoc (Table n k v) (Table m l w) (Many p g) = rw (max_assoc n m p, join_assoc k l g, join_assoc v w g) refl
join_assoc (Table n k v) (Table m l w) (Table p i u) = rw (max_assoc n m p, join_assoc k l i, join_assoc v w u) refl

-- a size joined with itself
pub join_self : (s : Size) → join s s ≡ s
join_self Flat = refl
join_self (Text n) = rw (max_self n) refl
join_self (Many n e) = rw (max_self n, join_self e) refl
join_self (Table n k v) = rw (max_self n, join_self k, join_self v) refl

-- which of two sizes is first does not matter
pub join_comm : (s t : Size) → join s t ≡ join t s
join_comm Flat Flat = refl
join_comm Flat (Text m) = refl
join_comm Flat (Many m f) = refl
join_comm Flat (Table m j w) = refl
join_comm (Text n) Flat = refl
join_comm (Text n) (Text m) = rw (max_comm n m) refl
join_comm (Text n) (Many m f) = rw (max_comm n m) refl
join_comm (Text n) (Table m j w) = rw (max_comm n m) refl
join_comm (Many n e) Flat = refl
join_comm (Many n e) (Text m) = rw (max_comm n m) refl
join_comm (Many n e) (Many m f) = rw (max_comm n m, join_comm e f) refl
join_comm (Many n e) (Table m j w) = rw (max_comm n m, join_comm e j, join_comm e w) refl
join_comm (Table n k v) Flat = refl
join_comm (Table n k v) (Text m) = rw (max_comm n m) refl
join_comm (Table n k v) (Many m f) = rw (max_comm n m, join_comm k f, join_comm v f) refl
join_comm (Table n k v) (Table m j w) = rw (max_comm n m, join_comm k j, join_comm v w) refl

pub join_flat : (s : Size) → join s Flat ≡ s
join_flat Flat = refl
join_flat (Text n) = refl
join_flat (Many n e) = refl
join_flat (Table n k v) = refl

-- one more size of those that are left
pub join_next : (joined next size whole : Size) (ss : List Size) → next ≡ join joined size
    → join joined (join_all (size ∷ ss)) ≡ whole → join next (join_all ss) ≡ whole
join_next joined next size whole ss one before =
    ap (λ s. join s (join_all ss)) one ∙ join_assoc joined size (join_all ss) ∙ before

-- the size of a list literal by its number of items
pub list_none : (t : ValueType) (ss : List Size) → length ss ≡ 0 → list_size t ss ≡ least t
list_none t [] h = refl
list_none t (s ∷ ss) h = absurd (omega arith)

pub list_some : (t : ValueType) (ss : List Size) → (length ss ≡ 0 → ⊥)
    → list_size t ss ≡ Many (length ss) (join_all ss)
list_some t [] h = absurd (h refl)
list_some t (s ∷ ss) h = refl

-- the size of a map literal by its number of keys
pub map_none : (t : ValueType) (ss : List Size) → length (keys_of ss) ≡ 0 → map_size t ss ≡ least t
map_none t [] h = refl
map_none t (k ∷ []) h = absurd (omega arith)
map_none t (k ∷ v ∷ ss) h = absurd (omega arith)

pub map_some : (t : ValueType) (ss : List Size) → (length (keys_of ss) ≡ 0 → ⊥)
    → map_size t ss ≡ Table (length (keys_of ss)) (join_all (keys_of ss)) (join_all (values_of ss))
map_some t [] h = absurd (h refl)
map_some t (k ∷ ss) h = refl
