-- Varints: Protocol Buffers encoding guide, "Base 128 Varints". A varint has at most ten bytes and
-- 64 bits; it may be longer than needed.
use Rattle.std.specs.Prelude.{◌≡◌, ℕ, ◌+◌, ◌*◌, ◌%◌, ◌^◌, ◌<◌, ◌≤◌, List, [], ◌∷◌, ◌++◌, length, take, slice_index}
use Rattle.std.specs.List.{AllByRecursion}
use Rattle.proto_wire.specs.declared.fault.WireError.{WireError}
use Rattle.proto_wire.specs.declared.fault.WireError.TheVariants.{Truncated, LongVarint}

-- groups of seven bits: every byte but the last has its top bit set
abbrev pub IsGroups : List ℕ → Type 0
IsGroups [] = ⊥
IsGroups (b ∷ []) = b < 128
IsGroups (b ∷ c ∷ bs) = (128 ≤ b) × IsGroups (c ∷ bs)

-- the number that groups of seven bits spell, the lowest first
abbrev pub value_of : List ℕ → ℕ
value_of [] = 0
value_of (b ∷ bs) = b % 128 + 128 * value_of bs

-- the bytes spell the number, in at most ten groups and 64 bits (so a tenth byte is 0 or 1)
pub record SpellsVarint (bytes : List ℕ) (n : ℕ) : Type 0 where
  pub groups : IsGroups bytes
  pub short : length bytes ≤ 10
  pub value : n ≡ value_of bytes
  pub fits : n < 2 ^ 64

-- the bytes are a spelling of the number, and then the rest
pub record StartsVarint (bytes : List ℕ) (n : ℕ) (rest : List ℕ) : Type 0 where
  pub spelling : List ℕ
  pub spells : SpellsVarint spelling n
  pub whole : bytes ≡ spelling ++ rest

-- the bytes begin with no varint: they end inside one, or the tenth byte is above 1
pub data FailsVarint (bytes : List ℕ) (e : WireError) : Type 0 where
  unfinished : length bytes < 10 → AllByRecursion (λ b. 128 ≤ b) bytes → e ≡ Truncated
      → FailsVarint bytes e
  too_long : 10 ≤ length bytes → AllByRecursion (λ b. 128 ≤ b) (take 9 bytes)
      → 1 < slice_index bytes 9 → e ≡ LongVarint → FailsVarint bytes e
