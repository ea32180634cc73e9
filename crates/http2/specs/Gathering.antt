-- A header block in its parts (RFC 9113, 4.3 and 6.10).
use Rattle.std.specs.Prelude.{◌≡◌, ◌<◌, ◌≤◌, ℕ, ◌+◌, Bool, true, false, Option, List, [], ◌++◌, length}
use Rattle.hpack.specs.Field.{Line}
use Rattle.hpack.specs.Table.{Table}
use Rattle.hpack.specs.Block.{Means, HasFault, within}
use Rattle.hpack.specs.declared.fault.Fault.{Fault}

-- a header block that is not whole: its octets, what it weighs, and HPACK's table
pub record BlockValue : Type 0 where
  pub octets : List ℕ
  pub weight : ℕ
  pub table : Table

-- before the first block; the peer's table may have 4,096 octets, since no other size is announced (RFC 9113, 6.5.2)
abbrev pub first_block : BlockValue
first_block = record { octets = []; weight = 0; table = record { entries = []; limit = 4096 } }

-- What a part makes of a block. It is too heavy, it is still a part, or it cannot be read. Else it gives its fields, if they are
-- within the limit of a field list.
pub data Gathered : Type 0 where
  heavy : Gathered
  part : Gathered
  garbled : Gathered
  whole : Option (List Line) → Gathered

-- the next part of a block: it weighs its octets, and so much more, so that even empty parts reach the limit
abbrev pub with_more : BlockValue → ℕ → List ℕ → BlockValue
with_more b more octets = record { octets = b.octets ++ octets; weight = b.weight + more + length octets; table = b.table }

-- What a block is with its last part so far. Its weight is at most 32,768. A whole block has a meaning (RFC 7541), or a fault.
pub data Gathers (b : BlockValue) (ends : Bool) (g : Gathered) (after : BlockValue) : Type 0 where
  too_heavy : 32768 < b.weight → g ≡ heavy → Gathers b ends g after
  still_part : b.weight ≤ 32768 → ends ≡ false → g ≡ part → after ≡ b → Gathers b ends g after
  means : b.weight ≤ 32768 → ends ≡ true → (fields : List Line) (table : Table)
      → Means 4096 false b.table b.octets fields table → g ≡ whole (within 16384 fields)
      → after ≡ record { octets = []; weight = 0; table = table } → Gathers b ends g after
  faulty : b.weight ≤ 32768 → ends ≡ true → (f : Fault) → HasFault 4096 false b.table b.octets f → g ≡ garbled
      → Gathers b ends g after
