-- The numbers in a message's VARINT fields are below 2^64.
use Rattle.std.proofs.Common.{◌==◌, ℕ, Bool, true, false, cond, List, [], ◌∷◌, ◌++◌, Some, None, MatchOption, arith, sym, subst, w64}
use Rattle.std.specs.List.{list_all, cons_option}
use Rattle.std.specs.Prelude.{filter, unwrap_or}
use Rattle.std.proofs.Math.Facts.{sfits_to_z, Fits-of_lt}
use Rattle.proto_wire.specs.Fields.{Payload, varint, i64, len, i32, Wire, SpellsPayload, After}
use Rattle.proto_wire.specs.Keys.{is_known}
use Rattle.proto_wire.specs.Merge.{Merges}
use Rattle.proto_wire.specs.Oneof.{trailing_run, member_run}
use Rattle.proto_wire.specs.Values.{varint_in, varints, last_of, varint_at, int64_at}
use Rattle.proto_wire.specs.declared.key.Key.{Key}
use Rattle.cel_value.specs.Types.{IsInt64, IsUint64}

-- ---- fields

abbrev pub IsSmall : Payload → Type 0
IsSmall (varint n) = IsUint64 n
IsSmall _ = Unit {0}

abbrev pub AreSmall : List Wire → Type 0
AreSmall [] = Unit {0}
AreSmall (f ∷ fs) = IsSmall f.payload × AreSmall fs

payload_small : (bytes : List ℕ) (p : Payload) → SpellsPayload bytes p → IsSmall p
payload_small bytes (varint n) spells = spells.fits
payload_small bytes (i64 n) spells = tt
payload_small bytes (len inner) spells = tt
payload_small bytes (i32 n) spells = tt

fields_small : (bytes : List ℕ) (fs : List Wire) (rest : List ℕ) → After bytes fs rest → AreSmall fs
fields_small bytes [] rest after = tt
fields_small bytes (f ∷ fs) rest (behind, starts, after) =
    (payload_small starts.spells.behind f.payload starts.spells.spells_payload, fields_small behind fs rest after)

small_append : (fs gs : List Wire) → AreSmall fs → AreSmall gs → AreSmall (fs ++ gs)
small_append [] gs a b = b
small_append (f ∷ fs) gs a b = (a.0, small_append fs gs a.1 b)

pub merges_small : (parts : List (List ℕ)) (fs : List Wire) → Merges parts fs → AreSmall fs
merges_small [] fs none = subst AreSmall (sym none) tt
merges_small (part ∷ parts) fs (own, others, fields, rest, whole) =
    subst AreSmall (sym whole) (small_append own others (fields_small part own [] fields) (merges_small parts others rest))

filter_small : (p : Wire → Bool) (fs : List Wire) → AreSmall fs → AreSmall (filter p fs)
filter_small p [] small = tt
filter_small p (f ∷ fs) small = elim (p f) as (λ b. AreSmall (cond b (f ∷ filter p fs) (filter p fs))) [
  | true ↦ (small.0, filter_small p fs small.1)
  | false ↦ filter_small p fs small.1
]

run_small : (fs : List Wire) → AreSmall fs → AreSmall (trailing_run fs)
run_small [] small = tt
run_small (f ∷ fs) small =
    elim (list_all (λ g. g.number == f.number) fs) as (λ b. AreSmall (cond b (f ∷ fs) (trailing_run fs))) [
      | true ↦ small
      | false ↦ run_small fs small.1
    ]

pub member_run_small : (keys : List Key) (fs : List Wire) → AreSmall fs → AreSmall (member_run keys fs)
member_run_small keys fs small = run_small (filter (is_known keys) fs) (filter_small (is_known keys) fs small)

-- ---- numbers

abbrev pub AreBelow : List ℕ → Type 0
AreBelow [] = Unit {0}
AreBelow (n ∷ ns) = IsUint64 n × AreBelow ns

one_more : (k : ℕ) (number : ℕ) (p : Payload) (ns : List ℕ) → IsSmall p → AreBelow ns
    → AreBelow (cons_option (cond (number == k) (varint_in p) None) ns)
one_more k number (varint n) ns small below =
    elim (number == k) as (λ b. AreBelow (cons_option (cond b (Some n) None) ns)) [
      | true ↦ (small, below)
      | false ↦ below
    ]
one_more k number (i64 n) ns small below =
    elim (number == k) as (λ b. AreBelow (cons_option (cond b None None) ns)) [ true ↦ below | false ↦ below ]
one_more k number (len inner) ns small below =
    elim (number == k) as (λ b. AreBelow (cons_option (cond b None None) ns)) [ true ↦ below | false ↦ below ]
one_more k number (i32 n) ns small below =
    elim (number == k) as (λ b. AreBelow (cons_option (cond b None None) ns)) [ true ↦ below | false ↦ below ]

varints_below : (k : ℕ) (fs : List Wire) → AreSmall fs → AreBelow (varints k fs)
varints_below k [] small = tt
varints_below k (f ∷ fs) small = one_more k f.number f.payload (varints k fs) small.0 (varints_below k fs small.1)

last_below : (ns : List ℕ) → AreBelow ns → MatchOption (last_of ns) (Unit {0}) IsUint64
last_below [] below = tt
last_below (n ∷ []) below = below.0
last_below (n ∷ m ∷ ns) below = last_below (m ∷ ns) below.1

pub varint_below : (k : ℕ) (fs : List Wire) → AreSmall fs → IsUint64 (varint_at k fs)
varint_below k fs small =
    (elim (last_of (varints k fs)) as (λ o. MatchOption o (Unit {0}) IsUint64 → IsUint64 (unwrap_or o 0)) [
      | None ↦ λ none. omega arith
      | Some n ↦ λ below. below
    ]) (last_below (varints k fs) (varints_below k fs small))

pub int64_fits : (k : ℕ) (fs : List Wire) → AreSmall fs → IsInt64 (int64_at k fs)
int64_fits k fs small = sfits_to_z {w = w64} (Fits-of_lt {w = w64} (varint_below k fs small))
