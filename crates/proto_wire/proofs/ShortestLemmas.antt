-- Shortest spellings: what is written reads back, fields have one of them, and how one is made byte
-- by byte.
use Rattle.std.proofs.Common.{◌≡◌, ℕ, zero, suc, ◌+◌, ◌-◌, ◌*◌, ◌/◌, ◌%◌, ◌^◌, ◌<◌, ◌≤◌, inl, inr, List, [], ◌∷◌, ◌++◌, length, get_or, refl, sym, ap, ap₂, ◌∙◌, arith, append_assoc, Ok, Err}
use Rattle.std.specs.Prelude.{Result, OnOk, is_ok, if◌then◌else◌}
use Rattle.std.specs.List.{AllByRecursion}
use Rattle.std.proofs.Math.Nat.{pow-succ', pow-le-pow_right}
use Rattle.std.proofs.lemmas.Bool.{cases_lt}
use Rattle.std.proofs.lemmas.List.{length-append, append-nil}
use Rattle.std.proofs.lemmas.Nat.{le_bytes_4, le_bytes_8}
use Rattle.proto_wire.specs.Varint.{IsGroups, value_of}
use Rattle.proto_wire.specs.Fields.{Payload, varint, i64, len, i32, Wire, wire_type_of, tag_bits, SpellsPayload, IsFieldNumber, SpellsField, StartsField, Fields}
use Rattle.proto_wire.specs.Shortest.{ShortestVarint, ShortestPayload, ShortestField, Shortest, field_of, Appends}
use Rattle.proto_wire.specs.private.Writing.{AppendsVarint}
use Rattle.proto_wire.proofs.VarintLemmas.{AllMore, value_append, value_below, groups_push, more_push}
use Rattle.proto_wire.proofs.FieldLemmas.{some_group}

-- each of them is a byte
abbrev AreBytes : List ℕ → Type 0
AreBytes bytes = AllByRecursion (λ b. b < 256) bytes

-- ---- what is written reads back

payload_spelt : (bytes : List ℕ) (p : Payload) → ShortestPayload bytes p → SpellsPayload bytes p
payload_spelt bytes (varint n) s = s.spells
payload_spelt bytes (i64 n) s = s.1
payload_spelt bytes (len inner) (size, spelt, whole) = (size, spelt.spells, whole)
payload_spelt bytes (i32 n) s = s.1

field_spelt : (bytes : List ℕ) (f : Wire) → ShortestField bytes f → SpellsField bytes f
field_spelt bytes f s = record {
  tag = s.tag;
  behind = s.behind;
  numbered = s.numbered;
  spells_tag = s.shortest_tag.spells;
  spells_payload = payload_spelt s.behind f.payload s.shortest_payload;
  whole = s.whole;
}

pub shortest_reads : (fs : List Wire) (bytes : List ℕ) → Shortest fs bytes → Fields bytes fs
shortest_reads [] bytes none = none
shortest_reads (f ∷ fs) bytes (own, rest, first, more, whole) =
    let starts : StartsField bytes f rest =
    record { spelling = own; spells = field_spelt own f first; whole = whole } in
    (rest, starts, shortest_reads fs rest more)

-- ---- one spelling

-- groups of one length and one value are the same bytes
groups_same : (a b : List ℕ) → IsGroups a → IsGroups b → AreBytes a → AreBytes b
    → length a ≡ length b → value_of a ≡ value_of b → a ≡ b
groups_same [] b ga gb ba bb long same = absurd ga
groups_same (x ∷ a) [] ga gb ba bb long same = absurd gb
groups_same (x ∷ []) (y ∷ []) ga gb ba bb long same =
    let head : x ≡ y = omega (arith, same, ga, gb) in
    ap (λ n. n ∷ []) head
groups_same (x ∷ []) (y ∷ z ∷ b) ga gb ba bb long same = absurd (omega (arith, long))
groups_same (x ∷ w ∷ a) (y ∷ []) ga gb ba bb long same = absurd (omega (arith, long))
groups_same (x ∷ w ∷ a) (y ∷ z ∷ b) ga gb ba bb long same =
    let head : x ≡ y = omega (arith, same, ga.0, gb.0, ba.0, bb.0) in
    let tail : value_of (w ∷ a) ≡ value_of (z ∷ b) = omega (arith, same) in
    ap₂ (λ (n : ℕ) (ns : List ℕ). n ∷ ns) head
    (groups_same (w ∷ a) (z ∷ b) ga.1 gb.1 ba.1 bb.1 (omega (arith, long)) tail)

varint_same : (a b : List ℕ) (n : ℕ) → ShortestVarint a n → ShortestVarint b n → a ≡ b
varint_same a b n x y =
    let long : length a ≡ length b =
    omega (arith, x.shortest b y.spells, y.shortest a x.spells) in
    groups_same a b x.spells.groups y.spells.groups x.are_bytes y.are_bytes long
    (sym x.spells.value ∙ y.spells.value)

byte_at : (bytes : List ℕ) → AreBytes bytes → (i : ℕ) → get_or bytes i 0 < 256
byte_at [] are i = omega arith
byte_at (b ∷ bytes) are zero = are.0
byte_at (b ∷ bytes) are (suc i) = byte_at bytes are.1 i

payload_same : (a b : List ℕ) (p : Payload) → ShortestPayload a p → ShortestPayload b p → a ≡ b
payload_same a b (varint n) x y = varint_same a b n x y
payload_same a b (i64 n) (are, (long, is)) (are', (long', is')) =
    sym (le_bytes_8 a n long (byte_at a are) is) ∙ le_bytes_8 b n long' (byte_at b are') is'
payload_same a b (len inner) (c, size, whole) (d, size', whole') =
    whole ∙ ap (λ (t : List ℕ). t ++ inner) (varint_same c d (length inner) size size') ∙ sym whole'
payload_same a b (i32 n) (are, (long, is)) (are', (long', is')) =
    sym (le_bytes_4 a n long (byte_at a are) is) ∙ le_bytes_4 b n long' (byte_at b are') is'

field_same : (a b : List ℕ) (f : Wire) → ShortestField a f → ShortestField b f → a ≡ b
field_same a b f x y =
    let tags = varint_same x.tag y.tag _ x.shortest_tag y.shortest_tag in
    let rest = payload_same x.behind y.behind f.payload x.shortest_payload y.shortest_payload in
    x.whole ∙ ap₂ (λ (s t : List ℕ). s ++ t) tags rest ∙ sym y.whole

pub shortest_unique : (fs : List Wire) (a b : List ℕ) → Shortest fs a → Shortest fs b → a ≡ b
shortest_unique [] a b x y = x ∙ sym y
shortest_unique (f ∷ fs) a b (own, rest, first, more, whole) (own', rest', first', more', whole') =
    let same = field_same own own' f first first' in
    let later = shortest_unique fs rest rest' more more' in
    whole ∙ ap₂ (λ (s t : List ℕ). s ++ t) same later ∙ sym whole'

-- ---- fields behind fields

pub shortest_append : (fs gs : List Wire) (a b : List ℕ) → Shortest fs a → Shortest gs b
    → Shortest (fs ++ gs) (a ++ b)
shortest_append [] gs a b none more = rw none more
shortest_append (f ∷ fs) gs a b (own, rest, first, later, whole) more = (
  own,
  rest ++ b,
  first,
  shortest_append fs gs rest b later more,
  ap (λ (t : List ℕ). t ++ b) whole ∙ append_assoc own rest b,
)

-- a field more behind the fields that stand behind a prefix
pub appends_more : (prefix done before after : List ℕ) (fs : List Wire) (f : Wire)
    → before ≡ prefix ++ done → Shortest fs done → Appends before f after
    → (bytes : List ℕ) × Shortest (fs ++ f ∷ []) bytes × (after ≡ prefix ++ bytes)
appends_more prefix done before after fs f at so_far (own, first, whole) = (
  done ++ own,
  shortest_append fs (f ∷ []) done own so_far first,
  whole ∙ ap (λ (t : List ℕ). t ++ own) at ∙ append_assoc prefix done own,
)

-- a field behind what was there: its tag, and then its payload
pub appends_field : (before mid after : List ℕ) (f : Wire) (t : ℕ) (behind : List ℕ)
    → IsFieldNumber f.number → t ≡ 8 * f.number + tag_bits (wire_type_of f.payload)
    → AppendsVarint before t mid → ShortestPayload behind f.payload → after ≡ mid ++ behind
    → Appends before f after
appends_field before mid after f t behind numbered is (tag, spelt, at) payload whole =
    let field : ShortestField (tag ++ behind) f = record {
      tag = tag;
      behind = behind;
      numbered = numbered;
      shortest_tag = rw (← is) spelt;
      shortest_payload = payload;
      whole = refl;
    } in (
      tag ++ behind,
      (tag ++ behind, [], field, refl, sym (append-nil (tag ++ behind))),
      whole ∙ ap (λ (xs : List ℕ). xs ++ behind) at ∙ append_assoc before tag behind,
    )

pub appends_varint_field : (before mid after : List ℕ) (k t n : ℕ) → IsFieldNumber k
    → t ≡ 8 * k + 0
    → AppendsVarint before t mid → AppendsVarint mid n after
    → Appends before (field_of k (varint n)) after
appends_varint_field before mid after k t n numbered is tag (bytes, spelt, at) =
    appends_field before mid after (field_of k (varint n)) t bytes numbered is tag spelt at

pub appends_len_field : (before mid sized after : List ℕ) (k t n : ℕ) (inner : List ℕ)
    → IsFieldNumber k → t ≡ 8 * k + 2 → n ≡ length inner
    → AppendsVarint before t mid → AppendsVarint mid n sized → after ≡ sized ++ inner
    → Appends before (field_of k (len inner)) after
appends_len_field before mid sized after k t n inner numbered is long tag (size, spelt, at) whole =
    appends_field before mid after (field_of k (len inner)) t (size ++ inner) numbered is tag
    (size, rw (← long) spelt, refl)
    (whole ∙ ap (λ (xs : List ℕ). xs ++ inner) at ∙ append_assoc mid size inner)

-- ---- a varint, byte by byte

-- the groups so far, and the number that is left
pub record Begun (n rest : ℕ) (front : List ℕ) : Type 0 where
  pub more : AllMore front
  pub are_bytes : AreBytes front
  pub value : n ≡ value_of front + 128 ^ length front * rest
  pub some : 1 ≤ length front → 1 ≤ rest

pub begun_none : (n : ℕ) → Begun n n []
begun_none n = record { more = tt; are_bytes = tt; value = omega arith; some = λ k. omega (arith, k) }

bytes_push : (a : List ℕ) (b : ℕ) → AreBytes a → b < 256 → AreBytes (a ++ b ∷ [])
bytes_push [] b are small = (small, tt)
bytes_push (x ∷ a) b are small = (are.0, bytes_push a b are.1 small)

-- one group more
pub begun_more : (n rest : ℕ) (front : List ℕ) → Begun n rest front → 128 ≤ rest
    → Begun n (rest / 128) (front ++ (rest % 128 + 128) ∷ [])
begun_more n rest front begun large =
    let b = rest % 128 + 128 in
    let k = length front in
    let long : length (front ++ b ∷ []) ≡ suc k = length-append front (b ∷ []) ∙ omega arith in
    let parts : value_of (front ++ b ∷ []) ≡ value_of front + 128 ^ k * value_of (b ∷ []) =
    value_append front (b ∷ []) in
    let digit : value_of (b ∷ []) ≡ rest % 128 = omega arith in
    let weight : 128 ^ length (front ++ b ∷ []) ≡ 128 * 128 ^ k =
    ap (λ i. 128 ^ i) long ∙ pow-succ' 128 k in
    let whole : rest ≡ rest % 128 + 128 * (rest / 128) = omega arith in
    let split : 128 ^ k * rest ≡ 128 ^ k * (rest % 128 + 128 * (rest / 128)) =
    ap (λ i. 128 ^ k * i) whole in
    let low : 128 ^ k * value_of (b ∷ []) ≡ 128 ^ k * (rest % 128) = ap (λ i. 128 ^ k * i) digit in
    let high : 128 ^ length (front ++ b ∷ []) * (rest / 128) ≡ 128 * 128 ^ k * (rest / 128) =
    ap (λ i. i * (rest / 128)) weight in
    record {
      more = more_push front b begun.more (omega arith);
      are_bytes = bytes_push front b begun.are_bytes (omega arith);
      value = let value = begun.value in omega (arith, parts, split, low, high, value);
      some = λ one. omega arith;
    }

-- groups that are not the first weigh what the number has at least
begun_least : (n rest : ℕ) (front : List ℕ) → Begun n rest front → 1 ≤ length front
    → 128 ^ length front ≤ n
begun_least n rest front begun one =
    let some = begun.some one in
    let value = begun.value in
    let e : rest ≡ (rest - 1) + 1 = omega arith in
    let split : 128 ^ length front * rest ≡ 128 ^ length front * ((rest - 1) + 1) =
    ap (λ i. 128 ^ length front * i) e in
    omega (arith, value, split)

-- the last group
pub begun_done : (n rest : ℕ) (front : List ℕ) → Begun n rest front → rest < 128
    → n < 18446744073709551616
    → ShortestVarint (front ++ rest ∷ []) n
begun_done n rest front begun small fits =
    let k = length front in
    let long : length (front ++ rest ∷ []) ≡ k + 1 = length-append front (rest ∷ []) in
    let parts : value_of (front ++ rest ∷ []) ≡ value_of front + 128 ^ k * value_of (rest ∷ []) =
    value_append front (rest ∷ []) in
    let digit : value_of (rest ∷ []) ≡ rest = omega arith in
    let low : 128 ^ k * value_of (rest ∷ []) ≡ 128 ^ k * rest = ap (λ i. 128 ^ k * i) digit in
    let value = begun.value in
    let short : k ≤ 9 =
    elim (cases_lt 9 k) [
      | inl large ↦
          let least = begun_least n rest front begun (omega arith) in
          let power = pow-le-pow_right {n = 128} (omega arith) {i = 10} {j = k} (omega arith) in
          absurd (omega (arith, least, power))
      | inr few ↦ few
    ] in
    record {
      are_bytes = bytes_push front rest begun.are_bytes (omega arith);
      spells =
          record {
            groups = groups_push front rest begun.more small;
            short = omega (arith, long, short);
            value = omega (arith, parts, low, value);
            fits = fits;
          };
      shortest =
          λ other spells.
          let below = value_below other in
          let is = spells.value in
          let some = some_group other spells.groups in
          elim (cases_lt k (length other)) [
            | inl longer ↦ omega (arith, long, longer)
            | inr shorter ↦ elim (cases_lt 0 k) [
              | inl one ↦
                  let least = begun_least n rest front begun (omega arith) in
                  let power =
                  pow-le-pow_right {n = 128} (omega arith) {i = length other} {j = k} shorter in
                  absurd (omega (arith, least, power, below, is))
              | inr none ↦ omega (arith, long, none, some)
            ]
          ];
    }

-- ---- calls that add or leave

-- where a call succeeded, what it does on success is done
pub on_ok_items : {T E P : Type 0} (r : Result T E) (new grown old : List ℕ)
    → new ≡ (if is_ok r then grown else old) → (new ≡ grown → P) → OnOk r P
on_ok_items (Ok x) new grown old is f = f is
on_ok_items (Err y) new grown old is f = tt

-- what two calls that succeed come to
pub on_ok_both : {T E P Q R : Type 0} (r s : Result T E) → r ≡ s → OnOk s P → OnOk s Q
    → (P → Q → R) → OnOk r R
on_ok_both r (Ok x) same p q f = rw same (f p q)
on_ok_both r (Err y) same p q f = rw same tt
