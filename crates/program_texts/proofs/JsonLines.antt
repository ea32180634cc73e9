-- The text of a JSON value, with a line feed after it, is read back as the value.
use Rattle.std.proofs.Common.{◌≡◌, ◌<◌, ◌≤◌, ◌^◌, ◌==◌, ◌&&◌, ℕ, zero, suc, Bool, true, false, List, [], ◌∷◌, ◌++◌, length, Option, Some, None, option_and_then, option_map, IsUtf8, Less, Greater, refl, sym, ap, ap₂, ◌∙◌, subst, arith, append_assoc, append-nil, decimal, length-append}
use Rattle.std.specs.Prelude.{⊤}
use Rattle.std.proofs.lemmas.Fmt.{IsAscii-decimal, decimal_is_IsNumeral}
use Rattle.std.proofs.lemmas.Str.{IsUtf8-append, IsUtf8-from_ascii, IsUtf8-nil}
use Rattle.std.specs.Cmp.Lexicographic.{slice_cmp, nat_list_cmp_total}
use Rattle.std.specs.Ordering.{match_ordering, nat_cmp, ordering_reverse}
use Rattle.json.specs.Json as json
use Rattle.json.specs.Print.{print, quoted, ArePrintable}
use Rattle.json.specs.Tree as tree
use Rattle.json.specs.Lex.{tokens}
use Rattle.json.proofs.Printed.Decimals.{IsNumber-decimal}
use Rattle.json.proofs.Printed.Trees.{ArePrintable-json_tokens, value-json_tokens}
use Rattle.json.proofs.Printed.Utf8.{IsUtf8-are_ascii, IsUtf8-boolean, IsUtf8-quoted}
use Rattle.serde_json.specs.Data.{Num, unsigned, negative, float, Data, null, boolean, number, string, array, object, Items, Members, no_members, member, put}
use Rattle.serde_json.specs.Read.{read, of_json, of_members}
use Rattle.serde_json.specs.Written.{outline, members_outline, compact_text, members_text, comma_if}
use Rattle.serde_json.proofs.Numbers.{number_of-decimal}
use Rattle.serde_json.proofs.Texts.{print-outline}
use Rattle.program_texts.proofs.JsonTokens.{tokens_line}

-- the name is below that of each member
abbrev pub IsBelow : List ℕ → Members → Type 0
IsBelow k no_members = ⊤
IsBelow k (member l d ms) = (slice_cmp nat_cmp k l ≡ Less) × IsBelow k ms

-- the value has texts that are UTF-8, natural numbers below 2^64, and objects whose names ascend, nested no deeper than
-- this. It has no array
abbrev mutual
  pub IsPlain : ℕ → Data → Type 0
  IsPlain n null = ⊤
  IsPlain n (boolean b) = ⊤
  IsPlain n (number (unsigned m)) = m < 2 ^ 64
  IsPlain n (number (negative z)) = ⊥
  IsPlain n (number (float x)) = ⊥
  IsPlain n (string s) = IsUtf8 s
  IsPlain n (array ds) = ⊥
  IsPlain zero (object ms) = ⊥
  IsPlain (suc n) (object ms) = ArePlain n ms

  pub ArePlain : ℕ → Members → Type 0
  ArePlain n no_members = ⊤
  ArePlain n (member k d ms) = IsUtf8 k × IsPlain n d × IsBelow k ms × ArePlain n ms

-- ---- its tokens can be printed

mutual
  has_numbers : (n : ℕ) (d : Data) → IsPlain n d → tree.HasNumbers (outline d)
  has_numbers n null h = tt
  has_numbers n (boolean b) h = tt
  has_numbers n (number (unsigned m)) h = IsNumber-decimal m h
  has_numbers n (number (negative z)) h = absurd h
  has_numbers n (number (float x)) h = absurd h
  has_numbers n (string s) h = tt
  has_numbers n (array ds) h = absurd h
  has_numbers zero (object ms) h = absurd h
  has_numbers (suc n) (object ms) h = have_numbers n ms h

  have_numbers : (n : ℕ) (ms : Members) → ArePlain n ms → tree.MembersHaveNumbers (members_outline ms)
  have_numbers n no_members h = tt
  have_numbers n (member k d ms) h = (has_numbers n d h.1, have_numbers n ms h.3)

mutual
  is_shallow : (n : ℕ) (d : Data) → IsPlain n d → tree.depth (outline d) ≤ n
  is_shallow n null h = omega arith
  is_shallow n (boolean b) h = omega arith
  is_shallow n (number (unsigned m)) h = omega arith
  is_shallow n (number (negative z)) h = absurd h
  is_shallow n (number (float x)) h = absurd h
  is_shallow n (string s) h = omega arith
  is_shallow n (array ds) h = absurd h
  is_shallow zero (object ms) h = absurd h
  is_shallow (suc n) (object ms) h = let inner = are_shallow n ms h in omega arith

  are_shallow : (n : ℕ) (ms : Members) → ArePlain n ms → tree.members_depth (members_outline ms) ≤ n
  are_shallow n no_members h = omega arith
  are_shallow n (member k d ms) h =
      let first = is_shallow n d h.1 in let rest = are_shallow n ms h.3 in omega arith

-- ---- members in ascending order stay as they are

-- the members, and then one more
abbrev pub with_last : Members → List ℕ → Data → Members
with_last no_members k d = member k d no_members
with_last (member l e ms) k d = member l e (with_last ms k d)

-- the members, and then others
abbrev pub joined : Members → Members → Members
joined no_members ns = ns
joined (member k d ms) ns = member k d (joined ms ns)

-- the name of each member is below this one
abbrev pub AreBelow : Members → List ℕ → Type 0
AreBelow no_members k = ⊤
AreBelow (member l d ms) k = (slice_cmp nat_cmp l k ≡ Less) × AreBelow ms k

-- the name of each member is below each name of others
abbrev pub AllBelow : Members → Members → Type 0
AllBelow found no_members = ⊤
AllBelow found (member k d ms) = AreBelow found k × AllBelow found ms

pub put_last : (found : Members) (k : List ℕ) (d : Data) → AreBelow found k → put k d found ≡ with_last found k d
put_last no_members k d h = refl
put_last (member l e ms) k d h =
    let above : slice_cmp nat_cmp k l ≡ Greater = nat_list_cmp_total.antisymm k l ∙ ap ordering_reverse h.0 in
    ap (λ o. match_ordering o (member k d (member l e ms)) (member l d ms) (member l e (put k d ms))) above
    ∙ ap (member l e) (put_last ms k d h.1)

below_last : (found : Members) (k : List ℕ) (d : Data) (j : List ℕ) → AreBelow found j → slice_cmp nat_cmp k j ≡ Less
    → AreBelow (with_last found k d) j
below_last no_members k d j h less = (less, tt)
below_last (member l e ms) k d j h less = (h.0, below_last ms k d j h.1 less)

pub all_below_last : (found : Members) (k : List ℕ) (d : Data) (ms : Members) → AllBelow found ms → IsBelow k ms
    → AllBelow (with_last found k d) ms
all_below_last found k d no_members h below = tt
all_below_last found k d (member l e ms) h below =
    (below_last found k d l h.0 below.0, all_below_last found k d ms h.1 below.1)

pub none_below : (ms : Members) → AllBelow no_members ms
none_below no_members = tt
none_below (member k d ms) = (tt, none_below ms)

pub joined_last : (found : Members) (k : List ℕ) (d : Data) (ms : Members)
    → joined (with_last found k d) ms ≡ joined found (member k d ms)
joined_last no_members k d ms = refl
joined_last (member l e ns) k d ms = ap (member l e) (joined_last ns k d ms)

pub join_none : (found : Members) → joined found no_members ≡ found
join_none no_members = refl
join_none (member k d ms) = ap (member k d) (join_none ms)

mutual
  of_outline : (n : ℕ) (d : Data) → IsPlain n d → of_json (outline d) ≡ Some d
  of_outline n null h = refl
  of_outline n (boolean b) h = refl
  of_outline n (number (unsigned m)) h = ap (option_map number) (number_of-decimal m h)
  of_outline n (number (negative z)) h = absurd h
  of_outline n (number (float x)) h = absurd h
  of_outline n (string s) h = refl
  of_outline n (array ds) h = absurd h
  of_outline zero (object ms) h = absurd h
  of_outline (suc n) (object ms) h = ap (option_map object) (of_members_outline n ms no_members h (none_below ms))

  of_members_outline : (n : ℕ) (ms found : Members) → ArePlain n ms → AllBelow found ms
      → of_members (members_outline ms) found ≡ Some (joined found ms)
  of_members_outline n no_members found h below = ap Some (sym (join_none found))
  of_members_outline n (member k d ms) found h below =
      ap (option_and_then (λ e. of_members (members_outline ms) (put k e found))) (of_outline n d h.1)
      ∙ ap (of_members (members_outline ms)) (put_last found k d below.0)
      ∙ of_members_outline n ms (with_last found k d) h.3 (all_below_last found k d ms below.1 h.2)
      ∙ ap Some (joined_last found k d ms)

-- ---- the line is read back

pub reads_line : (d : Data) → IsPlain 127 d → read (compact_text d ++ 10 ∷ []) ≡ Some d
reads_line d h =
    let j = outline d in
    let ts = tree.json_tokens j in
    let printable = ArePrintable-json_tokens j (has_numbers 127 d h) in
    let same : tokens (compact_text d ++ 10 ∷ []) ≡ ts ++ [] =
    ap (λ t. tokens (t ++ 10 ∷ [])) (sym (print-outline d)) ∙ tokens_line ts printable ∙ sym (append-nil ts) in
    ap (λ us. option_and_then of_json (option_and_then (λ p. json.if_last p.0 p.1) (json.value 127 us))) same
    ∙ ap (λ o. option_and_then of_json (option_and_then (λ p. json.if_last p.0 p.1) o)) (value-json_tokens j 127 [] (is_shallow 127 d h))
    ∙ of_outline 127 d h
