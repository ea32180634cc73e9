-- Leaves whose texts are in a pool, and the tests that they mean.
use Rattle.std.specs.Prelude.{ℕ, ◌+◌, ◌<◌, ◌≤◌, Bool, true, false, List, [], ◌∷◌, length, get_or, Option, Some, None}
use Rattle.std.specs.Str.{IsUtf8, str_to_ascii_lowercase}
use Rattle.attributes.specs.Address.{Range}
use Rattle.attributes.specs.Request.{RequestValue}
use Rattle.attributes.specs.declared.address.Ip.TheVariants.{V4}
use Rattle.rbac_match.specs.Header.{HeaderTest}
use Rattle.rbac_match.specs.Matcher.{matcher_holds}
use Rattle.rbac_match.specs.Text.{TextTest}
use Rattle.rbac_match.specs.Tokens.{GoesOn, slice_at}
use Rattle.rbac_match.specs.declared.header.Specifier.{Specifier}
use Rattle.rbac_match.specs.declared.header.Specifier.TheVariants as specifiers
use Rattle.rbac_match.specs.declared.leaves.Leaf.{Leaf}
use Rattle.rbac_match.specs.declared.leaves.Leaf.TheVariants.{Present, HeaderText, HeaderRange, Address, Port, PortRange, ServerName, UrlPath, Mutual, Named}
use Rattle.rbac_match.specs.declared.leaves.NameLeaf.{NameLeaf}
use Rattle.rbac_match.specs.declared.matcher.Matcher.{Matcher}
use Rattle.rbac_match.specs.declared.matcher.Matcher.TheVariants as matchers
use Rattle.rbac_match.specs.declared.pool.Pool.{Pool}
use Rattle.rbac_match.specs.declared.pool.Span.{Span}
use Rattle.rbac_match.specs.declared.pool.TextLeaf.{TextLeaf}
use Rattle.rbac_match.specs.declared.pool.TextLeaf.TheVariants.{Plain, AnyCase, Searched}
use Rattle.rbac_match.specs.declared.text.Ends.{Ends}
use Rattle.rbac_match.specs.declared.text.Ends.TheVariants as ends
use Rattle.rbac_match.specs.declared.text.Pattern.{Pattern}
use Rattle.rbac_match.specs.declared.text.Pattern.TheVariants.{Exact, Prefix, Suffix, Contains}
use Rattle.rbac_match.specs.private.Search.{AreAllBorders}

-- the pattern of a comparison from one end of a text, or from both
abbrev pub pattern_of : Ends → Pattern
pattern_of ends.Exact = Exact
pattern_of ends.Prefix = Prefix
pattern_of ends.Suffix = Suffix

-- the bytes of a span
abbrev pub part_of : Span → Pool → List ℕ
part_of span pool = slice_at span.from span.count pool.text.items

-- the span is inside the pool's text
abbrev pub IsWithin : Span → Pool → Type 0
IsWithin span pool = span.from + span.count ≤ length pool.text.items

-- the text of the span is not empty, and its borders are at this place
pub record IsBorders (span : Span) (at : ℕ) (pool : Pool) : Type 0 where
  pub some : 0 < span.count
  pub there : at + span.count ≤ length pool.borders.items
  pub are : AreAllBorders (str_to_ascii_lowercase (part_of span pool))
      (slice_at at span.count pool.borders.items)

-- the pool keeps what it has; more may be appended
pub record Grows (before after : Pool) : Type 0 where
  pub text : GoesOn before.text.items after.text.items
  pub borders : GoesOn before.borders.items after.borders.items
  pub ranges : GoesOn before.ranges.items after.ranges.items

-- the pool has what this test of a text refers to
abbrev pub GoodText : Pool → TextLeaf → Type 0
GoodText pool (Plain pattern span) = IsWithin span pool
GoodText pool (AnyCase at_ends span) = IsWithin span pool
GoodText pool (Searched span at) = IsWithin span pool × IsBorders span at pool

-- the meaning of a test of a text
abbrev pub text_in : Pool → TextLeaf → TextTest
text_in pool (Plain pattern span) =
    record { pattern = pattern; sought = part_of span pool; ignore_case = false }
text_in pool (AnyCase at_ends span) =
    record { pattern = pattern_of at_ends; sought = part_of span pool; ignore_case = true }
text_in pool (Searched span at) =
    record { pattern = Contains; sought = part_of span pool; ignore_case = true }

-- the pool has the name, and the name is UTF-8
abbrev pub GoodName : Pool → NameLeaf → Type 0
GoodName pool name = IsWithin name.name pool × IsUtf8 (part_of name.name pool)

-- the test of the header with this name
abbrev pub header_in : Pool → NameLeaf → Specifier → HeaderTest
header_in pool name specifier = record {
  name = part_of name.name pool;
  specifier = specifier;
  invert_match = name.invert_match;
  treat_missing_header_as_empty = name.treat_missing_header_as_empty;
}

-- the range that is used if there is none at a place
abbrev pub no_range : Range
no_range = record { address = V4 0; prefix_len = 0 }

-- the range at this place of the pool
abbrev pub range_in : Pool → ℕ → Range
range_in pool place = get_or pool.ranges.items place no_range

-- the pool has what the leaf refers to
abbrev pub GoodLeaf : Pool → Leaf → Type 0
GoodLeaf pool (Present name wanted) = GoodName pool name
GoodLeaf pool (HeaderText name text) = GoodName pool name × GoodText pool text
GoodLeaf pool (HeaderRange name range) = GoodName pool name
GoodLeaf pool (Address source place) = place < length pool.ranges.items
GoodLeaf pool (Port port) = Unit {0}
GoodLeaf pool (PortRange ports) = Unit {0}
GoodLeaf pool (ServerName text) = GoodText pool text
GoodLeaf pool (UrlPath text) = GoodText pool text
GoodLeaf pool Mutual = Unit {0}
GoodLeaf pool (Named text) = GoodText pool text

-- the meaning of a leaf
abbrev pub leaf_in : Pool → Leaf → Matcher
leaf_in pool (Present name wanted) = matchers.Header (header_in pool name (specifiers.Present wanted))
leaf_in pool (HeaderText name text) =
    matchers.Header (header_in pool name (specifiers.Text (text_in pool text)))
leaf_in pool (HeaderRange name range) =
    matchers.Header (header_in pool name (specifiers.Range range))
leaf_in pool (Address source place) = matchers.Address source (range_in pool place)
leaf_in pool (Port port) = matchers.Port port
leaf_in pool (PortRange ports) = matchers.PortRange ports
leaf_in pool (ServerName text) = matchers.ServerName (text_in pool text)
leaf_in pool (UrlPath text) = matchers.UrlPath (text_in pool text)
leaf_in pool Mutual = matchers.Authenticated None
leaf_in pool (Named text) = matchers.Authenticated (Some (text_in pool text))

-- the pool has what each of the leaves refers to
abbrev pub AreGood : Pool → List Leaf → Type 0
AreGood pool [] = Unit {0}
AreGood pool (leaf ∷ leaves) = GoodLeaf pool leaf × AreGood pool leaves

-- whether the request passes the test; without a test, every request passes
abbrev pub passes_at : Option Matcher → RequestValue → Bool
passes_at None r = true
passes_at (Some m) r = matcher_holds m r
