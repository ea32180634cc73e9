-- The limits of a request, and which requests are within them.
use Rattle.std.specs.Prelude.{ℕ, ◌+◌, ◌≤◌, ◌==◌, nat_lt, List, [], ◌∷◌, Option, Some, None, All, IfSome, if◌then◌else◌, codes, decimal, filter_map, length, slice_get, ◌++◌}
use Rattle.std.specs.FinMap.{entries}
use Rattle.std.specs.List.{AllByRecursion}
use Rattle.attributes.specs.Conn.{Facts, texts_of}
use Rattle.attributes.specs.Headers.{Entry}
use Rattle.attributes.specs.Request.{RequestValue, protocol_of}
use Rattle.attributes.specs.declared.limits.Limit.{Limit}
use Rattle.attributes.specs.declared.limits.LimitFault.{LimitFault}
use Rattle.attributes.specs.declared.limits.LimitFault.TheVariants.{Zero, Above}

-- six limits: of the number of fields, and of bytes of a name, a value, a method, a target and
-- any other text
pub record LimitsValue : Type 0 where
  pub fields : ℕ
  pub name : ℕ
  pub value : ℕ
  pub method : ℕ
  pub target : ℕ
  pub text : ℕ

-- the greatest limits that may be declared
abbrev pub largest : LimitsValue
largest = record { fields = 64; name = 128; value = 4096; method = 32; target = 4096; text = 1024 }

-- the six limits as they are declared, in the order of `Limits::new`
abbrev pub declared : (fields name value method target text : ℕ) → LimitsValue
declared fields name value method target text = record {
  fields = fields;
  name = name;
  value = value;
  method = method;
  target = target;
  text = text;
}

-- the name by which each limit is declared, and which of the six it is
abbrev pub limit_row : Limit → List ℕ × (LimitsValue → ℕ)
limit_row Limit.Fields = (codes "fields", λ l. l.fields)
limit_row Limit.Name = (codes "name", λ l. l.name)
limit_row Limit.Value = (codes "value", λ l. l.value)
limit_row Limit.Method = (codes "method", λ l. l.method)
limit_row Limit.Target = (codes "target", λ l. l.target)
limit_row Limit.Text = (codes "text", λ l. l.text)

-- the name of a limit
abbrev pub name_of : Limit → List ℕ
name_of limit = (limit_row limit).0

-- the limit of this kind
abbrev pub limit_of : Limit → LimitsValue → ℕ
limit_of limit l = (limit_row limit).1 l

-- the limits in the order of `Limits::new`
abbrev pub every_limit : List Limit
every_limit =
    Limit.Fields ∷ Limit.Name ∷ Limit.Value ∷ Limit.Method ∷ Limit.Target ∷ Limit.Text ∷ []

-- what is wrong with a limit that is declared as n: it is 0, or above the greatest
abbrev pub limit_fault : Limit → ℕ → Option LimitFault
limit_fault limit n = if n == 0 then Some (Zero limit)
    else (if nat_lt (limit_of limit largest) n then Some (Above limit) else None)

-- the first fault of the limits in that order, if there is one
abbrev pub first_fault : LimitsValue → Option LimitFault
first_fault l = slice_get (filter_map (λ limit. limit_fault limit (limit_of limit l)) every_limit) 0

-- what a fault prints
abbrev pub fault_text : LimitFault → List ℕ
fault_text (Zero limit) = codes "the limit " ++ name_of limit ++ codes " is 0"
fault_text (Above limit) =
    codes "the limit " ++ name_of limit ++ codes " is above " ++ decimal (limit_of limit largest)

-- no limit is 0 or above the greatest
abbrev pub AreLimits : LimitsValue → Type 0
AreLimits l = (limit : Limit) → (1 ≤ limit_of limit l) × (limit_of limit l ≤ limit_of limit largest)

-- the text, if there is one, has at most so many bytes
abbrev pub IsWithin : ℕ → Option (List ℕ) → Type 0
IsWithin most text = IfSome text (λ bytes. length bytes ≤ most)

-- each text of the connection is within the limit of texts
abbrev pub FactsInLimits : Facts → LimitsValue → Type 0
FactsInLimits f l = AllByRecursion (IsWithin l.text) (texts_of f)

-- the header's name and value are within their limits
abbrev pub EntryInLimits : LimitsValue → Entry → Type 0
EntryInLimits l e = (length e.0 ≤ l.name) × (length e.1 ≤ l.value)

-- every count, name and text is within its limit; the three pseudo-headers count as fields
pub record InLimits (r : RequestValue) (l : LimitsValue) : Type 0 where
  pub count : r.lines + 3 ≤ l.fields
  pub headers : All (EntryInLimits l) (entries r.headers)
  pub method : length r.method ≤ l.method
  pub target : length r.target ≤ l.target
  pub protocol : length (protocol_of r.protocol) ≤ l.text
  pub facts : FactsInLimits r.facts l
