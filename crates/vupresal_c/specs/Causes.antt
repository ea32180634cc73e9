-- Why a request is not made, in numbers (this project's own): the rule that it breaks, and the limit that it exceeds.
use Rattle.std.specs.Prelude.{◌≡◌, ◌<◌, ◌+◌, ⊤, ℕ, Bool, IsSomeAnd, IsTrue, List, Option, length, nat_lt}
use Rattle.std.specs.List.{list_any}
use Rattle.attributes.specs.Conn.{Facts}
use Rattle.attributes.specs.Headers.{Entry}
use Rattle.attributes.specs.Limits.{FactsInLimits, LimitsValue, largest}
use Rattle.attributes.specs.declared.limits.Limit.{Limit}
use Rattle.http_front.specs.Parts.{PartsValue}
use Rattle.http_front.specs.declared.fault.HeadFault.{HeadFault}
use Rattle.http_front.specs.declared.fault.HeadFault.TheVariants as head
use Rattle.http_front.specs.declared.fault.HeadPart.{HeadPart}
use Rattle.http_front.specs.declared.fault.HeadPart.TheVariants as part
use Rattle.vupresal_c.specs.declared.cause.Cause.{Cause}
use Rattle.vupresal_c.specs.declared.fault.Fault.{Fault}
use Rattle.vupresal_c.specs.declared.fault.Fault.TheVariants.{Empty, OutOfRange, Refused, OutOfSteps, BadFacts, Unfinished, Head}

-- the number of a malformed part
abbrev pub part_number : HeadPart → ℕ
part_number part.Method = 1
part_number part.Target = 2
part_number part.Version = 3
part_number part.LineEnd = 4
part_number part.FieldName = 5
part_number part.FieldValue = 6
part_number part.FoldedLine = 7

-- the number of the rule that a head breaks
abbrev pub rule_number : HeadFault → ℕ
rule_number (head.Malformed it) = part_number it
rule_number head.Unfinished = 8
rule_number head.TooLong = 9
rule_number head.OtherForm = 10
rule_number head.BadText = 11
rule_number head.NoHost = 12
rule_number head.TwoHosts = 13
rule_number head.TwoLengths = 14
rule_number head.BadLength = 15
rule_number head.TransferCoding = 16
rule_number head.OutsideLimits = 17

-- the number of a fault; 0 if the status says it all
abbrev pub reason_of : Fault → ℕ
reason_of Empty = 0
reason_of OutOfRange = 0
reason_of (Refused refusal) = 0
reason_of OutOfSteps = 0
reason_of BadFacts = 18
reason_of Unfinished = 8
reason_of (Head fault) = rule_number fault

-- the number of a limit
abbrev pub limit_number : Limit → ℕ
limit_number Limit.Fields = 1
limit_number Limit.Name = 2
limit_number Limit.Value = 3
limit_number Limit.Method = 4
limit_number Limit.Target = 5
limit_number Limit.Text = 6

-- some field's name has more bytes than `most`
abbrev pub has_long_name : ℕ → List Entry → Bool
has_long_name most fields = list_any (λ f. nat_lt most (length f.0)) fields

-- the parts on a connection with these facts exceed the limit. Nothing is said of values: that limit is named if no other is
-- exceeded
abbrev pub Exceeds : LimitsValue → PartsValue → Facts → Limit → Type 0
Exceeds l p facts Limit.Fields = l.fields < length p.fields + 3
Exceeds l p facts Limit.Name = IsTrue (has_long_name l.name p.fields)
Exceeds l p facts Limit.Value = ⊤
Exceeds l p facts Limit.Method = l.method < length p.method
Exceeds l p facts Limit.Target = l.target < length p.target
Exceeds l p facts Limit.Text = FactsInLimits facts l → ⊥

-- a limit of this number is exceeded on the connection of a handle
abbrev pub NamesLimit : Option Facts → PartsValue → ℕ → Type 0
NamesLimit held p n = (limit : Limit) → n ≡ limit_number limit → IsSomeAnd held (λ facts. Exceeds largest p facts limit)

-- no cause
abbrev pub no_cause : Cause
no_cause = record { reason = 0; limit = 0 }
