-- A head asks for a request or has a fault, and so do the parts of a request.
use Rattle.std.proofs.Common.{◌≡◌, ◌≤◌, ◌++◌, ℕ, List, Option, Some, None, take, drop, length, inl, inr, refl}
use Rattle.std.specs.Prelude.{IfNone, IfSome}
use Rattle.std.proofs.lemmas.Bool.{cases_lt}
use Rattle.attributes.specs.Conn.{Facts}
use Rattle.attributes.specs.Limits.{LimitsValue}
use Rattle.attributes.specs.Request.{RequestValue, in_protocol}
use Rattle.attributes.proofs.Within.{in_limits_or}
use Rattle.httparse.specs.Grammar.{IsRequestHead, RequestHead, print_request}
use Rattle.http_front.specs.declared.fault.HeadFault.{HeadFault}
use Rattle.http_front.specs.declared.fault.HeadFault.TheVariants.{Malformed, OutsideLimits, TooLong}
use Rattle.http_front.specs.declared.fault.HeadPart.{HeadPart}
use Rattle.http_front.specs.declared.head.Parsed.TheVariants.{Hopeless, Unfinished}
use Rattle.http_front.specs.declared.read.HeadAsk.TheVariants.{Fault}
use Rattle.http_front.specs.Asks.{AskFault, AskOrFail, HasFault, request_of_head}
use Rattle.http_front.specs.Head.{HeadValue, StartsHead, head_of, head_room}
use Rattle.http_front.specs.Parts.{PartsAskOrFail, PartsValue, spelled_head}
use Rattle.http_front.specs.Rules.{RuleFault}
use Rattle.http_front.specs.private.Parsed.{IsParsed}
use Rattle.http_front.proofs.Rooms.{fault_in, starts_head_from_take, unfinished_in}
use Rattle.http_front.proofs.SpelledAsks.{parts_asked, parts_outside, parts_refused}

module _ (bytes : List ℕ) (limits : LimitsValue) (facts : Facts) where
  -- a whole head
  pub whole_or_fail : (h : HeadValue) (rest : List ℕ) → StartsHead (take head_room bytes) h rest
      → (found : Option HeadFault) → IfNone found ((fault : HeadFault) → RuleFault h fault → ⊥)
      → IfSome found (AskFault limits facts h) → AskOrFail bytes limits facts
  whole_or_fail h rest starts (Some fault) sound is =
      inr (inl (
        fault,
        HasFault.broken h (rest ++ drop head_room bytes)
            (starts_head_from_take head_room bytes h rest starts) is,
      ))
  whole_or_fail h rest starts None sound is =
      let all = starts_head_from_take head_room bytes h rest starts in
      elim (in_limits_or (request_of_head h facts) limits) [
        | inl within ↦ inl (
          request_of_head h facts,
          record {
            head = h;
            rest = rest ++ drop head_room bytes;
            starts = all;
            request = refl;
            keeps_rules = sound;
            in_limits = within;
          },
        )
        | inr over ↦ inr (inl (
          OutsideLimits,
          HasFault.broken h (rest ++ drop head_room bytes) all
              (AskFault.outside over refl),
        ))
      ]

  -- bytes that can become no head
  pub hopeless_fail : (part : HeadPart) → IsParsed (take head_room bytes) (Hopeless part)
      → AskOrFail bytes limits facts
  hopeless_fail part never =
      inr (inl (Malformed part, fault_in bytes limits facts (Hopeless part) never (Some (Fault (Malformed part))) refl))

  -- bytes that end inside a head, or are too long for one
  pub unfinished_or_fail : IsParsed (take head_room bytes) Unfinished → AskOrFail bytes limits facts
  unfinished_or_fail half = elim (cases_lt head_room (length bytes)) [
    | inl long ↦ inr (inl (TooLong, fault_in bytes limits facts Unfinished half (Some (Fault TooLong)) (long, refl)))
    | inr short ↦ inr (inr (unfinished_in bytes limits facts Unfinished half None short))
  ]

-- the head that parts spell
pub spelled_or_fail : (p : PartsValue) (limits : LimitsValue) (facts : Facts) (h : RequestHead) → h ≡ spelled_head p
    → IsRequestHead h → length (print_request h) ≤ head_room → (found : Option HeadFault)
    → IfNone found ((fault : HeadFault) → RuleFault (head_of h) fault → ⊥)
    → IfSome found (AskFault limits facts (head_of h)) → PartsAskOrFail p limits facts
spelled_or_fail p limits facts h same shape room (Some fault) sound is =
    inr (fault, parts_refused p limits facts h same shape room fault is)
spelled_or_fail p limits facts h same shape room None sound is =
    let q : RequestValue = request_of_head (head_of h) facts in
    elim (in_limits_or q limits) [
      | inl within ↦ inl (
        in_protocol p.protocol q,
        parts_asked p limits facts h same shape room q refl (in_protocol p.protocol q) sound (refl, within),
      )
      | inr over ↦ inr (OutsideLimits, parts_outside p limits facts h same shape room q refl OutsideLimits (refl, over))
    ]
