-- A request is within limits, or it is not.
use Rattle.std.proofs.Common.{◌≤◌, ◌+◌, ◌⊎◌, ℕ, All, List, [], ◌∷◌, Option, Some, None, length, inl, inr, arith}
use Rattle.std.specs.FinMap.{entries}
use Rattle.std.specs.List.{AllByRecursion}
use Rattle.std.proofs.lemmas.Bool.{cases_lt}
use Rattle.std.proofs.lemmas.List.Elements.{All-cons, All-head, All-nil, All-tail}
use Rattle.attributes.specs.Conn.{texts_of}
use Rattle.attributes.specs.Headers.{Entry}
use Rattle.attributes.specs.Limits.{EntryInLimits, InLimits, IsWithin, LimitsValue}
use Rattle.attributes.specs.Request.{RequestValue, protocol_of}

-- it holds, or it does not
abbrev Decided : Type 0 → Type 0
Decided P = P ⊎ (P → ⊥)

both : {P Q : Type 0} → Decided P → Decided Q → Decided (P × Q)
both (inl p) (inl q) = inl (p, q)
both (inl p) (inr fails) = inr (λ h. fails h.1)
both (inr fails) (inl q) = inr (λ h. fails h.0)
both (inr fails) (inr also) = inr (λ h. fails h.0)

at_most : (n most : ℕ) → Decided (n ≤ most)
at_most n most = elim (cases_lt most n) [
  | inl over ↦ inr (λ h. omega (arith, h, over))
  | inr within ↦ inl within
]

entries_within : (l : LimitsValue) (es : List Entry) → Decided (All (EntryInLimits l) es)
entries_within l [] = inl (All-nil (EntryInLimits l))
entries_within l (e ∷ es) =
    elim (both (both (at_most (length e.0) l.name) (at_most (length e.1) l.value)) (entries_within l es)) [
      | inl h ↦ inl (All-cons (EntryInLimits l) e es h.0 h.1)
      | inr fails ↦ inr (λ all. fails (All-head (EntryInLimits l) e es all, All-tail (EntryInLimits l) e es all))
    ]

text_within : (most : ℕ) (text : Option (List ℕ)) → Decided (IsWithin most text)
text_within most None = inl tt
text_within most (Some bytes) = at_most (length bytes) most

texts_within : (most : ℕ) (texts : List (Option (List ℕ))) → Decided (AllByRecursion (IsWithin most) texts)
texts_within most [] = inl tt
texts_within most (text ∷ texts) = both (text_within most text) (texts_within most texts)

pub in_limits_or : (r : RequestValue) (l : LimitsValue) → InLimits r l ⊎ (InLimits r l → ⊥)
in_limits_or r l =
    elim (both (at_most (r.lines + 3) l.fields) (both (entries_within l (entries r.headers))
    (both (at_most (length r.method) l.method) (both (at_most (length r.target) l.target)
    (both (at_most (length (protocol_of r.protocol)) l.text) (texts_within l.text (texts_of r.facts))))))) [
      | inl h ↦ inl (record {
        count = h.0;
        headers = h.1.0;
        method = h.1.1.0;
        target = h.1.1.1.0;
        protocol = h.1.1.1.1.0;
        facts = h.1.1.1.1.1;
      })
      | inr fails ↦ inr (λ h. fails (h.count, (h.headers, (h.method, (h.target, (h.protocol, h.facts))))))
    ]
