-- Facts that a member names by a text alone.
use Rattle.std.specs.Prelude.{⊤}
use Rattle.head_map.specs.declared.fact.Fact.{Fact}
use Rattle.head_map.specs.declared.fact.Fact.TheVariants as facts

-- a member with the name of a field suffices for the fact
abbrev pub IsPlain : Fact → Type 0
IsPlain (facts.ForwardedFor place) = ⊥
IsPlain (facts.Mtls is) = ⊥
IsPlain fact = ⊤
