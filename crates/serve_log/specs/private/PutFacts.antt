-- The members of facts, put one after another.
use Rattle.std.specs.Prelude.{ℕ, List, [], ◌∷◌, Option, Some, None}
use Rattle.attributes.specs.Conn.{Facts}
use Rattle.serde_json.specs.Data.{Data, Members, put}
use Rattle.program_texts.specs.Facts.{name_of}
use Rattle.program_texts.specs.WrittenFacts.{fact_data}
use Rattle.program_texts.specs.declared.fact.Fact.{Fact}

-- a member with this name is put, if there is a value for it
abbrev pub put_known : List ℕ → Option Data → Members → Members
put_known name None ms = ms
put_known name (Some d) ms = put name d ms

-- the members of these facts are put, in order
abbrev pub put_facts : Facts → List Fact → Members → Members
put_facts f [] ms = ms
put_facts f (fact ∷ facts) ms = put_facts f facts (put_known (name_of fact) (fact_data fact f) ms)
