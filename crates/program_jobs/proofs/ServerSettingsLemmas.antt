-- The members of an object that are read by name.
use Rattle.std.proofs.Common.{◌≡◌, Option, Some, None, sym, ap, ◌∙◌}
use Rattle.std.specs.Prelude.{IsSomeAnd, option_map}
use Rattle.attributes.specs.Conn.{Facts}
use Rattle.program_jobs.specs.ServerSettings.{AreFactsIn}
use Rattle.program_texts.specs.Facts.{AreFacts}
use Rattle.rbac_judge.specs.Judging.{plain_facts}
use Rattle.serde_json.specs.Data.{Data}

pub found_member : {X : Type 0} (o : Option X) (see : X → Data) (x : X) (d : Option Data) (P : Data → Type 0)
    → option_map see o ≡ d → o ≡ Some x → P (see x) → IsSomeAnd d P
found_member o see x d P finds is holds =
    let here : d ≡ Some (see x) = sym finds ∙ ap (option_map see) is in rw here holds

pub found_facts : {X : Type 0} (o : Option X) (see : X → Data) (x : X) (d : Option Data) (facts : Facts)
    → option_map see o ≡ d → o ≡ Some x → AreFacts (see x) facts → AreFactsIn d facts
found_facts o see x d facts finds is means =
    let here : d ≡ Some (see x) = sym finds ∙ ap (option_map see) is in rw here means

pub no_facts : {X : Type 0} (o : Option X) (see : X → Data) (d : Option Data) (facts : Facts)
    → option_map see o ≡ d → o ≡ None → facts ≡ plain_facts → AreFactsIn d facts
no_facts o see d facts finds is scheme =
    let here : d ≡ None = sym finds ∙ ap (option_map see) is in rw here scheme
