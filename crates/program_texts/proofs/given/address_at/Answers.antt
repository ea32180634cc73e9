-- What spells an address is a text.
use Rattle.std.proofs.Common.{ℕ, List, Option, None, Some}
use Rattle.std.proofs.lemmas.Result.{err_from_is_err_and}
use Rattle.attributes.specs.declared.address.Ip.{Ip}
use Rattle.serde_json.specs.Data.{Data}
use Rattle.program_texts.specs.Facts.{IsAddress, IsText, BothOrNone}
use Rattle.program_texts.proofs.given.address_at.Goals as goal

-- what gives an address gives its text
text_of_address : (d : Option Data) (ip : Option Ip) → BothOrNone IsAddress d ip
    → (text : Option (List ℕ)) × BothOrNone IsText d text
text_of_address None None reported = (None, reported)
text_of_address None (Some ip) reported = absurd reported
text_of_address (Some d) None reported = absurd reported
text_of_address (Some d) (Some ip) reported = (Some reported.0, reported.1)

pub returns-in_err-text-clause-fault : goal.returns-in_err-text-clause-fault
returns-in_err-text-clause-fault c =
    let p = err_from_is_err_and c.from_residual.result c.from_residual.ensures.1 in
    rw (p.1, p.2) (
      c.in_err-text.ensures.fault.0,
      λ ip reported. let text = text_of_address _ ip reported in c.in_err-text.ensures.fault.1 text.0 text.1,
    )
