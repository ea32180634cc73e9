-- The name of a server is a text, and each text is one.
use Rattle.std.proofs.Common.{ℕ, List, Option, None, Some, option_map, refl}
use Rattle.std.proofs.lemmas.Result.{IfErr-weaker, IfOk-weaker}
use Rattle.attributes.specs.Conn.{server_name}
use Rattle.serde_json.specs.Data.{Data}
use Rattle.program_texts.specs.Facts.{BothOrNone, IsServerName, IsText}
use Rattle.program_texts.proofs.given.name_at.Goals as goal

-- a text is a name, in its one form
name_of_text : (d : Option Data) (text : Option (List ℕ)) → BothOrNone IsText d text
    → BothOrNone IsServerName d (option_map server_name text)
name_of_text None None reported = reported
name_of_text None (Some text) reported = absurd reported
name_of_text (Some d) None reported = absurd reported
name_of_text (Some d) (Some text) reported = (text, reported, refl)

-- what gives a name gives its text
text_of_name : (d : Option Data) (name : Option (List ℕ)) → BothOrNone IsServerName d name
    → (text : Option (List ℕ)) × BothOrNone IsText d text
text_of_name None None reported = (None, reported)
text_of_name None (Some name) reported = absurd reported
text_of_name (Some d) None reported = absurd reported
text_of_name (Some d) (Some name) reported = (Some reported.0, reported.1)

pub returns-clause-found : goal.returns-clause-found
returns-clause-found c =
    IfOk-weaker c.text_at.result _ _ (λ text reported. name_of_text _ _ reported) c.text_at.ensures.found

pub returns-clause-fault : goal.returns-clause-fault
returns-clause-fault c =
    IfErr-weaker c.text_at.result _ _ (λ e is. (
      is.0,
      λ name reported. let text = text_of_name _ name reported in is.1 text.0 text.1,
    )) c.text_at.ensures.fault
