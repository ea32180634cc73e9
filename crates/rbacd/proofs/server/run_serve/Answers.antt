use Rattle.rbacd.specs.Run.{EndsServe}
use Rattle.rbacd.proofs.Ends.{end_of_serve}
use Rattle.rbacd.proofs.server.run_serve.Goals as goal

pub returns-then-not-words : goal.returns-then-not-words
returns-then-not-words g c =
    let (text, read, settings) = rw c.as_str.ensures.value at c.in-Ok.ensures.found in
    EndsServe.served text _ _ _ read settings (λ is_so. (let not = c.if-not-words.true in cc)) c.served.ensures

pub returns-in-Ok-server_settings_text : goal.returns-in-Ok-server_settings_text
returns-in-Ok-server_settings_text g c =
    let (text, read, settings) = rw c.as_str.ensures.value at c.in-Ok.ensures.found in
    EndsServe.meant text _ _ _ _ read settings (let is_so = c.if-not-words.false in cc) c.show.ensures

pub returns : goal.returns
returns g c =
    let (reported, same, left) = c.end_by.ensures in
    let fault = rw c.as_str.ensures.value at c.in-Err.ensures.fault in
    end_of_serve _ _ _ _ _ _ _ _ _ _ c.in-Err.fault reported fault same left
