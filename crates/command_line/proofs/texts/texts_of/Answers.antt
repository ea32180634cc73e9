use Rattle.std.proofs.Common.{◌∙◌, Some, ap, sym}
use Rattle.clap.specs.Words.{found_of}
use Rattle.clap.proofs.WalkLemmas.{raw_values-rows}
use Rattle.command_line.proofs.texts.texts_of.Goals as goal

pub returns-in_ok-copy_texts-in-Some : goal.returns-in_ok-copy_texts-in-Some
returns-in_ok-copy_texts-in-Some c =
    let found = rw c.in-Some.is at c.get_strs.ensures in
    sym (found ∙ raw_values-rows (found_of c.args.matches.now) c.args.name.now)
    ∙ ap Some (sym c.in_ok-copy_texts-in-Some.ensures)

pub returns-in-None : goal.returns-in-None
returns-in-None c =
    let found = rw c.in-None.is at c.get_strs.ensures in
    sym (found ∙ raw_values-rows (found_of c.args.matches.now) c.args.name.now)
