use Rattle.std.proofs.lemmas.Str.Pattern.{contains_text}
use Rattle.head_map.proofs.path.has.Goals as goal

pub returns : goal.returns
returns c = contains_text c.contains.result c.args.text.now c.args.path.now c.contains.ensures.cases
