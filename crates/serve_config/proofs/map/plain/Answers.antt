use Rattle.serde_json.specs.View.{view}
use Rattle.serve_config.proofs.Present.{plain_names}
use Rattle.serve_config.proofs.map.plain.Goals as goal

pub returns : goal.returns
returns c =
    (c.requires.0, plain_names (view c.args.value.now) c.in_ok-field.field c.args.fact c.requires.1 c.in_ok-field.ensures)
