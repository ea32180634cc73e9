-- The library's texts are ours, and a text with a dot is none with colons.
use Rattle.attributes.specs.Address.{IsIpText}
use Rattle.attributes.specs.declared.address.Ip.TheVariants.{V4, V6}
use Rattle.attributes.proofs.address.parse_dotted.Goals as goal

pub returns-in-Err : goal.returns-in-Err
returns-in-Err c = λ ip. elim ip as (λ a. IsIpText c.args.text.now a → ⊥) [
  | V4 n ↦ λ h. c.in-Err.ensures h.0 h.1
  | V6 n ↦ λ h. cc (c.requires, h.2)
]
