-- Without a dot the library's texts are ours, and none of four numbers with dots.
use Rattle.std.proofs.Common.{◌≡◌, true}
use Rattle.attributes.specs.Address.{IsIpText, has_dot}
use Rattle.attributes.specs.declared.address.Ip.TheVariants.{V4, V6}
use Rattle.attributes.proofs.AddressText.{has_dot_dotted}
use Rattle.attributes.proofs.address.parse_colons.Goals as goal

pub returns-in-Ok : goal.returns-in-Ok
returns-in-Ok c = (c.in-Ok.address, c.in-Ok.ensures, c.requires, c.to_bits.ensures)

pub returns-in-Err : goal.returns-in-Err
returns-in-Err c = λ ip. elim ip as (λ a. IsIpText c.args.text.now a → ⊥) [
  | V4 n ↦ λ h. let dot : has_dot c.args.text.now ≡ true =
      has_dot_dotted c.args.text.now h.0.octets h.1 in cc
  | V6 n ↦ λ h. c.in-Err.ensures h.0 h.1
]
