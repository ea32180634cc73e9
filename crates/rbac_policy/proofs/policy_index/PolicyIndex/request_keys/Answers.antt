use Rattle.std.proofs.Common.{◌≡◌, take, ap, ◌∙◌}
use Rattle.std.specs.String.{string_bytes}
use Rattle.attributes.specs.Attributes.{url_path_of}
use Rattle.rbac_policy.specs.private.PolicyIndex.{start_number, value_number, value_of}
use Rattle.rbac_policy.proofs.policy_index.PolicyIndex.request_keys.Goals as goal

pub returns : goal.returns
returns c = λ ps policy_index.
    let path : c.as_bytes.result.now ≡ url_path_of c.args.request.now.target = c.as_bytes.ensures.value ∙ c.url_path.ensures in
    let name : c.as_str.result.now ≡ string_bytes c.args.self.now.name = c.as_str.ensures.value in (
      c.args.self.now.most,
      string_bytes c.args.self.now.name,
      record {
        starts_are = λ k le room. c.starts_of.ensures k le room ∙ ap (λ p. start_number (take k p)) path;
        value_is = c.value_seen.ensures ∙ ap (λ n. value_number (value_of c.args.request.now n)) name;
        method_is = c.value_seen-2.ensures;
      },
      rw c.deref.ensures.value policy_index,
    )
