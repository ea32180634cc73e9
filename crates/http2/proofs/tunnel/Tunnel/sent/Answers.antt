use Rattle.http2.proofs.tunnel.Tunnel.sent.Goals as goal

pub returns : goal.returns
returns c = λ first came sent took gave law. record {
  trail = law.trail;
  law = c.sent.ensures.law law.trail came sent took gave law.law;
  is_after = rw c.sent.ensures.unread law.is_after;
}
