use Rattle.std.proofs.Common.{refl}
use Rattle.head_map.proofs.field_claim.read.Goals as goal

pub returns-in_err-forwarded-in-ForwardedFor : goal.returns-in_err-forwarded-in-ForwardedFor
returns-in_err-forwarded-in-ForwardedFor c =
    rw (c.in-ForwardedFor.is, c.from_residual-in_err-forwarded-in-ForwardedFor.ensures)
    (λ claim said. c.in_err-forwarded-in-ForwardedFor.ensures said.0 said.1)

pub returns-in_err-client_ip-in-RemoteIp : goal.returns-in_err-client_ip-in-RemoteIp
returns-in_err-client_ip-in-RemoteIp c =
    rw (c.in-RemoteIp.is, c.from_residual.ensures) (λ claim said. c.in_err-client_ip-in-RemoteIp.ensures said.0 said.1)

pub returns-in_err-client_ip-in-DirectRemoteIp : goal.returns-in_err-client_ip-in-DirectRemoteIp
returns-in_err-client_ip-in-DirectRemoteIp c =
    rw (c.in-DirectRemoteIp.is, c.from_residual-in_err-client_ip-in-DirectRemoteIp.ensures)
    (λ claim said. c.in_err-client_ip-in-DirectRemoteIp.ensures said.0 said.1)

pub returns-in_ok-client_ip-in-RemoteIp : goal.returns-in_ok-client_ip-in-RemoteIp
returns-in_ok-client_ip-in-RemoteIp c =
    rw c.in-RemoteIp.is (c.in_ok-client_ip-in-RemoteIp.field-0, c.in_ok-client_ip-in-RemoteIp.ensures, refl)

pub returns-in_ok-client_ip-in-DirectRemoteIp : goal.returns-in_ok-client_ip-in-DirectRemoteIp
returns-in_ok-client_ip-in-DirectRemoteIp c =
    rw c.in-DirectRemoteIp.is
    (c.in_ok-client_ip-in-DirectRemoteIp.field-0, c.in_ok-client_ip-in-DirectRemoteIp.ensures, refl)
