-- What a proxy means in the definitions (this project's own).
use Rattle.ads.specs.Ends.{client_view}
use Rattle.proxy_core.specs.Step.{ProxyValue}
use Rattle.proxy_core.specs.declared.proxy.Proxy.{Proxy}

-- the proxy that a `Proxy` means
abbrev pub proxy_view : Proxy → ProxyValue
proxy_view p = record { client = client_view p.client; conns = p.conns }
