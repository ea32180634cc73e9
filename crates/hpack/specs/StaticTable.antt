-- The static table: RFC 7541, appendix A.
use Rattle.std.specs.Prelude.{List, [], ◌∷◌, codes}
use Rattle.hpack.specs.Field.{Line, line}

-- its entries in order; the first has the index 1
unfoldable pub static_table : List Line
static_table =
    line (codes ":authority") (codes "") ∷
    line (codes ":method") (codes "GET") ∷
    line (codes ":method") (codes "POST") ∷
    line (codes ":path") (codes "/") ∷
    line (codes ":path") (codes "/index.html") ∷
    line (codes ":scheme") (codes "http") ∷
    line (codes ":scheme") (codes "https") ∷
    line (codes ":status") (codes "200") ∷
    line (codes ":status") (codes "204") ∷
    line (codes ":status") (codes "206") ∷
    line (codes ":status") (codes "304") ∷
    line (codes ":status") (codes "400") ∷
    line (codes ":status") (codes "404") ∷
    line (codes ":status") (codes "500") ∷
    line (codes "accept-charset") (codes "") ∷
    line (codes "accept-encoding") (codes "gzip, deflate") ∷
    line (codes "accept-language") (codes "") ∷
    line (codes "accept-ranges") (codes "") ∷
    line (codes "accept") (codes "") ∷
    line (codes "access-control-allow-origin") (codes "") ∷
    line (codes "age") (codes "") ∷
    line (codes "allow") (codes "") ∷
    line (codes "authorization") (codes "") ∷
    line (codes "cache-control") (codes "") ∷
    line (codes "content-disposition") (codes "") ∷
    line (codes "content-encoding") (codes "") ∷
    line (codes "content-language") (codes "") ∷
    line (codes "content-length") (codes "") ∷
    line (codes "content-location") (codes "") ∷
    line (codes "content-range") (codes "") ∷
    line (codes "content-type") (codes "") ∷
    line (codes "cookie") (codes "") ∷
    line (codes "date") (codes "") ∷
    line (codes "etag") (codes "") ∷
    line (codes "expect") (codes "") ∷
    line (codes "expires") (codes "") ∷
    line (codes "from") (codes "") ∷
    line (codes "host") (codes "") ∷
    line (codes "if-match") (codes "") ∷
    line (codes "if-modified-since") (codes "") ∷
    line (codes "if-none-match") (codes "") ∷
    line (codes "if-range") (codes "") ∷
    line (codes "if-unmodified-since") (codes "") ∷
    line (codes "last-modified") (codes "") ∷
    line (codes "link") (codes "") ∷
    line (codes "location") (codes "") ∷
    line (codes "max-forwards") (codes "") ∷
    line (codes "proxy-authenticate") (codes "") ∷
    line (codes "proxy-authorization") (codes "") ∷
    line (codes "range") (codes "") ∷
    line (codes "referer") (codes "") ∷
    line (codes "refresh") (codes "") ∷
    line (codes "retry-after") (codes "") ∷
    line (codes "server") (codes "") ∷
    line (codes "set-cookie") (codes "") ∷
    line (codes "strict-transport-security") (codes "") ∷
    line (codes "transfer-encoding") (codes "") ∷
    line (codes "user-agent") (codes "") ∷
    line (codes "vary") (codes "") ∷
    line (codes "via") (codes "") ∷
    line (codes "www-authenticate") (codes "") ∷
    []
