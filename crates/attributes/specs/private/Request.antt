-- What a request keeps, and texts that it lends.
use Rattle.std.specs.Prelude.{◌≡◌, ℕ, ◌≤◌, List, Option, length, option_map, slice_range}
use Rattle.std.specs.FinMap.{entries, from_sorted}
use denote.Ref.{Bor}
use Rattle.attributes.specs.Attributes.{query_of, url_path_of}
use Rattle.attributes.specs.Conn.{Facts}
use Rattle.attributes.specs.Headers.{Entry}
use Rattle.attributes.specs.Request.{IsRequest, RequestValue}
use Rattle.attributes.specs.declared.part.Spot.{Spot}
use Rattle.attributes.specs.declared.protocol.Protocol.{Protocol}
use Rattle.attributes.specs.declared.request.CutPlaces.{CutPlaces}
use Rattle.attributes.specs.private.Parts.{IsSpot, IsSpotOf}

-- the bytes of an optional text that is lent
abbrev pub lent_view : Option (Bor (List ℕ)) → Option (List ℕ)
lent_view = option_map (λ text. text.now)

-- the bytes of an optional name with its value, both lent
abbrev pub lent_entry : Option (Bor (List ℕ) × Bor (List ℕ)) → Option Entry
lent_entry = option_map (λ e. (e.0.now, e.1.now))

-- the request with these parts; its headers are sorted by name
abbrev pub of_parts : (method target : List ℕ) → Protocol → ℕ → List Entry → Facts → RequestValue
of_parts method target protocol lines headers facts = record {
  method = method;
  target = target;
  protocol = protocol;
  lines = lines;
  headers = from_sorted headers;
  facts = facts;
}

-- the kept headers are those of the request, in order, and the kept spots are its texts
pub record IsKept (r : RequestValue) (kept : List Entry) (m t path_spot query_spot : Spot) : Type 0
  where
    pub request : IsRequest r
    pub headers : entries r.headers ≡ kept
    pub method : IsSpot kept m
    pub target : IsSpot kept t
    pub url_path : IsSpotOf kept path_spot (url_path_of r.target)
    pub query : IsSpotOf kept query_spot (query_of r.target)

-- the cut is that of the target: its path is before the cut's first place, and its query is between
-- the two others
pub record IsCut (whole : List ℕ) (c : CutPlaces) : Type 0 where
  pub path_within : c.path_end ≤ length whole
  pub ordered : c.query_from ≤ c.query_to
  pub within : c.query_to ≤ length whole
  pub path : slice_range whole 0 c.path_end ≡ url_path_of whole
  pub query : slice_range whole c.query_from c.query_to ≡ query_of whole
