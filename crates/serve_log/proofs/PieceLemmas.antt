-- Bytes in pieces, piece after piece.
use Rattle.std.proofs.Common.{◌≡◌, ◌≢◌, ◌<◌, ◌-◌, ◌++◌, ℕ, List, [], ◌∷◌, arith, drop, length, map, refl, sym, ap, ◌∙◌, take, Option}
use Rattle.std.proofs.lemmas.List.{length-drop, map-append}
use Rattle.proxy_core.specs.Events.{EventValue, ads_bytes, http_bytes}
use Rattle.serve_log.specs.Files.{AddsToAll, AddsToOne}
use Rattle.serve_log.specs.Recording.{PiecesThen}
use Rattle.serve_log.specs.declared.open_files.OpenFiles.{OpenFiles}
use Rattle.serve_log.proofs.OpenLemmas.{adds_all_then, adds_one_then}

-- fewer bytes are left after a piece
some_bytes : (rest : List ℕ) → rest ≢ [] → 0 < length rest
some_bytes [] some = absurd (some refl)
some_bytes (byte ∷ rest) some = omega arith

pub piece_smaller : (rest more : List ℕ) → more ≡ drop 65536 rest → rest ≢ [] → length more < length rest
piece_smaller rest more is some =
    let left : length more ≡ length rest - 65536 = ap length is ∙ length-drop 65536 rest in
    let first : 0 < length rest = some_bytes rest some in
    omega (arith, left, first)

-- one piece more
pub pieces_more : (bytes : List ℕ) (pieces : List (List ℕ)) (rest : List ℕ) → PiecesThen bytes pieces rest → rest ≢ []
    → PiecesThen bytes (pieces ++ take 65536 rest ∷ []) (drop 65536 rest)
pieces_more bytes [] rest is more = rw is (more, refl, refl)
pieces_more bytes (piece ∷ pieces) rest (some, first, others) more =
    (some, first, pieces_more (drop 65536 bytes) pieces rest others more)

module _ {W : Type 0} (contents : W → Option (List ℕ)) (a b c : OpenFiles W) (pieces : List (List ℕ)) (piece : List ℕ) where
  -- one piece more of the update stream
  pub feeds_more : AddsToAll contents (map ads_bytes pieces) a b → AddsToAll contents (ads_bytes piece ∷ []) b c
      → AddsToAll contents (map ads_bytes (pieces ++ piece ∷ [])) a c
  feeds_more h k =
      rw (map-append ads_bytes pieces (piece ∷ [])) (adds_all_then contents a b c (map ads_bytes pieces) (ads_bytes piece ∷ []) h k)

  -- one piece more of a connection
  pub delivers_more : (number k : ℕ) → AddsToOne contents number (map (http_bytes k) pieces) a b
      → AddsToOne contents number (http_bytes k piece ∷ []) b c
      → AddsToOne contents number (map (http_bytes k) (pieces ++ piece ∷ [])) a c
  delivers_more number k h more =
      rw (map-append (http_bytes k) pieces (piece ∷ []))
      (adds_one_then contents a b c number (map (http_bytes k) pieces) (http_bytes k piece ∷ []) h more)
