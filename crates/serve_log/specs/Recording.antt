-- What a record gets at each event (this project's own; docs/OPERATING.md, "The record").
use Rattle.std.specs.Prelude.{◌≡◌, ◌≢◌, ◌⊎◌, ⊤, ℕ, Bool, true, false, List, [], ◌∷◌, Option, None, Some, drop, get_or, map, take}
use Rattle.attributes.specs.Conn.{Facts, conn_view}
use Rattle.proxy_core.specs.Events.{EventValue, ads_bytes, http_bytes, http_closed, http_open}
use Rattle.serve_log.specs.Files.{AddsNothing, AddsToAll, AddsToOne, files_of}
use Rattle.serve_log.specs.declared.connection.Connection.{Connection}
use Rattle.serve_log.specs.declared.open_files.OpenFiles.{OpenFiles}
use Rattle.serve_log.specs.declared.record_file.RecordFile.{RecordFile}

-- the bytes in pieces of 65,536, of which the last may be shorter, and then this rest
abbrev pub PiecesThen : List ℕ → List (List ℕ) → List ℕ → Type 0
PiecesThen bytes [] rest = bytes ≡ rest
PiecesThen bytes (piece ∷ pieces) rest =
    (bytes ≢ []) × (piece ≡ take 65536 bytes) × PiecesThen (drop 65536 bytes) pieces rest

-- the bytes in pieces of 65,536, of which the last may be shorter
abbrev pub ArePieces : List ℕ → List (List ℕ) → Type 0
ArePieces bytes pieces = PiecesThen bytes pieces []

-- the connection that is open in a place
abbrev pub connection_at : ℕ → List (Option Connection) → Option Connection
connection_at place connections = get_or connections place None

-- the connections in all other places are as they were
abbrev pub KeepsOthers : ℕ → List (Option Connection) → List (Option Connection) → Type 0
KeepsOthers place old new = (k : ℕ) → k ≢ place → connection_at k new ≡ connection_at k old

-- of these files the first that has this number has lost a line, or none has it
abbrev pub IsOut : {W : Type 0} → ℕ → List (RecordFile W) → Type 0
IsOut number [] = ⊤
IsOut number (file ∷ files) =
    ((file.number ≡ number) × (file.is_whole ≡ false)) ⊎ ((file.number ≢ number) × IsOut number files)

module _ {W : Type 0} (contents : W → Option (List ℕ)) where
  -- each open file gets the bytes of the update stream
  abbrev pub Feeds : List ℕ → OpenFiles W → OpenFiles W → Type 0
  Feeds bytes old new = (pieces : List (List ℕ)) × ArePieces bytes pieces × AddsToAll contents (map ads_bytes pieces) old new

  -- a connection opens in the file that is written. Then it is in that file, or in none if the file has lost a line
  pub record Opens (connection moved : Connection) (old new : OpenFiles W) : Type 0 where
    pub adds : AddsToOne contents old.current.number
        (http_open connection.number (conn_view connection.facts) ∷ []) old new
    pub file : (moved.file ≡ old.current.number) ⊎ ((moved.file ≡ 0) × (new.current.is_whole ≡ false))
    pub number : moved.number ≡ connection.number
    pub facts : moved.facts ≡ connection.facts
    pub is_fresh : moved.is_fresh ≡ connection.is_fresh

  -- a connection that is fresh opens in the file that is written, unless that file has its events. One that is not
  -- fresh stays in its file
  abbrev pub Moves : Connection → Connection → OpenFiles W → OpenFiles W → Type 0
  Moves connection moved old new =
      ((moved ≡ connection) × AddsNothing contents 0 old new
      × ((connection.is_fresh ≡ false) ⊎ (connection.file ≡ old.current.number)))
      ⊎ ((connection.is_fresh ≡ true) × (connection.file ≢ old.current.number) × Opens connection moved old new)

  -- the file of a connection gets the bytes that it delivers, unless it is in none
  abbrev pub Delivers : Connection → List ℕ → OpenFiles W → OpenFiles W → Type 0
  Delivers connection bytes old new =
      (pieces : List (List ℕ)) × ArePieces bytes pieces
      × AddsToOne contents connection.file (map (http_bytes connection.number) pieces) old new

  -- a connection with this number and these facts opens in a place and in the file that is written. If memory runs out,
  -- none is open there, and one line is lost
  abbrev pub Begins : ℕ → Facts → Option Connection → OpenFiles W → OpenFiles W → Type 0
  Begins number facts None old new = AddsNothing contents 1 old new
  Begins number facts (Some connection) old new =
      (given : Connection) × (given.number ≡ number) × (conn_view given.facts ≡ facts) × (given.is_fresh ≡ true)
      × (between : OpenFiles W) × Opens given connection old between × AddsNothing contents 0 between new

  -- a connection that may have moved delivers bytes, and stays in its place. It is in no file from then on if its file
  -- has lost a line or is closed
  pub record Stays (moved kept : Connection) (bytes : List ℕ) (old new : OpenFiles W) : Type 0 where
    pub delivers : Delivers moved bytes old new
    pub number : kept.number ≡ moved.number
    pub facts : kept.facts ≡ moved.facts
    pub file : (kept.file ≡ moved.file) ⊎ ((kept.file ≡ 0) × ((bytes ≡ []) ⊎ IsOut moved.file (files_of new)))

  -- the connection in a place, and then there, delivers bytes: it may move, and then its file gets them
  abbrev pub Receives : List ℕ → Bool → Option Connection → Option Connection → OpenFiles W → OpenFiles W → Type 0
  Receives bytes is_fresh None kept old new = AddsNothing contents 0 old new × (kept ≡ None)
  Receives bytes is_fresh (Some connection) None old new = ⊥
  Receives bytes is_fresh (Some connection) (Some kept) old new =
      (moved : Connection) × (between : OpenFiles W) × (after : OpenFiles W) × Moves connection moved old between
      × Stays moved kept bytes between after × AddsNothing contents 0 after new × (kept.is_fresh ≡ is_fresh)

  -- the connection in a place is closed: its file gets that
  abbrev pub Ends : Option Connection → OpenFiles W → OpenFiles W → Type 0
  Ends None old new = AddsNothing contents 0 old new
  Ends (Some connection) old new = AddsToOne contents connection.file (http_closed connection.number ∷ []) old new
