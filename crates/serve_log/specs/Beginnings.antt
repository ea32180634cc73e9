-- The beginning of a record's file (this project's own; docs/OPERATING.md, "The record"): what a new core has to be fed.
use Rattle.std.specs.Prelude.{◌≡◌, ◌⊎◌, ◌-◌, ◌++◌, ℕ, Option, zero, suc, Bool, true, false, List, [], ◌∷◌, length, map}
use Rattle.std.specs.List.{flat_map}
use Rattle.proxy_core.specs.Events.{EventValue, ads_bytes, ads_lost, ads_up}
use Rattle.serve_log.specs.Files.{StayOpen, Takes, counted}
use Rattle.serve_log.specs.Frames.{empty_response}
use Rattle.xds_wire.specs.Frames.{frame_of}
use Rattle.serve_log.specs.declared.open_files.OpenFiles.{OpenFiles}
use Rattle.serve_log.specs.declared.record_file.RecordFile.{RecordFile}
use Rattle.serve_log.specs.declared.updates.AcceptedResponse.{AcceptedResponse}
use Rattle.serve_log.specs.declared.updates.Updates.{Updates}

-- nothing has happened that a new core has to be fed
abbrev pub IsNew : Updates → Type 0
IsNew updates = (updates.generation ≡ 0) × (updates.is_up ≡ false)

-- how many of the accepted responses are not kept
abbrev pub forgotten : Updates → ℕ
forgotten updates = updates.generation - length updates.kept.items

-- so many responses that change nothing, in their frames
abbrev pub empty_frames : ℕ → List ℕ
empty_frames zero = []
empty_frames (suc count) = frame_of empty_response ++ empty_frames count

-- the bytes of responses, in order
abbrev pub frames_of : List AcceptedResponse → List ℕ
frames_of kept = flat_map (λ (response : AcceptedResponse). response.bytes.items) kept

-- the pieces are these bytes
abbrev pub Joins : List (List ℕ) → List ℕ → Type 0
Joins pieces bytes = flat_map (λ (piece : List ℕ). piece) pieces ≡ bytes

-- the bytes of the response that is not complete, and the events after them: the stream is up, or it is lost
abbrev pub last_bytes : Bool → List ℕ → List ℕ
last_bytes true unfinished = unfinished
last_bytes false unfinished = []

abbrev pub last_events : Bool → List EventValue
last_events true = []
last_events false = ads_lost ∷ []

-- the events that feed a new core. The stream comes up, and delivers responses that change nothing, so that as many
-- are accepted. Then it delivers those that are kept, and the first bytes of the next one, or is lost
pub record FeedsAgain (updates : Updates) (events : List EventValue) : Type 0 where
  pub pieces : List (List ℕ)
  pub joins : Joins pieces (empty_frames (forgotten updates) ++ frames_of updates.kept.items
      ++ last_bytes updates.is_up updates.unfinished.items)
  pub are : events ≡ ads_up ∷ (map ads_bytes pieces ++ last_events updates.is_up)

-- the events at the beginning of a file; none if nothing has happened
pub record IsBeginning (updates : Updates) (events : List EventValue) : Type 0 where
  pub none : IsNew updates → events ≡ []
  pub some : (IsNew updates → ⊥) → FeedsAgain updates events

module _ {W : Type 0} (contents : W → Option (List ℕ)) where
  -- a file takes the bytes as events of the update stream
  abbrev pub TakesBytes : List ℕ → RecordFile W → RecordFile W → Type 0
  TakesBytes bytes old new =
      (pieces : List (List ℕ)) × Joins pieces bytes × Takes contents (map ads_bytes pieces) old new 0

  -- a file takes what feeds a new core
  abbrev pub TakesUpdates : Updates → RecordFile W → RecordFile W → Type 0
  TakesUpdates updates old new =
      (events : List EventValue) × FeedsAgain updates events × Takes contents events old new 0

  -- a file takes a beginning
  abbrev pub TakesBeginning : Updates → RecordFile W → RecordFile W → Type 0
  TakesBeginning updates old new =
      (events : List EventValue) × IsBeginning updates events × Takes contents events old new 0

  -- the file has this number, and this writer was given a beginning and nothing else
  pub record IsBegunBy (writer : W) (updates : Updates) (number : ℕ) (file : RecordFile W) : Type 0 where
    pub empty : RecordFile W
    pub by : empty.out.writer ≡ writer
    pub nothing : (empty.out.waiting ≡ []) × (empty.is_whole ≡ true) × (empty.lines ≡ 0) × (empty.number ≡ number)
    pub takes : TakesBeginning updates empty file
    pub written : file.out.waiting ≡ []

  -- the file has this number and a beginning, all of which is written, and nothing else
  abbrev pub IsBegun : Updates → ℕ → RecordFile W → Type 0
  IsBegun updates number file = (writer : W) × IsBegunBy writer updates number file

  -- the file that is written goes on without an event. Or another one is begun with the next number, and that one becomes
  -- an older file. No older file gets an event, and some may be closed
  abbrev pub GoesOn : Updates → OpenFiles W → OpenFiles W → Type 0
  GoesOn updates old new =
      (Takes contents [] old.current new.current 0 × StayOpen contents old.older.items new.older.items)
      ⊎ (IsBegun updates (counted old.current.number 1) new.current
      × StayOpen contents (old.older.items ++ old.current ∷ []) new.older.items)
