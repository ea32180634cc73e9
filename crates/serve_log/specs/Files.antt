-- What the files of a record get (this project's own; docs/OPERATING.md, "The record").
use Rattle.std.specs.Prelude.{◌≡◌, ◌≢◌, ◌⊎◌, ◌+◌, ◌-◌, ◌^◌, ◌++◌, ◌&&◌, ℕ, zero, suc, Bool, true, false, List, [], ◌∷◌, Option, None, Some, Result, IfOk, ⊤, length, min, string_bytes}
use Rattle.std.specs.declared.alloc.Global.{Global}
use Rattle.std.specs.declared.string.String.{String}
use Rattle.proxy_core.specs.Events.{EventValue}
use Rattle.serve_log.specs.Lines.{event_text, file_of}
use Rattle.serve_log.specs.Writing.{Writes}
use Rattle.serve_log.specs.declared.record_file.RecordFile.{RecordFile}
use Rattle.serve_log.specs.declared.record_file.UserChange.{UserChange}
use Rattle.serve_log.specs.declared.record_file.UserChange.TheVariants.{More, Less}
use Rattle.serve_log.specs.declared.open_files.OpenFiles.{OpenFiles}

-- the text is that of the event's line, unless memory ran out for it
abbrev pub IsTextOf : {E : Type 0} → Result (String Global) E → EventValue → Type 0
IsTextOf line event = IfOk line (λ text. string_bytes text ≡ event_text event)

-- no event is left
abbrev pub has_none : List EventValue → Bool
has_none [] = true
has_none (event ∷ events) = false

-- a count with so many more, which stops at the greatest number of 64 bits
abbrev pub counted : ℕ → ℕ → ℕ
counted so_far zero = so_far
counted so_far (suc more) = min (so_far + suc more) (2 ^ 64 - 1)

-- how many lines are lost where a line has this number, or none
abbrev pub lost_at : Option ℕ → ℕ
lost_at None = 1
lost_at (Some line) = 0

-- how many connections need a file after one more or less does
abbrev pub users_after : UserChange → ℕ → ℕ
users_after More users = min (users + 1) (2 ^ 64 - 1)
users_after Less users = users - 1

-- all that matters of the file is as it was
pub record IsSameFile {W : Type 0} (old new : RecordFile W) : Type 0 where
  pub number : new.number ≡ old.number
  pub writer : new.out.writer ≡ old.out.writer
  pub waiting : new.out.waiting ≡ old.out.waiting
  pub lines : new.lines ≡ old.lines
  pub is_whole : new.is_whole ≡ old.is_whole

-- the open files: the one that is written, and then the old ones
abbrev pub files_of : {W : Type 0} → OpenFiles W → List (RecordFile W)
files_of open_files = open_files.current ∷ open_files.older.items

module _ {W : Type 0} (contents : W → Option (List ℕ)) where
  -- the lines of these events follow the bytes that the file was given before. The first of all these are written, in
  -- order, and the rest waits
  abbrev pub Gets : List EventValue → RecordFile W → RecordFile W → Type 0
  Gets events old new =
      Writes (contents old.out.writer) (contents new.out.writer) (old.out.waiting ++ file_of events) new.out.waiting

  -- a file gets the first of these events and loses the others, so many; once it lost one it gets none
  pub record Takes (events : List EventValue) (old new : RecordFile W) (lost : ℕ) : Type 0 where
    pub kept : List EventValue
    pub left : List EventValue
    pub whole : events ≡ kept ++ left
    pub gets : Gets kept old new
    pub none : old.is_whole ≡ false → kept ≡ []
    pub ends : new.is_whole ≡ (old.is_whole && has_none left)
    pub count : lost ≡ length left
    pub number : new.number ≡ old.number
    pub lines : new.lines ≡ counted old.lines (length kept)

  -- each of these files takes the events, and they lose so many lines together
  abbrev pub AllTake : List EventValue → List (RecordFile W) → List (RecordFile W) → ℕ → Type 0
  AllTake events [] [] lost = lost ≡ 0
  AllTake events (old ∷ olds) (new ∷ news) lost =
      (first : ℕ) × (others : ℕ) × Takes events old new first × AllTake events olds news others × (lost ≡ first + others)
  AllTake events [] (new ∷ news) lost = ⊥
  AllTake events (old ∷ olds) [] lost = ⊥

  -- no file takes an event
  abbrev pub NoneTake : List (RecordFile W) → List (RecordFile W) → Type 0
  NoneTake [] [] = ⊤
  NoneTake (old ∷ olds) (new ∷ news) = Takes [] old new 0 × NoneTake olds news
  NoneTake [] (new ∷ news) = ⊥
  NoneTake (old ∷ olds) [] = ⊥

  -- of these files some stay open, in order, and take no event; the others are closed
  abbrev pub StayOpen : List (RecordFile W) → List (RecordFile W) → Type 0
  StayOpen [] news = news ≡ []
  StayOpen (old ∷ olds) news =
      StayOpen olds news
      ⊎ ((new : RecordFile W) × (rest : List (RecordFile W)) × (news ≡ new ∷ rest) × Takes [] old new 0 × StayOpen olds rest)

  -- of these files the first that has this number takes the events, and the others take none; so many lines are lost
  abbrev pub OneTakes : ℕ → List EventValue → List (RecordFile W) → List (RecordFile W) → ℕ → Type 0
  OneTakes number events [] [] lost = lost ≡ 0
  OneTakes number events (old ∷ olds) (new ∷ news) lost =
      ((old.number ≡ number) × Takes events old new lost × NoneTake olds news)
      ⊎ ((old.number ≢ number) × Takes [] old new 0 × OneTakes number events olds news lost)
  OneTakes number events [] (new ∷ news) lost = ⊥
  OneTakes number events (old ∷ olds) [] lost = ⊥

  -- each open file takes the events, and each line that is lost is counted
  pub record AddsToAll (events : List EventValue) (old new : OpenFiles W) : Type 0 where
    pub lost : ℕ
    pub takes : AllTake events (files_of old) (files_of new) lost
    pub counts : new.faults.dropped ≡ counted old.faults.dropped lost

  -- the open file of this number takes the events, if there is one, and each line that is lost is counted
  pub record AddsToOne (number : ℕ) (events : List EventValue) (old new : OpenFiles W) : Type 0 where
    pub lost : ℕ
    pub takes : OneTakes number events (files_of old) (files_of new) lost
    pub counts : new.faults.dropped ≡ counted old.faults.dropped lost

  -- no open file takes an event, and so many lines are lost
  pub record AddsNothing (lost : ℕ) (old new : OpenFiles W) : Type 0 where
    pub takes : NoneTake (files_of old) (files_of new)
    pub counts : new.faults.dropped ≡ counted old.faults.dropped lost
