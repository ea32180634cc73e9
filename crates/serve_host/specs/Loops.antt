-- How the loop is set by the settings of a server (this project's own; docs/REFERENCE.md, "The settings of a server").
use Rattle.std.specs.Prelude.{ℕ, ◌*◌, Bool, true, false, min, ◌^◌, ◌-◌}
use Rattle.serve_config.specs.declared.address.Address.{Address}
use Rattle.serve_config.specs.declared.address.Address.TheVariants as addresses
use Rattle.serve_config.specs.declared.address.ControlAddress.{ControlAddress}
use Rattle.serve_config.specs.declared.address.ControlAddress.TheVariants as planes

-- a socket that a supervisor opened, which other processes may share
abbrev pub is_descriptor : Address → Bool
is_descriptor (addresses.Tcp a) = false
is_descriptor (addresses.Unix path) = false
is_descriptor (addresses.Descriptor n) = true

-- the milliseconds without a byte after which the stream of updates ends, at most the greatest number, for a setting in
-- seconds. A file is looked at instead, so its stream never ends so
abbrev pub silence_of : ControlAddress → ℕ → ℕ
silence_of (planes.File path) seconds = 0
silence_of plane seconds = min (seconds * 1000) (2 ^ 64 - 1)
