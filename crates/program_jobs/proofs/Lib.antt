mod Ends
mod BatchEnds
mod SnapshotLemmas
mod Streams
mod ServerSettingsLemmas
