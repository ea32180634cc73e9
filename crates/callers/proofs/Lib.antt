pub mod TakenAsks
pub mod CutPieces
pub mod Meaning
