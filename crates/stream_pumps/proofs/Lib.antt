mod PumpLemmas
mod ControlPumpLemmas
pub mod RoundLemmas
