mod FunctionErrors
mod Good
mod Meaning
mod OriginLaws
pub mod PlainSteps
mod StepsTaken
