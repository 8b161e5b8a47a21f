-- Laws: what a step makes, and runs of steps.
pub mod Taken
pub mod Turns
pub mod Taking
pub mod StepLaws
pub mod Kept
pub mod MeetingsMade
pub mod FirstPart
pub mod SameSteps
pub mod Running
