mod Common
mod Claims
mod Copied
mod HandleSteps
mod HandleWalks
mod Machine
