mod Computed
mod FirstPaths
mod FirstSteps
mod Orders
mod Targets
mod Walk
mod Worked
