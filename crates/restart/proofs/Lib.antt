pub mod Zeros
pub mod Entered
pub mod Fronts
pub mod Standing
pub mod Turning
pub mod Holding
pub mod Walking
