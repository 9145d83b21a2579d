-- One worker and its steps.
pub mod Lanes
pub mod Workers
pub mod Roles
pub mod Expanding
pub mod Settling
pub mod Contexts
pub mod Ahead
pub mod Serving
