-- Interference is mutual, and an effect that interferes with another interferes with all that contain the other.
pub mod Interference
-- Written effects that are apart stay apart for all values of their variables.
pub mod LoosenedPaths
pub mod Instances
-- The effect that allows exactly one access, and accesses that interfere with no effect of a list.
pub mod ExactEffects
pub mod Sparing
