-- How the rules are judged. Failures that are listed become the first of all.
pub mod Firsts
pub mod Members
-- Effects whose marks do not meet do not interfere.
pub mod Apart
pub mod Regions
-- What a body does is at its points; what is listed fails a rule, and what fails a rule is listed; one body more.
pub mod Range
pub mod Judged
pub mod Bodies
-- One group of futures more.
pub mod Groups
