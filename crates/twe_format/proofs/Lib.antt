pub mod AcceptedAlike
pub mod OneAnswer
pub mod RunAlike
pub mod SameLines
