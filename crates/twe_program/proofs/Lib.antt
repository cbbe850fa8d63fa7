pub mod NoCells
