-- What only the models of types cite.
pub mod Activities
