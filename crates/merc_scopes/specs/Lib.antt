pub mod Scopes
pub mod Bindings
pub mod FirstPlaces
pub mod Walking
pub mod Standing
pub mod ScopesExamples
pub mod BindingsExamples
