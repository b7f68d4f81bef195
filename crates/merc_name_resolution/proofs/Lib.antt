pub mod Looking
pub mod ErrorLaws
