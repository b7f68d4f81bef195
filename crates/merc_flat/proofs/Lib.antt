pub mod CountLaws
pub mod ArityLaws
pub mod FormLaws
pub mod UnknownLaws
