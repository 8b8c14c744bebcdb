pub mod Members
pub mod Back
pub mod FlatLaws
pub mod TextLaws
