pub mod Items
pub mod LineValues
pub mod Maps
pub mod UnknownFields
pub mod Words
