pub mod TextLaws
pub mod GateLaws
pub mod ScanLaws
pub mod OpenLaws
pub mod ClearLaws
pub mod StageLaws
pub mod LogLaws
