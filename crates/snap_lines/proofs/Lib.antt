pub mod KnownLaws
pub mod LineLaws
pub mod TranscriptLaws
pub mod FeedLaws
pub mod ReadLaws
