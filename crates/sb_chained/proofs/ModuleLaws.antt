pub mod DecidedValuesDecode
pub mod SentMessagesDecode
pub mod StepsAreLawful
