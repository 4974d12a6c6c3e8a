pub mod DecidedValuesDecode
pub mod LogLengthIsBounded
pub mod SentMessagesDecode
pub mod StepsAreLawful
