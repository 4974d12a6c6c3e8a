pub mod ArgumentsAreRead
pub mod DecimalIsInjective
pub mod HexIsInjective
pub mod NoSeparatorInWords
pub mod SplitsAreUnique
pub mod TextIsWritten
