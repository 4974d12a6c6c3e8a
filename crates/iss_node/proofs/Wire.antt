pub mod ClaimsAgree
pub mod DecodingRefines
pub mod SendersExist
