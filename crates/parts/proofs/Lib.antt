mod Growing
pub mod SameParts
