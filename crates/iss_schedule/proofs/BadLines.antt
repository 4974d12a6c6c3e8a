pub mod LinesHaveTheirForm
pub mod OneFirstBadLine
pub mod PrefixesAreRead
pub mod RefusedLines
