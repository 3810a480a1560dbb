pub mod BrokenNodes
pub mod ComparisonRows
pub mod GivenTypes
pub mod RisingNumbers
pub mod RowHolds
pub mod Tests
pub mod TypingRows
pub mod WorkedDerivations
