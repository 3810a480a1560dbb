pub mod ImportReasonRows
pub mod TextReasonRows
