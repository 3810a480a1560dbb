mod ComputedReplies
mod WorkedReasons
mod WorkedVouching
