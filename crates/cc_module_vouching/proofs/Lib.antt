mod AnsweredTrees
mod ClaimedPlaces
mod KeptAnswers
mod KnownBinds
mod PlacedNames
mod VouchedInOrder
