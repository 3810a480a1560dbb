pub mod AcceptedAnswers
pub mod FilledRights
pub mod OneSubmission
pub mod OrderedAnswers
pub mod SameBinds
pub mod SignedNotes
