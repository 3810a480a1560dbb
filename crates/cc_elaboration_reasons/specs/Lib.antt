pub mod CauseContents
pub mod ElaborationCauseLaws
pub mod ElaborationCauses
pub mod ElaborationReasonTexts
pub mod ExplainedElaboration
pub mod RefusedModules
