mod AnswerLaws
mod BreakLaws
mod PlaceLaws
mod Reading
mod TokenLaws
