pub mod Summaries
pub mod SummaryExamples
