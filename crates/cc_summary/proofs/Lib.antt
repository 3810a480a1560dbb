mod Tallies
mod SummaryTexts
