mod WorkloadNames
mod ItemLaws
mod EntryTexts
