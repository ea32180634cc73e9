mod ConfigurationLemmas
mod KindNames
mod LineLaws
mod RecordLaws
mod ReplayLemmas
