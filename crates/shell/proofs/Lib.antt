mod InputSoFar
mod LeadingLaws
mod ReadyLaws
mod RunningLaws
mod Showing
mod Statuses
mod Words
