mod EarlyLemmas
mod ReadLemmas
mod StepLemmas
mod WorkedLemmas
