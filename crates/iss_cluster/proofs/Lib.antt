mod CauseLemmas
mod CourseLemmas
mod EventLemmas
mod NodeLemmas
mod RunningLemmas
mod TraceLemmas
