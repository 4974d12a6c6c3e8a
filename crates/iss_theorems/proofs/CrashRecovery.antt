pub mod CourseKeepsWhatStepsKeep
pub mod Headline
pub mod JournaledEventsEnter
pub mod LostEventsAreNumbered
pub mod RunsInSequence
