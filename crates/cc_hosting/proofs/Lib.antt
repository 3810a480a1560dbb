mod HostedCourses
mod UnusedLines
pub mod SteadyCourses
pub mod OneCourse
mod HostedAnswers
mod HostedRules
mod WorkedHosting
