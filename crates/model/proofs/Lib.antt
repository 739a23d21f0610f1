-- Computed facts of the definitions, in the order in which they are computed.
pub mod SessionCases
pub mod Rows
pub mod Cases
pub mod ReadsCases
pub mod SavedCases
pub mod ExplainCases
pub mod QuestionCases
pub mod HoursCases
