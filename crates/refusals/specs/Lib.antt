pub mod Table
pub mod Results
pub mod Answers
pub mod Laws
pub mod Exactly
pub mod Tests
