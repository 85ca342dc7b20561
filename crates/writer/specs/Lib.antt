pub mod Pushing
