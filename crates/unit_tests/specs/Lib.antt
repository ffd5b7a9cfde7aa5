pub mod TestJobs
