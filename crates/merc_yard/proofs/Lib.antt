mod Keeping
mod YardExamples
