mod Keeping
mod HistoryExamples
