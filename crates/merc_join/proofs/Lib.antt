mod Lists
mod Keeping
mod Ending
mod Dealing
mod Laws
mod Answering
mod JoinExamples
