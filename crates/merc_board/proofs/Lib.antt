mod BoardExamples
