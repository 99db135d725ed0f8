mod WorkedNumbers
mod WorkedObjects
mod WorkedCalls
mod WorkedRuns
mod WorkedSteps
mod WorkedCorners
