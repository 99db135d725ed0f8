pub mod Closed
pub mod Lists
pub mod WorkedCalls
pub mod WorkedCosts
pub mod WorkedTexts
pub mod WorkedPlaces
