mod OneAnswer
mod Naming
mod Refusing
