mod Values
mod Table
mod Going
mod Fronts
mod Spelled
