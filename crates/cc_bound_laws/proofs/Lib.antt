mod Members
mod Costs
mod Trees
