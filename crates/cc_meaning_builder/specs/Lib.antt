pub mod Forms
pub mod Named
pub mod WellNamed
pub mod Tables
pub mod Members
pub mod Written
pub mod Built
pub mod Laws
