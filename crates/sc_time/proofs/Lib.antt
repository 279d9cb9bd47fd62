pub mod Back
pub mod Calendars
pub mod Digits
pub mod Forms
pub mod Fractions
pub mod Periods
pub mod Readings
