pub mod Calendar
pub mod Escape
pub mod Markup
pub mod Numbers
