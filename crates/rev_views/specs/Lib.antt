pub mod Trees
pub mod Bookmarks
pub mod Reasons
pub mod Bookmarked
pub mod Views
pub mod Classes
