pub mod Numbers
pub mod Rooms
pub mod Coordinates
pub mod Spellings
pub mod Calendars
pub mod Begins
