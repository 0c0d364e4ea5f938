pub mod Timetable
pub mod Objects
pub mod Texts
