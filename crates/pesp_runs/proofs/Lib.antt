pub mod Telling
mod FrontedTexts
