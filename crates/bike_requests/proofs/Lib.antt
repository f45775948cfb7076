pub mod KindLaws
pub mod CommandLaws
pub mod OneText
pub mod RequestLaws
pub mod LineTexts
pub mod CommandTexts
pub mod LineAgain
