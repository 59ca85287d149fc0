pub mod SpellingLaws
