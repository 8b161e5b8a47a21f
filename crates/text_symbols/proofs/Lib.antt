pub mod ItemNumbers
pub mod LettersTaken
pub mod MarkedSets
pub mod CharacterMap
pub mod KeysOnce
pub mod PutRules
pub mod SplitBodies
