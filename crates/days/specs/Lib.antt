-- Definitions to believe: Days (document 02, note 4).
pub mod Days
