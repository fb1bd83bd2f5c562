-- Definitions to believe: Days (the days of a team, and of an instrument on the shelf, by what the file names). Row states the contracts of what
-- works on a team's row of bytes.
pub mod Row
pub mod Days
