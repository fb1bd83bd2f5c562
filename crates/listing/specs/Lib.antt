-- Definitions to believe: Text (a number in decimal, and the words), Listing (the weekly listing and a refusal's line), Lent (a text in a lent
-- buffer), List and Week (the two operations). Put has the words of the functions that write.
pub mod Text
pub mod Listing
pub mod Lent
pub mod List
pub mod Week
pub mod Put
