-- The three demands, in the words of their sentences and with the lowest definitions alone: One (who refuses, and by which rule), Two (what
-- worth, a share and acceptance are), Three (what Build writes, and what an accepted sheet means). Beside them Pages (Page), Listings
-- (the weekly listing), Holdings (give, return and chain) and Desk (the functions for C callers).
pub mod One
pub mod Two
pub mod Three
pub mod Pages
pub mod Listings
pub mod Holdings
pub mod Desk
