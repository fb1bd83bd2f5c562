-- The laws that decide a test of numbers by what is known of them.
use borrow.Author.Tests.{lt-ltb, le-ltb, le-leb, lt-leb, eq-eqb, ne_eqb}

pub ruleset decided = (lt-ltb, le-ltb, le-leb, lt-leb, eq-eqb, ne_eqb)
