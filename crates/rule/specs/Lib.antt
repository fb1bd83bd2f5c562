-- Definition to believe: Random (the number after another). Independence is defined by the code of src/, which the tests run.
pub mod Random
