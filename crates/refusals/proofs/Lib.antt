-- Theorems of `refusals` that fall where a definition of specs/ is wrong, and what rests on them.
pub mod Laws
