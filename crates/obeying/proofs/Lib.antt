-- A law that the proofs of `completed_rows` cite.
mod Options
