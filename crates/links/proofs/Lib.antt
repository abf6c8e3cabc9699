-- Laws about the definitions of specs/. Assumes nothing.
-- values put together from their parts
pub mod Making
-- what a link holds, serves and leaves
pub mod LinkLaws
