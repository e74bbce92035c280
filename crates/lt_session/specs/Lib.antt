pub mod CommandEnds
