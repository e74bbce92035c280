mod CommandEnds
