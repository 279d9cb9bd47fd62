use Rattle.bench_walk.proofs.main.Given as goal

abbrev pub ghosts-measure_all : goal.ghosts-measure_all
ghosts-measure_all a = record { name = a.blank.name; parts = a.blank.parts }
