use Rattle.pyr_graph_tests.proofs.tests.code.puts.Given as goal

abbrev pub ghosts-run_twice : goal.ghosts-run_twice
ghosts-run_twice g a = record { name = a.blank.name; parts = a.blank.parts }
