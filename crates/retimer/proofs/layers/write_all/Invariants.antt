-- `layers::write_all` meets its contract. Assumes nothing.
use Prim.Native.Nat.{◌+◌}
use lib.ListN.{get_or, drop}
use Rattle.retimer.specs.Layers.{Chosen, AllWritten}
use Rattle.retimer.proofs.layers.write_all.Given as goal

abbrev pub invariant-loop-m : goal.invariant-loop-m
invariant-loop-m l = AllWritten l.s (get_or l.cs l.k 0) (drop (l.k + 1) l.cs) l.h (Chosen l.h l.m l.places) l.initial.table l.table
