-- `layers::note_all` meets its contract. Assumes nothing.
use Rattle.retimer.specs.Layers.{ChosenFrom, Noting}
use Rattle.retimer.proofs.layers.note_all.Given as goal

abbrev pub invariant-loop-m : goal.invariant-loop-m
invariant-loop-m l = Noting l.s l.cs l.k (ChosenFrom l.h l.m l.places) l.initial.first l.initial.second l.first l.second
