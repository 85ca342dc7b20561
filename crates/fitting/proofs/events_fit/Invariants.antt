-- `fitting::events_fit` meets its contract. The invariant: `fit` says whether the events below e fit.
use Rattle.fitting.specs.FittingLaws.{EventsPassed}
use Rattle.fitting.proofs.events_fit.Given as goal

abbrev pub invariant-loop-e : goal.invariant-loop-e
invariant-loop-e l = EventsPassed l.tokens l.consumed l.mask l.fit l.e
