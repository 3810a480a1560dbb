use Rattle.std.proofs.Common.{◌≡◌, ◌≢◌, ℕ, ◌<◌, map, slice_get, Some}
use Rattle.cc_replies.specs.Explanations.{names_of}
use Rattle.cc_answers.proofs.explaining.place_of.Given as goal

abbrev pub invariant-loop-place : goal.invariant-loop-place
invariant-loop-place l = (k : ℕ) → k < l.place → slice_get (map names_of l.definitions) k ≢ Some (l.«module», l.def)
