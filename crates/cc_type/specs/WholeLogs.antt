-- What a comparison asks of a log: all that it demands, or what is needed of that. This serves proofs alone.
use Rattle.std.specs.Prelude.{Bool, true, false, List}
use Rattle.cc_checking.specs.Outcomes.{Placed}
use Rattle.cc_subty.specs.Demands.{asked_of}
use Rattle.cc_type.specs.declared.log.Log.{Log}

-- what was asked, by whether it is the whole
abbrev pub listed : Bool → Log → List Placed
listed true log = asked_of log.whole
listed false log = asked_of log.demands
