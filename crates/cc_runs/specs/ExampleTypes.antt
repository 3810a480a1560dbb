-- The type of a term, by example.
use Rattle.std.specs.Prelude.{[]}
use Rattle.cc_base.specs.Literals.{UnitLiteral}
use Rattle.cc_capture.specs.declared.var.Var.TheVariants.{Bound}
use Rattle.cc_capture.specs.Sets.{empty}
use Rattle.cc_core.specs.Shapes.{capturing}
use Rattle.cc_core.specs.Terms.{Term, LiteralTerm, Boundary, Leave}
use Rattle.cc_core.specs.Typing.{HasType}
use Rattle.cc_runs.specs.ExamplePrograms.{nothing, val}

-- A boundary that is left at once: boundary [Unit] z => exit [Unit] (z, unit)
abbrev pub leaves_at_once : Term
leaves_at_once = Boundary nothing (val (LiteralTerm UnitLiteral) (Leave nothing empty (Bound 1) (Bound 0)))

-- it gives unit, and captures nothing
abbrev pub LeavingAtOnceIsTyped : Type 0
LeavingAtOnceIsTyped = HasType [] leaves_at_once (capturing nothing empty)
