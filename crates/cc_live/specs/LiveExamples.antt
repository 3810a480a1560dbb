-- Worked live runs, beside the console `out`, the counter `hits` and the file `data`.
use Rattle.std.specs.Prelude.{◌≡◌, ℕ, pos, codes, true, false, List, [], ◌∷◌, Some}
use Rattle.std.specs.List.{flat_map}
use Rattle.cc_base.specs.Literals.{NumberLiteral}
use Rattle.cc_base.specs.declared.literal.Base.TheVariants as bases
use Rattle.cc_base.specs.declared.literal.Op.TheVariants as operations
use Rattle.cc_capture.specs.declared.var.Var.TheVariants.{Bound, Free}
use Rattle.cc_core.specs.Shapes.{BaseShape}
use Rattle.cc_core.specs.Stores.{DeviceCell}
use Rattle.cc_core.specs.Terms.{Absent, Term, LiteralTerm, Let, Operation, Boundary}
use Rattle.cc_live.specs.LiveRuns.{Standing, Over, Waits, Breaks, told_line, live}
use Rattle.cc_replay.specs.TraceExamples.{names, tick, say, read, subtract, copy, leave, misapply}
use Rattle.cc_runs.specs.Machine.{configured}
use Rattle.cc_words.specs.Lines.{Line}

-- With so much fuel, the live run of the term by the lines of the host, on cells of the devices alone, tells these texts and
-- stands so.
abbrev pub ComesTo : ℕ → Term → List Line → List (List ℕ) → Standing → Type 0
ComesTo fuel term lines texts standing =
    live names fuel
    (configured (DeviceCell 2 bases.File ∷ DeviceCell 1 bases.Counter ∷ DeviceCell 0 bases.Console ∷ []) [] 0 term)
    lines
    ≡ record { text = flat_map told_line texts; standing = standing }

-- val x = 5; out.print(x)
abbrev pub print : Term
print = Let Absent (LiteralTerm (NumberLiteral (pos 5))) (Operation operations.Print (Free 0) (Some (Bound 0)))

-- a boundary whose body is an answer of the counter
abbrev pub bounded : Term
bounded = Boundary (BaseShape bases.Int) tick

-- A line of the host is the answer, and its number is what is gone on with. No answer is told.
pub record TheHostAnswers : Type 0 where
  pub printed :
      ComesTo 100 print (codes "ok" ∷ []) (codes "out print 5" ∷ codes "done unit after 2 steps" ∷ []) (Over false [])
  pub said :
      ComesTo 100 say (codes "ok" ∷ []) (codes "out say a b" ∷ codes "done unit after 2 steps" ∷ []) (Over false [])
  pub seven : ComesTo 100 read (codes "7" ∷ []) (codes "data read" ∷ codes "done 7 after 1 steps" ∷ []) (Over false [])
  pub least :
      ComesTo 100 read (codes "-9223372036854775808" ∷ [])
      (codes "data read" ∷ codes "done -9223372036854775808 after 1 steps" ∷ [])
      (Over false [])
  pub greatest :
      ComesTo 100 read (codes "9223372036854775807" ∷ [])
      (codes "data read" ∷ codes "done 9223372036854775807 after 1 steps" ∷ [])
      (Over false [])
  pub ticks : ComesTo 100 tick (codes "-7" ∷ []) (codes "hits tick" ∷ codes "done -7 after 1 steps" ∷ []) (Over false [])
  pub two :
      ComesTo 100 subtract (codes "3" ∷ codes "5" ∷ [])
      (codes "data read" ∷ codes "data read" ∷ codes "done -2 after 7 steps" ∷ [])
      (Over false [])
  pub written :
      ComesTo 100 copy (codes "3" ∷ codes "ok" ∷ [])
      (codes "data read" ∷ codes "data write 3" ∷ codes "done unit after 4 steps" ∷ [])
      (Over false [])

-- What needs no answer is told as in a trace.
pub record EventsAreTold : Type 0 where
  pub ended :
      ComesTo 100 bounded (codes "7" ∷ [])
      (codes "enter 0" ∷ codes "hits tick" ∷ codes "leave 0" ∷ codes "done 7 after 3 steps" ∷ [])
      (Over false [])
  pub exited :
      ComesTo 100 leave (codes "7" ∷ [])
      (codes "enter 0" ∷ codes "hits tick" ∷ codes "exit 0" ∷ codes "done 7 after 5 steps" ∷ [])
      (Over false [])
  pub left_behind :
      ComesTo 100 tick (codes "7" ∷ codes "8" ∷ codes "stop" ∷ [])
      (codes "hits tick" ∷ codes "done 7 after 1 steps" ∷ [])
      (Over false (codes "8" ∷ codes "stop" ∷ []))
  pub stuck : ComesTo 100 misapply [] (codes "stuck after 0 steps" ∷ []) (Over true [])

-- Any other line breaks the run where it stands, and those behind it are left.
pub record OtherLinesBreak : Type 0 where
  pub number_for_print : ComesTo 100 print (codes "5" ∷ []) (codes "out print 5" ∷ []) (Breaks [])
  pub nothing_for_print : ComesTo 100 print ([] ∷ []) (codes "out print 5" ∷ []) (Breaks [])
  pub space_behind : ComesTo 100 print (codes "ok " ∷ []) (codes "out print 5" ∷ []) (Breaks [])
  pub other_letters : ComesTo 100 print (codes "OK" ∷ []) (codes "out print 5" ∷ []) (Breaks [])
  pub too_great : ComesTo 100 read (codes "9223372036854775808" ∷ []) (codes "data read" ∷ []) (Breaks [])
  pub too_small : ComesTo 100 read (codes "-9223372036854775809" ∷ []) (codes "data read" ∷ []) (Breaks [])
  pub unit_for_read : ComesTo 100 read (codes "ok" ∷ []) (codes "data read" ∷ []) (Breaks [])
  pub plus_sign : ComesTo 100 read (codes "+1" ∷ []) (codes "data read" ∷ []) (Breaks [])
  pub leading_zero : ComesTo 100 read (codes "07" ∷ []) (codes "data read" ∷ []) (Breaks [])
  pub nothing_for_read : ComesTo 100 read ([] ∷ []) (codes "data read" ∷ []) (Breaks [])
  pub event_for_tick : ComesTo 100 tick (codes "hits tick 7" ∷ []) (codes "hits tick" ∷ []) (Breaks [])
  pub later :
      ComesTo 100 copy (codes "3" ∷ codes "stopped" ∷ codes "ok" ∷ [])
      (codes "data read" ∷ codes "data write 3" ∷ [])
      (Breaks (codes "ok" ∷ []))

-- The host stops the run in the place of an answer, and the operation is not gone on from. Without a line the run waits.
pub record TheHostStops : Type 0 where
  pub first :
      ComesTo 100 subtract (codes "stop" ∷ []) (codes "data read" ∷ codes "stopped after 1 steps" ∷ []) (Over true [])
  pub second :
      ComesTo 100 subtract (codes "3" ∷ codes "stop" ∷ codes "5" ∷ [])
      (codes "data read" ∷ codes "data read" ∷ codes "stopped after 4 steps" ∷ [])
      (Over true (codes "5" ∷ []))
  pub printed :
      ComesTo 100 print (codes "stop" ∷ []) (codes "out print 5" ∷ codes "stopped after 1 steps" ∷ []) (Over true [])
  pub waits_first : ComesTo 100 subtract [] (codes "data read" ∷ []) Waits
  pub waits_second : ComesTo 100 subtract (codes "3" ∷ []) (codes "data read" ∷ codes "data read" ∷ []) Waits

-- The fuel decides the end, and an operation without fuel is not told.
pub record LiveFuelIsCounted : Type 0 where
  pub none : ComesTo 0 tick (codes "7" ∷ []) (codes "out of fuel after 0 steps" ∷ []) (Over true (codes "7" ∷ []))
  pub before_an_operation : ComesTo 1 print [] (codes "out of fuel after 1 steps" ∷ []) (Over true [])
  pub behind_an_operation :
      ComesTo 2 copy (codes "3" ∷ []) (codes "data read" ∷ codes "out of fuel after 2 steps" ∷ []) (Over true [])
  pub enough :
      ComesTo 2 print (codes "ok" ∷ []) (codes "out print 5" ∷ codes "done unit after 2 steps" ∷ []) (Over false [])
