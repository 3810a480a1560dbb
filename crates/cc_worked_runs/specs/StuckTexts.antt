-- Texts whose runs are stuck, by example. No check accepts them; each has in its definition `main` the body that stands
-- here. A call of `main`, the naming of an operand that is no name, and a boundary are one step each.
use Rattle.std.specs.Prelude.{ℕ, List, [], ◌∷◌, codes}
use Rattle.cc_device.specs.Events.{Event, Entered, Ended, Exited}
use Rattle.cc_runs.specs.ExamplePrograms.{printed, ticked, done_with_unit}
use Rattle.cc_runs.specs.Runs.{IsStopped}
use Rattle.cc_worked_runs.specs.TextRuns.{TextRunsTo, main_with}

-- the run of the body has the events, and is stuck after so many steps, however much fuel is left
abbrev pub Stops : List ℕ → List Event → ℕ → Type 0
Stops body events steps = TextRunsTo 100 (main_with body) events IsStopped steps

-- No number, unit, type function, box, device or exit is applied.
abbrev pub OnlyFunctionsAreApplied : Type 0
OnlyFunctionsAreApplied =
    Stops (codes "5(u)") [] 2
    × Stops (codes "u(u)") [] 1
    × Stops (codes "val f = fun [X <: Any] => u; f(u)") [] 2
    × Stops (codes "val b = box u; b(u)") [] 2
    × Stops (codes "out(u)") [] 1
    × Stops (codes "boundary [Unit] a => a(u)") (Entered 0 ∷ []) 2

-- No number, function, box, device or exit is applied to a shape.
abbrev pub OnlyTypeFunctionsAreInstantiated : Type 0
OnlyTypeFunctionsAreInstantiated =
    Stops (codes "5[Unit]") [] 2
    × Stops (codes "val f = fun (x: Int) => x; f[Int]") [] 2
    × Stops (codes "val b = box u; b[Unit]") [] 2
    × Stops (codes "out[Unit]") [] 1
    × Stops (codes "boundary [Unit] a => a[Unit]") (Entered 0 ∷ []) 2

-- No number, function, type function, device or exit is opened.
abbrev pub OnlyBoxesAreOpened : Type 0
OnlyBoxesAreOpened =
    Stops (codes "unbox 5") [] 2
    × Stops (codes "val f = fun (x: Int) => x; unbox f") [] 2
    × Stops (codes "val f = fun [X <: Any] => u; unbox f") [] 2
    × Stops (codes "unbox {out} out") [] 1
    × Stops (codes "boundary [Unit] a => unbox a") (Entered 0 ∷ []) 2

-- An operator takes no text, truth value, unit or device, on either side, and two texts are not compared.
abbrev pub OperatorsTakeNumbers : Type 0
OperatorsTakeNumbers =
    Stops (codes "\"a\" + 1") [] 3
    × Stops (codes "1 + \"a\"") [] 3
    × Stops (codes "u - 1") [] 2
    × Stops (codes "1 * true") [] 3
    × Stops (codes "out < 1") [] 2
    × Stops (codes "\"a\" == \"a\"") [] 3

-- A choice takes no number, no unit and no device.
abbrev pub ChoicesTakeTruths : Type 0
ChoicesTakeTruths =
    Stops (codes "if [Int] 1 then 2 else 3") [] 2
    × Stops (codes "if [Int] u then 2 else 3") [] 1
    × Stops (codes "if [Int] out then 2 else 3") [] 1

-- A repetition counts by no text, unit, function or device. What is no function is stuck at the first call, and is not
-- called where the count is 0.
abbrev pub RepetitionsTakeNumbers : Type 0
RepetitionsTakeNumbers =
    Stops (codes "repeat(\"a\", u)") [] 2
    × Stops (codes "repeat(u, u)") [] 1
    × Stops (codes "val f = fun (i: Int) => u; repeat(f, f)") [] 2
    × Stops (codes "repeat(out, u)") [] 1
    × Stops (codes "repeat(1, u)") [] 3
    × TextRunsTo 100 (main_with (codes "repeat(0, u)")) [] done_with_unit 3

-- A number, a unit, a function or a device is no exit.
abbrev pub ExitsAreOfBoundaries : Type 0
ExitsAreOfBoundaries =
    Stops (codes "exit [Unit] (5, u)") [] 2
    × Stops (codes "exit [Unit] (u, u)") [] 1
    × Stops (codes "val f = fun (x: Int) => x; exit [Unit] (f, u)") [] 2
    × Stops (codes "exit [Unit] (out, u)") [] 1

-- The exit of a boundary that has ended, or was left, is stuck, also within another boundary.
abbrev pub ExitsNeedTheirScopes : Type 0
ExitsNeedTheirScopes =
    Stops (codes "val e = boundary [Any] a => a; exit [Unit] (e, u)") (Entered 0 ∷ Ended 0 ∷ []) 5
    × Stops (codes "val e = boundary [Any] a => exit [Any] (a, a); exit [Unit] (e, u)") (Entered 0 ∷ Exited 0 ∷ []) 5
    × Stops (codes "val e = boundary [Any] a => a; boundary [Unit] b => exit [Unit] (e, u)")
    (Entered 0 ∷ Ended 0 ∷ Entered 1 ∷ []) 6

-- No device is operated as one of another kind, and nothing else is operated.
abbrev pub OperationsAreOfTheirDevices : Type 0
OperationsAreOfTheirDevices =
    Stops (codes "out.tick()") [] 1
    × Stops (codes "out.read()") [] 1
    × Stops (codes "out.write(1)") [] 2
    × Stops (codes "hits.print(1)") [] 2
    × Stops (codes "hits.say(\"a\")") [] 2
    × Stops (codes "hits.read()") [] 1
    × Stops (codes "hits.write(1)") [] 2
    × Stops (codes "data.print(1)") [] 2
    × Stops (codes "data.say(\"a\")") [] 2
    × Stops (codes "data.tick()") [] 1
    × Stops (codes "u.tick()") [] 1
    × Stops (codes "5.print(1)") [] 3

-- No operation takes a literal of another kind, or what is no literal.
abbrev pub OperationsTakeTheirArguments : Type 0
OperationsTakeTheirArguments =
    Stops (codes "out.print(\"a\")") [] 2
    × Stops (codes "out.print(true)") [] 2
    × Stops (codes "out.print(u)") [] 1
    × Stops (codes "out.print(out)") [] 1
    × Stops (codes "out.say(5)") [] 2
    × Stops (codes "data.write(\"a\")") [] 2
    × Stops (codes "val f = fun (x: Int) => x; data.write(f)") [] 2

-- A run that is stuck on its way: it ends stopped, with the events before, and what stands behind does not happen.
abbrev pub StopsOnItsWay : Type 0
StopsOnItsWay =
    Stops (codes "val a = out.print(1); val n = hits.tick(); val b = out.print(n); val c = n(u); out.print(2)")
    (printed 1 ∷ ticked 1 ∷ printed 1 ∷ []) 12
    × TextRunsTo 12
    (main_with (codes "val a = out.print(1); val n = hits.tick(); val b = out.print(n); val c = n(u); out.print(2)"))
    (printed 1 ∷ ticked 1 ∷ printed 1 ∷ []) IsStopped 12
