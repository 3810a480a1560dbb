-- Whole runs of texts, by example: their events, their end and what it shows, and the number of their steps.
use Rattle.std.specs.Prelude.{◌≡◌, ℕ, pos, List, [], ◌∷◌, ◌++◌, length, codes, Some}
use Rattle.std.specs.Option.{option_map}
use Rattle.cc_base.specs.declared.literal.Op.TheVariants as operations
use Rattle.cc_base.specs.Literals.{NumberLiteral, TextLiteral}
use Rattle.cc_device.specs.Devices.{Console, File, Counter}
use Rattle.cc_device.specs.Endings.{ShownFunction, ShownTypeFunction, ShownBox, ShownDevice, ShownLabel}
use Rattle.cc_device.specs.Events.{Event, Operated, Entered, Ended, Exited}
use Rattle.cc_device.specs.WorkedAnswers.{least}
use Rattle.cc_runs.specs.ExamplePrograms.{printed, said, ticked, done_showing, done_with, done_with_number}
use Rattle.cc_runs.specs.ExamplePrograms.{done_with_unit, out_of_fuel}
use Rattle.cc_runs.specs.Interleavings.{state_of}
use Rattle.cc_runs.specs.Runs.{State, run}
use Rattle.cc_worked_runs.specs.TextRuns.{states, start_of, TextRunsTo, main_with}

-- a function that prints, in front of a definition `main` with the body
abbrev pub with_printing : List ℕ → List ℕ
with_printing body = codes "def f = fun (x: Int) => out.print(x) " ++ main_with body

-- A call takes four steps, and with fuel for three it is out of fuel before it prints; more fuel changes nothing.
abbrev pub FuelIsExact : Type 0
FuelIsExact =
    TextRunsTo 4 (with_printing (codes "f(5)")) (printed 5 ∷ []) done_with_unit 4
    × TextRunsTo 3 (with_printing (codes "f(5)")) [] out_of_fuel 3
    × TextRunsTo 0 (with_printing (codes "f(5)")) [] out_of_fuel 0
    × TextRunsTo 100 (with_printing (codes "f(5)")) (printed 5 ∷ []) done_with_unit 4

-- a name for what has one
abbrev pub renames : List ℕ
renames = main_with (codes "val n = 5; val m = n; out.print(m)")

-- the last state of the run of a text's program
abbrev pub last_of : State → State
last_of start = (run 1000 start).last

-- That is one step without a cell: at the end there are the cells of three devices, of main, of unit, and of 5.
abbrev pub NamesNeedNoCell : Type 0
NamesNeedNoCell =
    TextRunsTo 9 renames (printed 5 ∷ []) done_with_unit 4
    × (option_map (λ start. length (last_of (state_of states start)).configuration.store) (start_of renames) ≡ Some 6)

-- a box in front of that definition
abbrev pub with_box : List ℕ → List ℕ
with_box body = codes "def f = fun (x: Int) => out.print(x) def b = box f " ++ main_with body

-- A box that is not opened does nothing.
abbrev pub BoxesRun : Type 0
BoxesRun =
    TextRunsTo 9 (with_box (codes "b")) [] (done_showing ShownBox) 1
    × TextRunsTo 9 (with_box (codes "(unbox {out} b)(7)")) (printed 7 ∷ []) done_with_unit 7

-- A true condition takes the first branch, and a false one the second.
abbrev pub ChoicesRun : Type 0
ChoicesRun =
    TextRunsTo 100 (with_printing (codes "if [Unit] 2 < 3 then f(1) else f(2)")) (printed 1 ∷ []) done_with_unit 10
    × TextRunsTo 100 (with_printing (codes "if [Unit] 3 < 2 then f(1) else f(2)")) (printed 2 ∷ []) done_with_unit 10

-- A boundary is ended by its body, with a value and with a variable. Where one is left by an exit from within another,
-- that one neither ends nor is left by its own, and what it would add is not added.
abbrev pub BoundariesRun : Type 0
BoundariesRun =
    TextRunsTo 9 (main_with (codes "val r = boundary [Int] a => 7; out.print(r)"))
    (Entered 0 ∷ Ended 0 ∷ printed 7 ∷ []) done_with_unit 6
    × TextRunsTo 9 (main_with (codes "val n = 7; val r = boundary [Int] a => n; out.print(r)"))
    (Entered 0 ∷ Ended 0 ∷ printed 7 ∷ []) done_with_unit 7
    × TextRunsTo 9
    (main_with (codes "val r = boundary [Int] a => val s = boundary [Int] b => exit [Int] (a, 4); s + 100; "
    ++ codes "out.print(r)"))
    (Entered 0 ∷ Entered 1 ∷ Exited 0 ∷ printed 4 ∷ []) done_with_unit 9

-- a box that goes through a function of any type
abbrev pub passes_a_box : List ℕ
passes_a_box =
    codes "def id = fun [X <: Any] => fun (x: X) => x def f = fun (x: Int) => val w = out.print(x); x "
    ++ main_with (codes "val g = id[Box[((x: Int) -> Int)^{out}]]; (unbox {out} (g(box f)))(3)")

-- The box that comes back is the one that went in.
abbrev pub BoxesPass : Type 0
BoxesPass = TextRunsTo 100 passes_a_box (printed 3 ∷ []) (done_with_number 3) 16

-- what is repeated prints, and does nothing else
abbrev pub prints_and_repeats : List ℕ → List ℕ
prints_and_repeats count =
    main_with (codes "val f = fun (i: Int) => out.print(i); repeat(" ++ count ++ codes ", f)")

-- There are as many calls as the count says, with the numbers from 0 on, and none where it is 0 or negative. What a
-- call gives, a value or a variable, does not end the repetition, which gives unit.
abbrev pub RepetitionsRun : Type 0
RepetitionsRun =
    TextRunsTo 100 (prints_and_repeats (codes "0 - 1")) [] done_with_unit 8
    × TextRunsTo 100 (prints_and_repeats (codes "0")) [] done_with_unit 4
    × TextRunsTo 100 (prints_and_repeats (codes "1")) (printed 0 ∷ []) done_with_unit 7
    × TextRunsTo 100 (prints_and_repeats (codes "2")) (printed 0 ∷ printed 1 ∷ []) done_with_unit 10
    × TextRunsTo 9 (prints_and_repeats (codes "2")) (printed 0 ∷ printed 1 ∷ []) out_of_fuel 9
    × TextRunsTo 100 (main_with (codes "val f = fun (i: Int) => val w = out.print(i); w; repeat(2, f)"))
    (printed 0 ∷ printed 1 ∷ []) done_with_unit 14
    × TextRunsTo 100 (main_with (codes "val f = fun (i: Int) => unit; repeat(3, f)")) [] done_with_unit 10

-- An exit out of a repetition ends it with its boundary: the calls that are left do not happen, and the answer is what
-- the exit was handed.
abbrev pub RepetitionsAreLeft : Type 0
RepetitionsAreLeft =
    TextRunsTo 100
    (main_with (codes "boundary [Int] a => val f = fun (i: Int) => val w = out.print(i); exit [Unit] (a, i); "
    ++ codes "val r = repeat(3, f); 9"))
    (Entered 0 ∷ printed 0 ∷ Exited 0 ∷ []) (done_with_number 0) 11

-- Four definitions that call each other, where `next` has the body.
abbrev pub counts_and_tells : List ℕ → List ℕ
counts_and_tells counting =
    codes "def next = fun (u: Unit) => " ++ counting ++ codes " def line = fun (x: Int) => out.print(x) "
    ++ codes "def title = fun (s: Str) => out.say(s) "
    ++ main_with (codes "val a = title(\"start\"); "
    ++ codes "val each = fun (i: Int) => val n = next(unit); line(n * 10 + i); repeat(2, each)")

-- They run, with one operation of the counter in each call of `next`, and with two.
abbrev pub CallsRun : Type 0
CallsRun =
    TextRunsTo 1000 (counts_and_tells (codes "hits.tick()"))
    (said (codes "start") ∷ ticked 1 ∷ printed 10 ∷ ticked 2 ∷ printed 21 ∷ []) done_with_unit 41
    × TextRunsTo 1000 (counts_and_tells (codes "val a = hits.tick(); hits.tick()"))
    (said (codes "start") ∷ ticked 1 ∷ ticked 2 ∷ printed 20 ∷ ticked 3 ∷ ticked 4 ∷ printed 41 ∷ []) done_with_unit 47

-- the devices after the first of them
abbrev pub DevicesKeepWhatWasDone : Type 0
DevicesKeepWhatWasDone =
    option_map (λ start. (last_of (state_of states start)).devices)
    (start_of (counts_and_tells (codes "hits.tick()")))
    ≡ Some (Console (TextLiteral (codes "start") ∷ NumberLiteral (pos 10) ∷ NumberLiteral (pos 21) ∷ [])
    ∷ Counter (pos 2) ∷ File (pos 3 ∷ []) 0 ∷ [])

-- The greatest number and one more, after a repetition of none: the sum is the least number, and nothing is printed.
abbrev pub NumbersWrapInRuns : Type 0
NumbersWrapInRuns =
    TextRunsTo 100
    (main_with (codes "val f = fun (i: Int) => out.print(i); val a = repeat(0, f); 9223372036854775807 + 1"))
    [] (done_with (NumberLiteral least)) 9

-- `data` answered the number
abbrev pub was_read : ℕ → Event
was_read n = Operated 2 operations.Read (NumberLiteral (pos n))

-- The file gives 3, what was written, and then 0.
abbrev pub FilesAreRead : Type 0
FilesAreRead =
    TextRunsTo 100
    (main_with (codes "val a = data.write(8); val b = data.read(); val c = data.read(); val e = data.read(); "
    ++ codes "out.print(b + c * 10 + e)"))
    (Operated 2 operations.Write (NumberLiteral (pos 8)) ∷ was_read 3 ∷ was_read 8 ∷ was_read 0 ∷ printed 83 ∷ [])
    done_with_unit 25

-- Definitions that name themselves: one comes to its end, and one goes on for as long as it has fuel.
abbrev pub RecursionRuns : Type 0
RecursionRuns =
    TextRunsTo 100
    (codes "def rec down: (n: Int) -> Int = fun (n: Int) => if [Int] n < 1 then 0 else down(n - 1) "
    ++ main_with (codes "down(3)"))
    [] (done_with_number 0) 38
    × TextRunsTo 10 (codes "def rec main: ((u: Unit) -> Unit)^{out} = fun (u: Unit) => val w = out.print(1); main(u)")
    (printed 1 ∷ printed 1 ∷ []) out_of_fuel 10

-- a function, a type function and a box, in front of a definition `main` with the body
abbrev pub with_values : List ℕ → List ℕ
with_values body =
    codes "def f = fun (x: Int) => x def id = fun [X <: Any] => fun (x: X) => x def b = box f " ++ main_with body

-- What is shown of answers: functions, type functions and boxes as such, a device by its number, an exit by its label,
-- and a literal, also the unit that `main` is applied to, as it is.
abbrev pub AnswersAreShown : Type 0
AnswersAreShown =
    TextRunsTo 9 (with_values (codes "f")) [] (done_showing ShownFunction) 1
    × TextRunsTo 9 (with_values (codes "fun (x: Int) => x")) [] (done_showing ShownFunction) 1
    × TextRunsTo 9 (with_values (codes "id")) [] (done_showing ShownTypeFunction) 1
    × TextRunsTo 9 (with_values (codes "b")) [] (done_showing ShownBox) 1
    × TextRunsTo 9 (with_values (codes "hits")) [] (done_showing (ShownDevice 1)) 1
    × TextRunsTo 9 (with_values (codes "boundary [Any] a => a")) (Entered 0 ∷ Ended 0 ∷ [])
    (done_showing (ShownLabel 0)) 3
    × TextRunsTo 9 (with_values (codes "u")) [] done_with_unit 1
    × TextRunsTo 9 (with_values (codes "7")) [] (done_with_number 7) 1
