-- Replies to runs, by example.
use Rattle.std.specs.Prelude.{ℕ, codes, true, false, List, [], ◌∷◌, ◌++◌}
use Rattle.std.specs.List.{flat_map}
use Rattle.cc_verdicts.specs.PresentTexts.{Texts}
use Rattle.cc_replies.specs.ReplyTexts.{line}
use Rattle.cc_replies.specs.Requests.{RunDefinition}
use Rattle.cc_worked_replies.specs.TextReplies.{RepliesWith, console, console_and_counter, three_devices}
use Rattle.cc_worked_replies.specs.TextReplies.{m, n, main, one_module}

-- a function that prints, and one that calls it
abbrev pub printing : Texts
printing =
    one_module
    (codes "def f: ((x: Int) -> Unit)^{out} = fun (x: Int) => out.print(x)"
    ∷ codes "def main = fun (u: Unit) => f(5)" ∷ [])

-- what the call prints is told where its step is taken
pub record PrintingRuns : Type 0 where
  -- with as much fuel as it takes, the run comes to its end
  pub with_enough_fuel : RepliesWith console printing (RunDefinition m main 4)
      (codes "run m.main" ∷ codes "  authority {out}" ∷ codes "  out print 5" ∷ codes "  done unit after 4 steps" ∷ [])
      false
  -- with less it does not, and nothing is printed
  pub with_less_fuel : RepliesWith console printing (RunDefinition m main 3)
      (codes "run m.main" ∷ codes "  authority {out}" ∷ codes "  out of fuel after 3 steps" ∷ []) true

-- Why a definition is not run: the module is not present, or has no definition of the name, or that one does not take a
-- unit.
pub record RefusedRuns : Type 0 where
  pub no_module : RepliesWith console printing (RunDefinition n main 5) (codes "run n.main refused E32" ∷ []) true
  pub no_definition : RepliesWith console printing (RunDefinition m (codes "none") 5)
      (codes "run m.none refused E33" ∷ []) true
  pub of_a_number : RepliesWith console printing (RunDefinition m (codes "f") 5)
      (codes "run m.f refused E35" ∷ []) true

-- an exit from the outer one of two boundaries, so that the inner one is left by no event of its own
abbrev pub nested_boundaries : Texts
nested_boundaries =
    one_module
    (codes "def main = fun (u: Unit) =>"
    ∷ codes "  val r = boundary [Int] a => val s = boundary [Int] b => exit [Int] (a, 4); s + 100;"
    ∷ codes "  out.print(r)" ∷ [])

abbrev pub NestedBoundariesRun : Type 0
NestedBoundariesRun =
    RepliesWith console nested_boundaries (RunDefinition m main 9)
    (codes "run m.main" ∷ codes "  authority {out}" ∷ codes "  enter 0" ∷ codes "  enter 1" ∷ codes "  exit 0"
    ∷ codes "  out print 4" ∷ codes "  done unit after 9 steps" ∷ []) false

-- the identity, used on a box with a function that prints, and that box opened
abbrev pub type_functions : Texts
type_functions =
    one_module
    (codes "def id = fun [X <: Any] => fun (x: X) => x"
    ∷ codes "def f: ((x: Int) -> Int)^{out} = fun (x: Int) => val w = out.print(x); x"
    ∷ codes "def main = fun (u: Unit) => val g = id[Box[((x: Int) -> Int)^{out}]]; (unbox {out} (g(box f)))(3)" ∷ [])

abbrev pub TypeFunctionsRun : Type 0
TypeFunctionsRun =
    RepliesWith console type_functions (RunDefinition m main 100)
    (codes "run m.main" ∷ codes "  authority {out}" ∷ codes "  out print 3" ∷ codes "  done 3 after 16 steps" ∷ []) false

-- lines on the console, a count, and a module that imports from both
abbrev pub logger_text : List ℕ
logger_text =
    flat_map line
    (codes "def line: ((x: Int) -> Unit)^{out} = fun (x: Int) => out.print(x)"
    ∷ codes "def title: ((s: Str) -> Unit)^{out} = fun (s: Str) => out.say(s)" ∷ [])

abbrev pub counter_text : List ℕ
counter_text = line (codes "def next: ((u: Unit) -> Int)^{hits} = fun (u: Unit) => hits.tick()")

abbrev pub app_text : List ℕ
app_text =
    flat_map line
    (codes "import logger.line"
    ∷ codes "import logger.title"
    ∷ codes "import counter.next"
    ∷ codes "def main = fun (u: Unit) =>"
    ∷ codes "  val a = title(\"start\");"
    ∷ codes "  val each = fun (i: Int) => val n = next(unit); line(n * 10 + i);"
    ∷ codes "  repeat(2, each)" ∷ [])

abbrev pub three_modules : Texts
three_modules = (codes "app", app_text) ∷ (codes "counter", counter_text) ∷ (codes "logger", logger_text) ∷ []

-- a run on two devices, of a module with all that it imports
abbrev pub ThreeModulesRun : Type 0
ThreeModulesRun =
    RepliesWith console_and_counter three_modules (RunDefinition (codes "app") main 1000)
    (codes "run app.main" ∷ codes "  authority {out, hits}" ∷ codes "  out say start" ∷ codes "  hits tick 1"
    ∷ codes "  out print 10" ∷ codes "  hits tick 2" ∷ codes "  out print 21" ∷ codes "  done unit after 41 steps" ∷ [])
    false

-- An imported name is no definition of the module that imports it.
abbrev pub ImportedNamesDoNotRun : Type 0
ImportedNamesDoNotRun =
    RepliesWith console_and_counter three_modules (RunDefinition (codes "app") (codes "title") 1000)
    (codes "run app.title refused E33" ∷ []) true

-- a text that is no module
abbrev pub refused_module : Texts
refused_module = one_module (codes "def main = 1 2" ∷ [])

-- A module that is refused has no definition that is run, and that is told before all else about the definition.
pub record RefusedModulesDoNotRun : Type 0 where
  pub with_the_name : RepliesWith console refused_module (RunDefinition m main 5)
      (codes "run m.main refused E34" ∷ []) true
  pub without_the_name : RepliesWith console refused_module (RunDefinition m (codes "none") 5)
      (codes "run m.none refused E34" ∷ []) true

-- two modules with a definition of one name
abbrev pub same_names : Texts
same_names =
    (m, line (codes "def main = fun (u: Unit) => out.print(1)"))
    ∷ (n, line (codes "def main = fun (u: Unit) => out.print(2)")) ∷ []

-- the one of the module that is named runs
pub record SameNamesRun : Type 0 where
  pub of_the_first : RepliesWith console same_names (RunDefinition m main 9)
      (codes "run m.main" ∷ codes "  authority {out}" ∷ codes "  out print 1" ∷ codes "  done unit after 3 steps" ∷ [])
      false
  pub of_the_second : RepliesWith console same_names (RunDefinition n main 9)
      (codes "run n.main" ∷ codes "  authority {out}" ∷ codes "  out print 2" ∷ codes "  done unit after 3 steps" ∷ [])
      false

-- a file that is read past its end and written, and a counter
abbrev pub file_and_counter : Texts
file_and_counter =
    one_module
    (codes "def main = fun (u: Unit) =>"
    ∷ codes "  val a = data.read(); val b = data.read(); val c = data.read();"
    ∷ codes "  val w = data.write(a); val d = data.read(); hits.tick()" ∷ [])

-- A run begins with the devices as they are declared, and what they answer is told.
abbrev pub FileAndCounterRun : Type 0
FileAndCounterRun =
    RepliesWith three_devices file_and_counter (RunDefinition m main 100)
    (codes "run m.main" ∷ codes "  authority {hits, data}" ∷ codes "  data read 3" ∷ codes "  data read 5"
    ∷ codes "  data read 0" ∷ codes "  data write 3" ∷ codes "  data read 3" ∷ codes "  hits tick 1"
    ∷ codes "  done 1 after 17 steps" ∷ []) false

-- what runs end with
abbrev pub values : Texts
values =
    one_module
    (codes "def number = fun (u: Unit) => 0 - 7"
    ∷ codes "def less = fun (u: Unit) => 1 < 2"
    ∷ codes "def word = fun (u: Unit) => \"a b\""
    ∷ codes "def function = fun (u: Unit) => fun (x: Int) => x"
    ∷ codes "def general = fun (u: Unit) => fun [X <: Any] => fun (x: X) => x"
    ∷ codes "def boxed = fun (u: Unit) => box out"
    ∷ codes "def device = fun (u: Unit) => out"
    ∷ codes "def ended = fun (u: Unit) => val r = boundary [Int] a => 4; r" ∷ [])

-- the run of this definition has these lines behind its head
abbrev pub ValueRuns : List ℕ → List (List ℕ) → Type 0
ValueRuns name lines =
    RepliesWith console values (RunDefinition m name 9) ((codes "run m." ++ name) ∷ lines) false

-- a literal is shown as it is written in texts, a device by its name, and of others only what they are
pub record ValuesAreShown : Type 0 where
  pub number : ValueRuns (codes "number") (codes "  authority {}" ∷ codes "  done -7 after 4 steps" ∷ [])
  pub truth : ValueRuns (codes "less") (codes "  authority {}" ∷ codes "  done true after 4 steps" ∷ [])
  pub text : ValueRuns (codes "word") (codes "  authority {}" ∷ codes "  done \"a b\" after 1 steps" ∷ [])
  pub function : ValueRuns (codes "function") (codes "  authority {}" ∷ codes "  done <function> after 1 steps" ∷ [])
  pub type_function : ValueRuns (codes "general")
      (codes "  authority {}" ∷ codes "  done <type function> after 1 steps" ∷ [])
  -- what is in a box is not captured
  pub boxed_device : ValueRuns (codes "boxed") (codes "  authority {}" ∷ codes "  done <box> after 1 steps" ∷ [])
  pub device : ValueRuns (codes "device")
      (codes "  authority {out}" ∷ codes "  done <device out> after 1 steps" ∷ [])
  -- a boundary that ends by an answer of its body
  pub ended_boundary : ValueRuns (codes "ended")
      (codes "  authority {}" ∷ codes "  enter 0" ∷ codes "  leave 0" ∷ codes "  done 4 after 5 steps" ∷ [])

-- a function whose written set is the universal capability
abbrev pub any_device : Texts
any_device = one_module (codes "def main: ((u: Unit) -> Unit)^{cap} = fun (u: Unit) => u" ∷ [])

-- It may operate each device.
abbrev pub CapGivesEachDevice : Type 0
CapGivesEachDevice =
    RepliesWith console_and_counter any_device (RunDefinition m main 5)
    (codes "run m.main" ∷ codes "  authority {out, hits}" ∷ codes "  done unit after 1 steps" ∷ []) false
