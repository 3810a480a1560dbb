-- Live runs: runs on the devices of a host. Each operation is told to the host, whose next line is the answer.
use Rattle.std.specs.Prelude.{ℕ, zero, suc, Bool, true, false, List, [], ◌∷◌, ◌++◌, codes, Option, Some, None, if◌then◌else◌}
use Rattle.std.specs.Fmt.{decimal}
use Rattle.std.specs.Option.{option_map}
use Rattle.std.specs.Str.{bytes_eq}
use Rattle.cc_base.specs.Literals.{Literal, UnitLiteral, NumberLiteral}
use Rattle.cc_base.specs.declared.literal.Op.{Op}
use Rattle.cc_base.specs.declared.literal.Op.TheVariants as operations
use Rattle.cc_device.specs.Endings.{Done, OutOfFuel}
use Rattle.cc_device.specs.Events.{Event, Operated, Entered, Ended, Exited}
use Rattle.cc_runs.specs.Machine.{Configuration, StepOutcome, Next, Ask, step}
use Rattle.cc_runs.specs.Runs.{Ending, Ends, IsStopped}
use Rattle.cc_replay.specs.Replays.{ending_in}
use Rattle.cc_replay.specs.RunTexts.{device_text, operated_text, operand_text, event_text, end_text}
use Rattle.cc_words.specs.Lines.{Line}
use Rattle.cc_words.specs.Words.{signed_of}

-- a line that is told: two spaces, its text, and a line feed
abbrev pub told_line : List ℕ → List ℕ
told_line text = codes "  " ++ (text ++ 10 ∷ [])

-- the word of an operation, behind a space
abbrev pub word_text : Op → List ℕ
word_text operations.Print = codes " print"
word_text operations.Say = codes " say"
word_text operations.Read = codes " read"
word_text operations.Write = codes " write"
word_text operations.Tick = codes " tick"

-- What is told of an operation before it is answered: the device, the operation, and its argument if it has one. A text
-- stands without its quotes.
abbrev pub asked_text : List (List ℕ) → ℕ → Op → Option Literal → List ℕ
asked_text names device operation (Some argument) = operated_text names device operation ++ operand_text argument
asked_text names device operation None = device_text names device ++ word_text operation

-- the literal of an operation's event where it is the argument, and not the answer
abbrev pub argument_of : Op → Literal → Option Literal
argument_of operations.Print literal = Some literal
argument_of operations.Say literal = Some literal
argument_of operations.Read literal = None
argument_of operations.Write literal = Some literal
argument_of operations.Tick literal = None

-- what is told of an event: of an operation nothing that was answered
abbrev pub told_text : List (List ℕ) → Event → List ℕ
told_text names (Operated device operation literal) =
    asked_text names device operation (argument_of operation literal)
told_text names (Entered label) = event_text names (Entered label)
told_text names (Ended label) = event_text names (Ended label)
told_text names (Exited label) = event_text names (Exited label)

-- the text that says that the host stopped the run after so many steps
abbrev pub stopped_text : ℕ → List ℕ
stopped_text steps = codes "stopped after " ++ decimal steps ++ codes " steps"

-- unit, if the line says that what was asked is done
abbrev pub unit_of : Line → Option Literal
unit_of line = if bytes_eq line (codes "ok") then Some UnitLiteral else None

-- the number of 64 bits that the line is
abbrev pub number_of : Line → Option Literal
number_of line = option_map (λ number. NumberLiteral number) (signed_of line)

-- the answer to an operation that a line of the host is: `ok` is unit, and to a reading and a tick a number of 64 bits
abbrev pub answer_of : Op → Line → Option Literal
answer_of operations.Print line = unit_of line
answer_of operations.Say line = unit_of line
answer_of operations.Read line = number_of line
answer_of operations.Write line = unit_of line
answer_of operations.Tick line = number_of line

-- How a live run stands when the lines of the host are used up or the run needs no more of them. It is over, by itself or
-- since the host stopped it, where it may have been refused its end; or it waits for an answer; or a line is no answer.
-- Behind it these lines are left.
pub data Standing : Type 0 where
  Over : (refused : Bool) (rest : List Line) → Standing
  Waits : Standing
  Breaks : (rest : List Line) → Standing

-- what is told of a live run, and how it stands
pub record Live : Type 0 where
  pub text : List ℕ
  pub standing : Standing

-- what comes of the lines of the host
abbrev pub Course : Type 0
Course = List Line → Live

-- the same behind a text that was told before
abbrev pub behind_text : List ℕ → Live → Live
behind_text text it = record { text = text ++ it.text; standing = it.standing }

-- the same behind the line of an event, if there is one
abbrev pub behind_event : List (List ℕ) → Option Event → Live → Live
behind_event names None it = it
behind_event names (Some event) it = behind_text (told_line (event_text names event)) it

-- the run did not come to its end
abbrev pub is_cut_short : Ending → Bool
is_cut_short (Ends (Done shown)) = false
is_cut_short (Ends OutOfFuel) = true
is_cut_short IsStopped = true

-- a run that ends so after so many steps: the line of its end is told
abbrev pub ended_live : List (List ℕ) → ℕ → Ending → Course
ended_live names steps ending rest =
    record { text = told_line (end_text names ending steps); standing = Over (is_cut_short ending) rest }

-- a run that the host stopped after so many steps
abbrev pub stopped_live : ℕ → Course
stopped_live steps rest = record { text = told_line (stopped_text steps); standing = Over true rest }

-- an answer is gone on from, and without one the run breaks
abbrev pub answered_live : (Literal → Course) → Option Literal → Course
answered_live resumed (Some answer) rest = resumed answer rest
answered_live resumed None rest = record { text = []; standing = Breaks rest }

-- a line of the host stops the run, where it does so, or else is the answer
abbrev pub said_live : ℕ → Bool → (Literal → Course) → Option Literal → Course
said_live steps true resumed answer rest = stopped_live steps rest
said_live steps false resumed answer rest = answered_live resumed answer rest

-- the next line of the host decides, and without one the run waits
abbrev pub heard_live : ℕ → Op → (Literal → Course) → Course
heard_live steps operation resumed [] = record { text = []; standing = Waits }
heard_live steps operation resumed (line ∷ rest) =
    said_live steps (bytes_eq line (codes "stop")) resumed (answer_of operation line) rest

-- the live run on from a configuration, by what comes of it
abbrev pub live_on : List (List ℕ) → ℕ → (Configuration → Course) → Configuration → StepOutcome → Course
live_on names steps later configuration (Next event next) lines = behind_event names event (later next lines)
live_on names steps later configuration (Ask device operation argument resume) lines =
    behind_text (told_line (asked_text names device operation argument))
    (heard_live steps operation (λ answer. later (resume answer)) lines)
live_on names steps later configuration stopped lines = ended_live names steps (ending_in configuration stopped) lines

-- the live run from a configuration that so many steps led to, with so much fuel
abbrev pub live_from : List (List ℕ) → ℕ → ℕ → Configuration → Course
live_from names steps zero configuration lines =
    ended_live names steps (ending_in configuration (step configuration)) lines
live_from names steps (suc fuel) configuration lines =
    live_on names steps (live_from names (suc steps) fuel) configuration (step configuration) lines

-- The live run from a configuration, with so much fuel, by the lines of the host, where the devices have these names. Each
-- operation is told, and then the next line is its answer: `ok`, or the number for a reading or a tick. The line `stop` in
-- its place stops the run, and any other breaks it. An event that no answer is needed for is told as in a trace, and so is
-- the end.
abbrev pub live : List (List ℕ) → ℕ → Configuration → Course
live names fuel configuration lines = live_from names 0 fuel configuration lines
