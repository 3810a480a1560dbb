-- Replays: a run whose devices are answered from the lines of a trace, and which is compared with these lines.
use Rattle.std.specs.Prelude.{ℕ, zero, suc, ℤ, Bool, true, false, List, [], ◌∷◌, Option, Some, None}
use Rattle.std.specs.Option.{option_map, option_and_then}
use Rattle.std.specs.Str.{bytes_eq}
use Rattle.cc_base.specs.Literals.{Literal, UnitLiteral, NumberLiteral}
use Rattle.cc_base.specs.declared.literal.Op.{Op}
use Rattle.cc_base.specs.declared.literal.Op.TheVariants as operations
use Rattle.cc_device.specs.Endings.{OutOfFuel}
use Rattle.cc_device.specs.Events.{Event, Operated, literal_shown}
use Rattle.cc_runs.specs.Answers.{shown}
use Rattle.cc_runs.specs.Machine.{Configuration, StepOutcome, Stuck, Final, Next, Ask, step}
use Rattle.cc_runs.specs.Runs.{Ending, Ends, IsStopped, end_with}
use Rattle.cc_replay.specs.declared.replaying.Replayed.{Replayed}
use Rattle.cc_replay.specs.declared.replaying.Replayed.TheVariants.{Agrees, Differs}
use Rattle.cc_replay.specs.RunTexts.{operated_text, event_text, end_text}
use Rattle.cc_words.specs.Lines.{Line}
use Rattle.cc_words.specs.Words.{after_prefix, signed_of}

-- what comes of comparing the lines that are left with what must stand in them; lines count from 1
abbrev pub Comparison : Type 0
Comparison = List Line → Replayed

-- the same where one line more stands before them
abbrev pub behind_line : Replayed → Replayed
behind_line Agrees = Agrees
behind_line (Differs line) = Differs (suc line)

-- no line must stand there
abbrev pub no_line : Comparison
no_line [] = Agrees
no_line (line ∷ others) = Differs 1

-- where a line is what must stand in it, the others decide
abbrev pub others_decide : Bool → Comparison → Comparison
others_decide true rest others = behind_line (rest others)
others_decide false rest others = Differs 1

-- the text must be the next line
abbrev pub text_next : List ℕ → Comparison → Comparison
text_next text rest [] = Differs 1
text_next text rest (line ∷ others) = others_decide (bytes_eq line text) rest others

-- the text of an event, if there is one
abbrev pub event_next : List (List ℕ) → Option Event → Comparison → Comparison
event_next names None rest lines = rest lines
event_next names (Some event) rest lines = text_next (event_text names event) rest lines

-- the number of 64 bits behind the text of the operation
abbrev pub number_in : List (List ℕ) → ℕ → Op → Line → Option ℤ
number_in names device operation line =
    option_and_then signed_of (after_prefix line (operated_text names device operation))

-- the answer to an operation: of a reading and of a tick it is the number in the line, and of any other it is unit
abbrev pub answer_in : List (List ℕ) → ℕ → Op → Line → Option Literal
answer_in names device operations.Print line = Some UnitLiteral
answer_in names device operations.Say line = Some UnitLiteral
answer_in names device operations.Read line =
    option_map (λ number. NumberLiteral number) (number_in names device operations.Read line)
answer_in names device operations.Write line = Some UnitLiteral
answer_in names device operations.Tick line =
    option_map (λ number. NumberLiteral number) (number_in names device operations.Tick line)

-- the text of the operation with its answer, if there is one, after which the answer is gone on from
abbrev pub answered_next : List (List ℕ) → ℕ → Op → Option Literal → (Literal → Comparison) → Option Literal
    → Comparison
answered_next names device operation argument rest (Some answer) lines =
    text_next (event_text names (Operated device operation (literal_shown argument answer))) (rest answer) lines
answered_next names device operation argument rest None lines = Differs 1

-- an operation is answered from the next line
abbrev pub operation_next : List (List ℕ) → ℕ → Op → Option Literal → (Literal → Comparison) → Comparison
operation_next names device operation argument rest [] = Differs 1
operation_next names device operation argument rest (line ∷ others) =
    answered_next names device operation argument rest (answer_in names device operation line) (line ∷ others)

-- the end of a run that takes no further step, by what would come of its last configuration
abbrev pub ending_in : Configuration → StepOutcome → Ending
ending_in configuration Stuck = IsStopped
ending_in configuration Final = end_with (shown configuration)
ending_in configuration (Next event next) = Ends OutOfFuel
ending_in configuration (Ask device operation argument resume) = Ends OutOfFuel

-- the end after so many steps must be the last line
abbrev pub end_next : List (List ℕ) → ℕ → Configuration → StepOutcome → Comparison
end_next names steps configuration outcome lines =
    text_next (end_text names (ending_in configuration outcome) steps) no_line lines

-- what comes of the replay on from a configuration, by what comes of the configuration
abbrev pub replay_on : List (List ℕ) → ℕ → (Configuration → Comparison) → Configuration → StepOutcome → Comparison
replay_on names steps rest configuration (Next event next) lines = event_next names event (rest next) lines
replay_on names steps rest configuration (Ask device operation argument resume) lines =
    operation_next names device operation argument (λ answer. rest (resume answer)) lines
replay_on names steps rest configuration stopped lines = end_next names steps configuration stopped lines

-- the replay from a configuration that so many steps led to, with so much fuel
abbrev pub replay_from : List (List ℕ) → ℕ → ℕ → Configuration → Comparison
replay_from names steps zero configuration lines = end_next names steps configuration (step configuration) lines
replay_from names steps (suc fuel) configuration lines =
    replay_on names steps (replay_from names (suc steps) fuel) configuration (step configuration) lines

-- The replay of a trace from a configuration, with so much fuel, where the devices have these names. It is the run of
-- the configuration with one change: a reading or a tick is answered with the number in the line that is next, and any
-- other operation with unit. The text of each event must be the next line, and that of the end the last one. Where a
-- line is none of these, or is missing, the replay differs at the first such line.
abbrev pub replay : List (List ℕ) → ℕ → Configuration → Comparison
replay names fuel configuration lines = replay_from names 0 fuel configuration lines
