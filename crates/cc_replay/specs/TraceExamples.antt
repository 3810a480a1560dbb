-- Worked replays, beside the console `out`, the counter `hits` and the file `data`.
use Rattle.std.specs.Prelude.{◌≡◌, ℕ, codes, List, [], ◌∷◌, Some, None}
use Rattle.cc_base.specs.Literals.{UnitLiteral, NumberLiteral, TextLiteral}
use Rattle.cc_base.specs.declared.literal.Base.TheVariants as bases
use Rattle.cc_base.specs.declared.literal.Op.TheVariants as operations
use Rattle.cc_base.specs.declared.literal.Operator.TheVariants as operators
use Rattle.cc_capture.specs.Sets.{empty}
use Rattle.cc_capture.specs.declared.var.Var.TheVariants.{Bound, Free}
use Rattle.cc_core.specs.Shapes.{BaseShape}
use Rattle.cc_core.specs.Stores.{DeviceCell}
use Rattle.cc_core.specs.Terms.{Absent, Term, LiteralTerm, Application, Let, Primitive, Operation, Boundary, Leave}
use Rattle.cc_runs.specs.Machine.{configured}
use Rattle.cc_replay.specs.Replays.{replay}
use Rattle.cc_replay.specs.declared.replaying.Replayed.{Replayed}
use Rattle.cc_replay.specs.declared.replaying.Replayed.TheVariants.{Agrees, Differs}
use Rattle.cc_words.specs.Lines.{Line}

-- the names of the devices
abbrev pub names : List (List ℕ)
names = codes "out" ∷ codes "hits" ∷ codes "data" ∷ []

-- the replay of the lines with so much fuel, where the term is run on cells of the devices alone
abbrev pub replayed : ℕ → Term → List Line → Replayed
replayed fuel term lines =
    replay names fuel
    (configured (DeviceCell 2 bases.File ∷ DeviceCell 1 bases.Counter ∷ DeviceCell 0 bases.Console ∷ []) [] 0 term)
    lines

-- hits.tick()
abbrev pub tick : Term
tick = Operation operations.Tick (Free 1) None

-- val x = "a b"; out.say(x)
abbrev pub say : Term
say = Let Absent (LiteralTerm (TextLiteral (codes "a b"))) (Operation operations.Say (Free 0) (Some (Bound 0)))

-- data.read()
abbrev pub read : Term
read = Operation operations.Read (Free 2) None

-- val x = data.read(); val y = data.read(); x - y
abbrev pub subtract : Term
subtract = Let Absent read (Let Absent read (Primitive operators.Sub (Bound 1) (Bound 0)))

-- val x = data.read(); data.write(x)
abbrev pub copy : Term
copy = Let Absent read (Operation operations.Write (Free 2) (Some (Bound 0)))

-- a boundary that is left at once with an answer of the counter
abbrev pub leave : Term
leave =
    Boundary (BaseShape bases.Int)
    (Let Absent tick (Leave (BaseShape bases.Int) empty (Bound 1) (Bound 0)))

-- an application of a console
abbrev pub misapply : Term
misapply = Application (Free 0) (Free 1)

-- The number in a line is the answer, also where no device would give it, and what is shown at the end is by it.
pub record AnswersComeFromLines : Type 0 where
  pub ticks : replayed 100 tick (codes "hits tick 7" ∷ codes "done 7 after 1 steps" ∷ []) ≡ Agrees
  pub below_zero : replayed 100 tick (codes "hits tick -7" ∷ codes "done -7 after 1 steps" ∷ []) ≡ Agrees
  pub greatest :
      replayed 100 tick
      (codes "hits tick 9223372036854775807" ∷ codes "done 9223372036854775807 after 1 steps" ∷ [])
      ≡ Agrees
  pub least :
      replayed 100 tick
      (codes "hits tick -9223372036854775808" ∷ codes "done -9223372036854775808 after 1 steps" ∷ [])
      ≡ Agrees
  pub two :
      replayed 100 subtract (codes "data read 3" ∷ codes "data read 5" ∷ codes "done -2 after 7 steps" ∷ []) ≡ Agrees
  pub taken :
      replayed 100 copy (codes "data read 3" ∷ codes "data write 3" ∷ codes "done unit after 4 steps" ∷ []) ≡ Agrees
  pub said : replayed 100 say (codes "out say a b" ∷ codes "done unit after 2 steps" ∷ []) ≡ Agrees
  pub scopes :
      replayed 100 leave
      (codes "enter 0" ∷ codes "hits tick 7" ∷ codes "exit 0" ∷ codes "done 7 after 5 steps" ∷ [])
      ≡ Agrees

-- The number is a decimal one of 64 bits, without a 0 or a plus before it.
pub record NumbersAreDecimal : Type 0 where
  pub minus_zero : replayed 100 tick (codes "hits tick -0" ∷ codes "done 0 after 1 steps" ∷ []) ≡ Differs 1
  pub leading_zero : replayed 100 tick (codes "hits tick 07" ∷ codes "done 7 after 1 steps" ∷ []) ≡ Differs 1
  pub plus_sign : replayed 100 tick (codes "hits tick +7" ∷ codes "done 7 after 1 steps" ∷ []) ≡ Differs 1
  pub no_number : replayed 100 tick (codes "hits tick " ∷ codes "done 7 after 1 steps" ∷ []) ≡ Differs 1
  pub space_behind : replayed 100 tick (codes "hits tick 7 " ∷ codes "done 7 after 1 steps" ∷ []) ≡ Differs 1
  pub too_great :
      replayed 100 tick
      (codes "hits tick 9223372036854775808" ∷ codes "done 9223372036854775808 after 1 steps" ∷ [])
      ≡ Differs 1
  pub too_small :
      replayed 100 tick
      (codes "hits tick -9223372036854775809" ∷ codes "done -9223372036854775809 after 1 steps" ∷ [])
      ≡ Differs 1

-- Each line is the text of an event, device, operation and argument, in order.
pub record EventsAreCompared : Type 0 where
  pub device : replayed 100 tick (codes "data tick 7" ∷ codes "done 7 after 1 steps" ∷ []) ≡ Differs 1
  pub operation : replayed 100 tick (codes "hits read 7" ∷ codes "done 7 after 1 steps" ∷ []) ≡ Differs 1
  pub argument : replayed 100 say (codes "out say a" ∷ codes "done unit after 2 steps" ∷ []) ≡ Differs 1
  pub later :
      replayed 100 copy (codes "data read 3" ∷ codes "data write 4" ∷ codes "done unit after 4 steps" ∷ [])
      ≡ Differs 2
  pub label :
      replayed 100 leave
      (codes "enter 0" ∷ codes "hits tick 7" ∷ codes "leave 0" ∷ codes "done 7 after 5 steps" ∷ [])
      ≡ Differs 3
  pub missing : replayed 100 tick (codes "done 7 after 1 steps" ∷ []) ≡ Differs 1
  pub twice :
      replayed 100 tick (codes "hits tick 7" ∷ codes "hits tick 7" ∷ codes "done 7 after 1 steps" ∷ []) ≡ Differs 2

-- The end is compared too, no line stands behind it, and where one is needed it is the one behind the last.
pub record EndsAreCompared : Type 0 where
  pub value : replayed 100 tick (codes "hits tick 7" ∷ codes "done 8 after 1 steps" ∷ []) ≡ Differs 2
  pub steps : replayed 100 tick (codes "hits tick 7" ∷ codes "done 7 after 2 steps" ∷ []) ≡ Differs 2
  pub behind : replayed 100 tick (codes "hits tick 7" ∷ codes "done 7 after 1 steps" ∷ [] ∷ []) ≡ Differs 3
  pub no_end : replayed 100 tick (codes "hits tick 7" ∷ []) ≡ Differs 2
  pub no_lines : replayed 100 tick [] ≡ Differs 1
  pub stuck : replayed 100 misapply (codes "stuck after 0 steps" ∷ []) ≡ Agrees

-- The fuel of the replay decides its end.
pub record FuelIsCounted : Type 0 where
  pub none : replayed 0 tick (codes "out of fuel after 0 steps" ∷ []) ≡ Agrees
  pub enough : replayed 1 tick (codes "hits tick 7" ∷ codes "done 7 after 1 steps" ∷ []) ≡ Agrees
  pub before_an_operation : replayed 1 say (codes "out of fuel after 1 steps" ∷ []) ≡ Agrees
  pub too_little : replayed 0 tick (codes "hits tick 7" ∷ codes "done 7 after 1 steps" ∷ []) ≡ Differs 1
  pub too_much : replayed 2 say (codes "out of fuel after 1 steps" ∷ []) ≡ Differs 1
