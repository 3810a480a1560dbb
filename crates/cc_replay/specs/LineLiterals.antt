-- Literals that can stand in the lines of a trace: numbers of 64 bits, and texts without a line feed.
use Rattle.std.specs.Prelude.{◌≤◌, ℕ, pos, IsTrue, List, encode_utf8_all}
use Rattle.std.specs.List.{AllByRecursion}
use Rattle.cc_base.specs.Literals.{Literal, UnitLiteral, TruthLiteral, NumberLiteral, TextLiteral}
use Rattle.cc_certificate_writing.specs.CertificateTextLaws.{IsOneLine}
use Rattle.cc_core.specs.Stores.{Cell, ValueCell, DeviceCell, LabelCell}
use Rattle.cc_core.specs.Terms.{Term, VariableTerm, LiteralTerm, FunctionTerm, TypeFunctionTerm, BoxTerm, Application}
use Rattle.cc_core.specs.Terms.{TypeApplication, Unboxing, Let, Primitive, Conditional, Repetition, Operation, Boundary}
use Rattle.cc_core.specs.Terms.{Leave}
use Rattle.cc_device.specs.Devices.{DeviceState, Console, File, Counter}
use Rattle.cc_runs.specs.Machine.{Frame, LetFrame, ScopeFrame, RepetitionFrame, Configuration}
use Rattle.cc_runs.specs.Runs.{State}
use Rattle.cc_words.specs.Words.{has_64_bits}

-- the literal is a number of 64 bits, a text without a line feed, or neither
abbrev pub StandsInLine : Literal → Type 0
StandsInLine UnitLiteral = Unit {0}
StandsInLine (TruthLiteral truth) = Unit {0}
StandsInLine (NumberLiteral number) = IsTrue (has_64_bits number)
StandsInLine (TextLiteral text) = IsOneLine (encode_utf8_all text)

-- so is each literal of a term
abbrev pub HasLineLiterals : Term → Type 0
HasLineLiterals (VariableTerm variable) = Unit {0}
HasLineLiterals (LiteralTerm literal) = StandsInLine literal
HasLineLiterals (FunctionTerm takes c body) = HasLineLiterals body
HasLineLiterals (TypeFunctionTerm bound body) = HasLineLiterals body
HasLineLiterals (BoxTerm content) = Unit {0}
HasLineLiterals (Application function argument) = Unit {0}
HasLineLiterals (TypeApplication function argument) = Unit {0}
HasLineLiterals (Unboxing set box) = Unit {0}
HasLineLiterals (Let note right body) = HasLineLiterals right × HasLineLiterals body
HasLineLiterals (Primitive operator left right) = Unit {0}
HasLineLiterals (Conditional note test positive negative) = HasLineLiterals positive × HasLineLiterals negative
HasLineLiterals (Repetition count function) = Unit {0}
HasLineLiterals (Operation operation receiver argument) = Unit {0}
HasLineLiterals (Boundary gives body) = HasLineLiterals body
HasLineLiterals (Leave gives c exit value) = Unit {0}

-- so is each literal of a cell
abbrev pub IsLineCell : Cell → Type 0
IsLineCell (ValueCell value) = HasLineLiterals value
IsLineCell (DeviceCell device base) = Unit {0}
IsLineCell (LabelCell label) = Unit {0}

-- so is each literal of a frame, where a repetition counts up to a number of 64 bits
abbrev pub IsLineFrame : Frame → Type 0
IsLineFrame (LetFrame body) = HasLineLiterals body
IsLineFrame (ScopeFrame label) = Unit {0}
IsLineFrame (RepetitionFrame function begun wanted) = (begun ≤ wanted) × IsTrue (has_64_bits (pos wanted))

-- so is each number of a file
abbrev pub IsLineDevice : DeviceState → Type 0
IsLineDevice (Console lines) = Unit {0}
IsLineDevice (File numbers place) = AllByRecursion (λ number. IsTrue (has_64_bits number)) numbers
IsLineDevice (Counter count) = Unit {0}

-- so is each literal of a configuration
pub record IsLineConfiguration (configuration : Configuration) : Type 0 where
  pub store : AllByRecursion IsLineCell configuration.store
  pub stack : AllByRecursion IsLineFrame configuration.stack
  pub term : HasLineLiterals configuration.term

-- and each of its devices
pub record IsLineState (state : State) : Type 0 where
  pub configuration : IsLineConfiguration state.configuration
  pub devices : AllByRecursion IsLineDevice state.devices
