-- What the parser answers.
use Rattle.std.specs.Prelude.{◌≡◌, ⊤, Option, Some, None, Result, Ok, Err}
use Rattle.cc_base.specs.declared.code.Code.TheVariants.{E03, E04}
use Rattle.cc_base.specs.declared.code.Diag.{Diag}
use Rattle.cc_grammar.specs.Reads.{ModuleReading, TreeOf, SyntaxError, TooHigh}
use Rattle.cc_parse.specs.declared.tree.Module.{Module}
use Rattle.cc_parse.specs.declared.error.ParseError.{ParseError}
use Rattle.cc_parse.specs.declared.error.ParseError.TheVariants.{Refused, NoMemory}
use Rattle.cc_parse.specs.Trees.{module_syntax}

-- the refusal of tokens that read so, if they are refused
abbrev pub refusal_of : ModuleReading → Option Diag
refusal_of (TreeOf it) = None
refusal_of (SyntaxError at) = Some (record { code = E03; place = at })
refusal_of (TooHigh at) = Some (record { code = E04; place = at })

-- The answer for tokens that read so is their tree or their refusal. Of an answer for want of memory nothing is said.
abbrev pub Tells : Result Module ParseError → ModuleReading → Type 0
Tells (Ok it) reading = reading ≡ TreeOf (module_syntax it)
Tells (Err (Refused diag)) reading = refusal_of reading ≡ Some diag
Tells (Err NoMemory) reading = ⊤
