-- Which of 64 positions from a first one on a term names, and a module, as the bits of a word. It serves the code alone.
use Rattle.std.specs.Prelude.{◌≡◌, ◌≤◌, ℕ, ◌-◌, ◌*◌, ◌%◌, ◌^◌, bit_or, fold, nat_lt, Option, Some, None, if◌then◌else◌}
use Rattle.cc_capture.specs.declared.var.Var.{Var}
use Rattle.cc_capture.specs.declared.var.Var.TheVariants.{Bound, Free}
use Rattle.cc_capture.specs.declared.var.Elem.{Elem}
use Rattle.cc_capture.specs.declared.var.Elem.TheVariants.{Var as Variable, Cap, Hole}
use Rattle.cc_capture.specs.Sets.{Set}
use Rattle.cc_core.specs.Terms.{Term, VariableTerm, LiteralTerm, FunctionTerm, TypeFunctionTerm, BoxTerm, Application}
use Rattle.cc_core.specs.Terms.{TypeApplication, Unboxing, Let, Primitive, Conditional, Repetition, Operation, Boundary}
use Rattle.cc_core.specs.Terms.{Leave}
use Rattle.cc_entry_laws.specs.PresentEntries.{CheckedModule}
use Rattle.cc_verdicts.specs.ModuleVerdicts.{in_program}

-- the bit of a place, where it is below 64
abbrev pub place_bit : ℕ → ℕ
place_bit place = if nat_lt place 64 then 1 * 2 ^ place % 2 ^ 64 else 0

-- the bit of a position, where it is one of 64 from the first one on
abbrev pub position_bit : ℕ → ℕ → ℕ
position_bit first position = if nat_lt position first then 0 else place_bit (position - first)

-- that of a variable
abbrev pub variable_bit : ℕ → Var → ℕ
variable_bit first (Free position) = position_bit first position
variable_bit first (Bound index) = 0

-- that of an argument, where there is one
abbrev pub argument_bit : ℕ → Option Var → ℕ
argument_bit first (Some variable) = variable_bit first variable
argument_bit first None = 0

-- that of an element
abbrev pub element_bit : ℕ → Elem → ℕ
element_bit first (Variable variable) = variable_bit first variable
element_bit first Cap = 0
element_bit first (Hole number) = 0

-- the bits of a set
abbrev pub set_bits : ℕ → Set → ℕ
set_bits first set = fold (λ bits e. bit_or bits (element_bit first e)) 0 set.list

-- those of a set that may be omitted
abbrev pub optional_set_bits : ℕ → Option Set → ℕ
optional_set_bits first (Some set) = set_bits first set
optional_set_bits first None = 0

-- those of the positions that the term names
abbrev pub named_bits : ℕ → Term → ℕ
named_bits first (VariableTerm variable) = variable_bit first variable
named_bits first (LiteralTerm literal) = 0
named_bits first (FunctionTerm takes c body) = named_bits first body
named_bits first (TypeFunctionTerm bound body) = named_bits first body
named_bits first (BoxTerm content) = variable_bit first content
named_bits first (Application function argument) = bit_or (variable_bit first function) (variable_bit first argument)
named_bits first (TypeApplication function argument) = variable_bit first function
named_bits first (Unboxing set box) = bit_or (optional_set_bits first set) (variable_bit first box)
named_bits first (Let note right body) = bit_or (named_bits first right) (named_bits first body)
named_bits first (Primitive operator left right) = bit_or (variable_bit first left) (variable_bit first right)
named_bits first (Conditional note test positive negative) =
    bit_or (variable_bit first test) (bit_or (named_bits first positive) (named_bits first negative))
named_bits first (Repetition count function) = bit_or (variable_bit first count) (variable_bit first function)
named_bits first (Operation operation receiver argument) =
    bit_or (variable_bit first receiver) (argument_bit first argument)
named_bits first (Boundary gives body) = named_bits first body
named_bits first (Leave gives c exit value) = bit_or (variable_bit first exit) (variable_bit first value)

-- those of the positions that the module names
abbrev pub module_bits : ℕ → CheckedModule → ℕ
module_bits first current =
    fold (λ bits definition. bit_or bits (named_bits first (in_program definition).value)) 0 current.definitions

-- the word has the bits of the module from the first position on, and none where no position of 32 bits is so great
pub record HasModuleBits (first : ℕ) (current : CheckedModule) (word : ℕ) : Type 0 where
  pub bits : word ≡ module_bits first current
  pub within : 4294967296 ≤ first → word ≡ 0
