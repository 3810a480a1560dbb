-- Literals as plain data.
use Rattle.std.specs.Prelude.{ℕ, ℤ, Bool, List}
use Rattle.std.specs.Rc.{rc_str_bytes}
use Rattle.std.specs.Str.{chars}
use Rattle.cc_base.specs.declared.literal.Lit.{Lit}
use Rattle.cc_base.specs.declared.literal.Lit.TheVariants as literals

-- a literal; a text is the list of its code points
pub data Literal : Type 0 where
  UnitLiteral : Literal
  TruthLiteral : (truth : Bool) → Literal
  NumberLiteral : (number : ℤ) → Literal
  TextLiteral : (text : List ℕ) → Literal

-- the literal that a value of the program stands for
abbrev pub literal_of : Lit → Literal
literal_of literals.Unit = UnitLiteral
literal_of (literals.Bool truth) = TruthLiteral truth
literal_of (literals.Int number) = NumberLiteral number
literal_of (literals.Str text) = TextLiteral (chars (rc_str_bytes text))
