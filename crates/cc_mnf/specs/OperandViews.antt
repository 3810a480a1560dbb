-- The terms with places and the operands that values of the program stand for.
use Rattle.cc_base.specs.declared.place.Place.{Place}
use Rattle.cc_core.specs.declared.terms.Node.{Node}
use Rattle.cc_core.specs.Places.{places_of}
use Rattle.cc_core.specs.TermViews.{term_of}
use Rattle.cc_mnf.specs.declared.operands.NameAt.{NameAt as DeclaredNameAt}
use Rattle.cc_mnf.specs.declared.operands.Operand.{Operand as DeclaredOperand}
use Rattle.cc_mnf.specs.declared.operands.Operand.TheVariants as operands
use Rattle.cc_mnf.specs.Operands.{PlacedTerm, placed, NameAt, Operand, IsVariable, IsNamed}

-- the term of a node, with its places
abbrev pub placed_of : Node → PlacedTerm
placed_of node = placed (term_of node) (places_of node)

-- the name at its place
abbrev pub name_seen : DeclaredNameAt → NameAt
name_seen it = record { at = it.at; name = it.name.now }

-- the operand
abbrev pub operand_seen : DeclaredOperand → Operand
operand_seen (operands.Variable variable) = IsVariable variable
operand_seen (operands.Named term at) = IsNamed (placed_of term.value) at
