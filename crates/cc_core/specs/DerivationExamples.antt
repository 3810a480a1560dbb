-- Small worked examples of derivations, in a context with a console at position 0.
use Rattle.std.specs.Prelude.{[], ◌∷◌, refl}
use Rattle.std.proofs.lemmas.Bool.{both_ways}
use Rattle.cc_base.specs.declared.literal.Base.TheVariants as bases
use Rattle.cc_capture.specs.declared.var.Var.TheVariants.{Free}
use Rattle.cc_capture.specs.declared.var.Elem.TheVariants.{Cap}
use Rattle.cc_capture.specs.Elements.{element_order, same_element}
use Rattle.cc_capture.specs.Rising.{placed}
use Rattle.cc_capture.specs.Sets.{Set, contains, empty, insert}
use Rattle.cc_core.specs.Shapes.{Shape, BaseShape, BoxShape, capturing}
use Rattle.cc_core.specs.Terms.{VariableTerm, BoxTerm}
use Rattle.cc_core.specs.Contexts.{TermEntry, Context}
use Rattle.cc_core.specs.Substitution.{single}
use Rattle.cc_core.specs.Captured.{variable_set}
use Rattle.cc_core.specs.Typing.{HasNoCap}
use Rattle.cc_core.specs.Derivations.{ByElement, ByVariable, BySet, t-var, t-box, Claim, SetBelow, OfType, Derivation}
use Rattle.cc_core.specs.Derivations.{Node, NoPremise, one, IsValidComparison, IsValidTyping}

-- the shape of consoles, and a context with one
abbrev console : Shape
console = BaseShape bases.Console

abbrev with_console : Context
with_console = TermEntry console (single Cap) ∷ []

-- the set of the console alone
abbrev console_set : Set
console_set = variable_set (Free 0)

-- p0 : Console^{p0}
abbrev of_variable : Derivation
of_variable = Node t-var NoPremise (OfType (capturing console console_set))

variable_is_valid : IsValidTyping with_console (VariableTerm (Free 0)) of_variable
variable_is_valid = (0, console, single Cap, refl, refl, refl)

console_is_no_cap : HasNoCap console_set
unfolding contains same_element element_order insert placed empty
console_is_no_cap here = both_ways _ refl here

-- box p0 : Box[Console^{p0}]
abbrev of_box : Derivation
of_box = Node t-box (one of_variable) (OfType (capturing (BoxShape console console_set) empty))

box_is_valid : IsValidTyping with_console (BoxTerm (Free 0)) of_box
box_is_valid = (Free 0, console, console_set, refl, variable_is_valid, refl, console_is_no_cap, refl)

-- {p0} <: {cap}, since the console's declared set is {cap}
abbrev of_subset : Derivation
of_subset =
    Node ByVariable
    (one (Node BySet (one (Node ByElement NoPremise (SetBelow (single Cap) (single Cap))))
    (SetBelow (single Cap) (single Cap)))) (SetBelow console_set (single Cap))

subset_is_valid : IsValidComparison with_console of_subset
unfolding contains same_element element_order insert placed empty
subset_is_valid = (
  0,
  console,
  single Cap,
  single Cap,
  refl,
  (single Cap, single Cap, ((Cap, single Cap, refl, refl), refl, tt), refl),
  refl,
  refl,
)

-- a box has a premise, and its typing is not that of its content
box_needs_its_premise : (claim : Claim) → IsValidTyping with_console (BoxTerm (Free 0)) (Node t-box NoPremise claim) → ⊥
box_needs_its_premise claim h = h

box_is_no_variable : IsValidTyping with_console (BoxTerm (Free 0)) of_variable → ⊥
box_is_no_variable h = cc
