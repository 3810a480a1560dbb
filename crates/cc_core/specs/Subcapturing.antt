-- Subcapturing, as CC<:□ has it: in a context, which elements and which sets are below a set.
use Rattle.std.specs.Prelude.{◌≡◌, ℕ, Some}
use Rattle.cc_capture.specs.declared.var.Var.TheVariants.{Free}
use Rattle.cc_capture.specs.declared.var.Elem.{Elem}
use Rattle.cc_capture.specs.declared.var.Elem.TheVariants.{Var as Variable}
use Rattle.cc_capture.specs.Sets.{Set, Member}
use Rattle.cc_core.specs.Shapes.{Shape}
use Rattle.cc_core.specs.Contexts.{TermEntry, Context, lookup}

-- An element is below a set that has it. A variable is below a set where each member of its declared set is. A hole is
-- below a set only where it is a member.
pub data Subcaptures (context : Context) : Elem → Set → Type 0 where
  element : {e : Elem} {set : Set} → Member e set → Subcaptures context e set
  variable : {position : ℕ} {shape : Shape} {declared set : Set}
      → lookup context position ≡ Some (TermEntry shape declared)
      → ((e : Elem) → Member e declared → Subcaptures context e set)
      → Subcaptures context (Variable (Free position)) set

-- a set is below another where each of its members is
abbrev pub SubcapturesSet : Context → Set → Set → Type 0
SubcapturesSet context left right = (e : Elem) → Member e left → Subcaptures context e right
