-- The places of terms, which their plain trees leave out: a tree of them beside the plain term. What opens, renames
-- or fills a term leaves its places, so one tree serves the term and all that it becomes.
use Rattle.cc_base.specs.declared.place.Place.{Place}
use Rattle.cc_core.specs.declared.terms.Form.{Form}
use Rattle.cc_core.specs.declared.terms.Form.TheVariants as forms
use Rattle.cc_core.specs.declared.terms.Node.{Node}

-- the places of one term: where it starts, and where its first and its second operand stand
pub record Spots : Type 0 where
  pub at : Place
  pub first : Place
  pub second : Place

-- the places of a term and of its parts: it has no part, one part, or two
pub data Places : Type 0 where
  Alone : (own : Spots) → Places
  Around : (own : Spots) (part : Places) → Places
  Between : (own : Spots) (one : Places) (other : Places) → Places

-- the three places of one term
abbrev pub spots_at : Place → Place → Place → Spots
spots_at at first second = record { at = at; first = first; second = second }

-- the places of a term of the form, whose own places are given
abbrev pub places_around : Spots → Form → Places
places_around own (forms.Var variable) = Alone own
places_around own (forms.Lit literal) = Alone own
places_around own (forms.Fun' takes p body at first second) =
    Around own (places_around (spots_at at first second) body)
places_around own (forms.TFun' bound p body at first second) =
    Around own (places_around (spots_at at first second) body)
places_around own (forms.Boxed content) = Alone own
places_around own (forms.App function argument) = Alone own
places_around own (forms.TApp function argument) = Alone own
places_around own (forms.Unbox set content) = Alone own
places_around own (forms.Let' note p right at first second q body at' first' second') =
    Between own (places_around (spots_at at first second) right) (places_around (spots_at at' first' second') body)
places_around own (forms.Prim operator left right) = Alone own
places_around own (forms.If' note test p positive at first second q negative at' first' second') =
    Between own (places_around (spots_at at first second) positive)
    (places_around (spots_at at' first' second') negative)
places_around own (forms.Repeat count function) = Alone own
places_around own (forms.Operate operation receiver argument) = Alone own
places_around own (forms.Boundary' gives p body at first second) =
    Around own (places_around (spots_at at first second) body)
places_around own (forms.Leave gives exit value) = Alone own

-- the places of a term and of its parts
abbrev pub places_of : Node → Places
places_of node = places_around (spots_at node.at node.first node.second) node.form

-- a term's own places
abbrev pub spots : Places → Spots
spots (Alone own) = own
spots (Around own part) = own
spots (Between own one other) = own

-- the places of its first part; what has no part has its own there
abbrev pub first_part : Places → Places
first_part (Alone own) = Alone own
first_part (Around own part) = part
first_part (Between own one other) = one

-- the places of its second part; what has fewer has its own there
abbrev pub second_part : Places → Places
second_part (Alone own) = Alone own
second_part (Around own part) = Around own part
second_part (Between own one other) = other
