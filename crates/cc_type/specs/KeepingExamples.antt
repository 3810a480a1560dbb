-- Worked examples of what is kept: two globals, a console and a number; and a local variable whose set is a hole.
use Rattle.std.specs.Prelude.{◌≡◌, true, false, [], ◌∷◌, Some, None}
use Rattle.cc_base.specs.declared.literal.Base.TheVariants as bases
use Rattle.cc_capture.specs.declared.var.Var.TheVariants.{Free}
use Rattle.cc_capture.specs.declared.var.Elem.{Elem}
use Rattle.cc_capture.specs.declared.var.Elem.TheVariants.{Var as Variable, Cap, Hole}
use Rattle.cc_capture.specs.Sets.{Set, empty, insert}
use Rattle.cc_core.specs.Shapes.{BaseShape, FunctionShape, capturing}
use Rattle.cc_core.specs.Contexts.{TermEntry, Context}
use Rattle.cc_core.specs.Substitution.{single}
use Rattle.cc_checking.specs.Comparison.{demanded}
use Rattle.cc_checking.specs.Outcomes.{IsBelow, IsCapless, Placed}
use Rattle.cc_checking.specs.Fillings.{IsForced}
use Rattle.cc_known.specs.Keeping.{is_demand_settled, is_settled, is_lost, kept}
use Rattle.cc_known.specs.Signatures.{greatest_position}
use Rattle.cc_checking.specs.Inference.{demand_at}
use Rattle.cc_base.specs.declared.place.Place.{Place}

-- a console, a number of the empty set, and a local variable whose set is the first hole
abbrev pub with_local : Context
with_local =
    TermEntry (BaseShape bases.Int) (single (Hole 0)) ∷ TermEntry (BaseShape bases.Int) empty
    ∷ TermEntry (BaseShape bases.Console) (single Cap) ∷ []

-- the variables at the positions
abbrev pub console : Elem
console = Variable (Free 0)

abbrev pub number : Elem
number = Variable (Free 1)

abbrev pub local : Elem
local = Variable (Free 2)

-- the number is below the empty set, since its declared set has no member
abbrev pub NumbersAreBelowNothing : Type 0
NumbersAreBelowNothing = is_demand_settled (demanded with_local (single number) empty) ≡ true

-- the console is not, and its demand is kept
abbrev pub ConsolesAreKept : Type 0
ConsolesAreKept = is_demand_settled (demanded with_local (single console) empty) ≡ false

-- The number is below each hole as it stands, and yet it is kept: it is forced into that hole, by this demand alone.
abbrev pub NumbersAreForced : Type 0
NumbersAreForced =
    (at : Place)
    → (is_demand_settled (demanded with_local (single number) (single (Hole 0))) ≡ false)
    × IsForced 2 (demand_at at (demanded with_local (single number) (single (Hole 0))) ∷ []) 0 number

-- a hole below itself is settled
abbrev pub HolesAreBelowThemselves : Type 0
HolesAreBelowThemselves = is_demand_settled (demanded with_local (single (Hole 0)) (single (Hole 0))) ≡ true

-- a set of variables alone has no universal capability under any filling, and with a hole it may have
abbrev pub HolesMayHaveCap : Type 0
HolesMayHaveCap =
    (is_settled (IsCapless (single console)) ≡ true) × (is_settled (IsCapless (single (Hole 0))) ≡ false)
    × (is_settled (IsCapless (single Cap)) ≡ false)

-- The console is below nothing under no filling; the local variable is where the hole is filled with nothing, and is not
-- lost. What may force something never is.
abbrev pub ConsolesAreLost : Type 0
ConsolesAreLost =
    (is_lost (IsBelow (demanded with_local (single console) empty)) ≡ true)
    × (is_lost (IsBelow (demanded with_local (single local) empty)) ≡ false)
    × (is_lost (IsBelow (demanded with_local (single console) (single (Hole 0)))) ≡ false)
    × (is_lost (IsCapless (single Cap)) ≡ true) × (is_lost (IsCapless (single (Hole 0))) ≡ false)

-- at the place, that the variable is below nothing
abbrev pub below_nothing : Place → Elem → Placed
below_nothing at e = demand_at at (demanded with_local (single e) empty)

-- and that it is below the first hole
abbrev pub below_hole : Place → Elem → Placed
below_hole at e = demand_at at (demanded with_local (single e) (single (Hole 0)))

-- Behind the console, which is lost, the number is kept, which is forced into the hole. Neither the local variable is,
-- which may fail, nor the console again.
abbrev pub OneLostAndWhatForcesAreKept : Type 0
OneLostAndWhatForcesAreKept =
    (at : Place)
    → kept (below_nothing at console ∷ below_nothing at local ∷ below_hole at number ∷ below_nothing at console ∷ [])
    ≡ below_nothing at console ∷ below_hole at number ∷ []

-- what may fail is kept before what is lost
abbrev pub WhatMayFailIsKept : Type 0
WhatMayFailIsKept =
    (at : Place)
    → kept (below_nothing at local ∷ below_nothing at console ∷ below_nothing at local ∷ [])
    ≡ below_nothing at local ∷ below_nothing at console ∷ []

-- the same context, but that the local variable's set is the second hole
abbrev pub with_other : Context
with_other =
    TermEntry (BaseShape bases.Int) (single (Hole 1)) ∷ TermEntry (BaseShape bases.Int) empty
    ∷ TermEntry (BaseShape bases.Console) (single Cap) ∷ []

-- that the local variable is below nothing, in a context
abbrev pub local_below_nothing : Place → Context → Placed
local_below_nothing at context = demand_at at (demanded context (single local) empty)

-- Behind one such demand the same is not kept, under a binder more and at another place; with another declared set it
-- is.
abbrev pub RepeatedIsKeptOnce : Type 0
RepeatedIsKeptOnce =
    (at other : Place)
    → (kept
    (local_below_nothing at with_local
    ∷ local_below_nothing other (TermEntry (BaseShape bases.Int) empty ∷ with_local) ∷ [])
    ≡ local_below_nothing at with_local ∷ [])
    × (kept (local_below_nothing at with_local ∷ local_below_nothing other with_other ∷ [])
    ≡ local_below_nothing at with_local ∷ local_below_nothing other with_other ∷ [])

-- a local variable on top, whose declared set is the first one
abbrev pub with_two_locals : Context
with_two_locals = TermEntry (BaseShape bases.Int) (single local) ∷ with_local

-- the variable on top
abbrev pub second_local : Elem
second_local = Variable (Free 3)

-- that a set is below another one, in the context with both
abbrev pub below_with_two : Place → Set → Set → Placed
below_with_two at left right = demand_at at (demanded with_two_locals left right)

-- A variable ends where its declared set does, so behind the first one it is not kept, and neither is it beside a number,
-- which ends nowhere. Below another set it is, and beside another hole.
abbrev pub OneOfAlikeEndsIsKept : Type 0
OneOfAlikeEndsIsKept =
    (at other : Place)
    → (kept
    (local_below_nothing at with_local ∷ below_with_two other (single second_local) empty
    ∷ below_with_two other (insert number (single second_local)) empty ∷ [])
    ≡ local_below_nothing at with_local ∷ [])
    × (kept
    (local_below_nothing at with_local ∷ below_with_two other (single second_local) (single console) ∷ [])
    ≡ local_below_nothing at with_local ∷ below_with_two other (single second_local) (single console) ∷ [])
    × (kept
    (local_below_nothing at with_local ∷ below_with_two other (insert (Hole 1) (single second_local)) empty ∷ [])
    ≡ local_below_nothing at with_local ∷ below_with_two other (insert (Hole 1) (single second_local)) empty ∷ [])

-- a third local variable, whose declared set has no member
abbrev pub with_three_locals : Context
with_three_locals = TermEntry (BaseShape bases.Int) empty ∷ with_two_locals

-- that the first local variable is below a set, in the context with all three
abbrev pub local_below : Place → Set → Placed
local_below at right = demand_at at (demanded with_three_locals (single local) right)

-- No filling puts a local variable into a hole, so behind the demand that the first one is below nothing it is not kept
-- that it is below the other two; that it is below the number is, which a filling may put there.
abbrev pub LocalsAboveAreNotSeen : Type 0
LocalsAboveAreNotSeen =
    (at other : Place)
    → (kept
    (local_below_nothing at with_local ∷ local_below other (insert (Variable (Free 4)) (single second_local)) ∷ [])
    ≡ local_below_nothing at with_local ∷ [])
    × (kept (local_below_nothing at with_local ∷ local_below other (single number) ∷ [])
    ≡ local_below_nothing at with_local ∷ local_below other (single number) ∷ [])

-- the greatest position from the first definition on, and none where only devices are free
abbrev pub GreatestIsFound : Type 0
GreatestIsFound =
    (greatest_position 1 (capturing (FunctionShape (BaseShape bases.Int) (single local) (BaseShape bases.Int) empty)
    (insert number (single console))) ≡ Some 2)
    × (greatest_position 1 (capturing (BaseShape bases.Int) (single console)) ≡ None)
