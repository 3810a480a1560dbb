-- What waits where a shape is gone over by a loop: what stands round the part that is gone over. It serves the code
-- alone.
use Rattle.std.specs.Prelude.{◌≡◌, ℕ, ◌+◌, ◌<◌, List, [], ◌∷◌, map, reverse, Option}
use Rattle.std.specs.Option.{option_map}
use Rattle.cc_capture.specs.Sets.{Set}
use Rattle.cc_core.specs.Shapes.{Shape, BaseShape, AnyShape, TypeVariable, FunctionShape, TypeFunctionShape, BoxShape}
use Rattle.cc_core.specs.Shapes.{ExitShape, CapturingType, capturing}
use Rattle.cc_core.specs.TermViews.{shape_of, type_of}
use Rattle.cc_checking.specs.Avoidance.{Sign, opposite}
use Rattle.cc_avoid.specs.AvoidedTogether.{set_avoiding, names_any, shape_avoiding, type_avoiding}
use Rattle.cc_avoid.specs.Avoiding.{sign_of, given_shape, given_type, given_function, given_type_function, given_box}
use Rattle.cc_avoid.specs.declared.walking.AvoidedShape.{AvoidedShape}
use Rattle.cc_avoid.specs.declared.walking.Waiting.{Waiting as DeclaredWaiting}
use Rattle.cc_avoid.specs.declared.walking.Waiting.TheVariants as waits

-- Functions for what they take, and for what they give where it is known what the type that they take became; type
-- functions for what they give, and boxes for their content. Each stands at a place of the sign.
pub data Waiting : Type 0 where
  Takes : (sign : Sign) (takes gives : CapturingType) → Waiting
  Gives : (sign : Sign) (takes gives : CapturingType) (taken : Option CapturingType) → Waiting
  Results : (sign : Sign) (bound : Shape) (gives : CapturingType) → Waiting
  Contents : (sign : Sign) (content : CapturingType) → Waiting

-- what a value of the program stands for
abbrev pub waiting_of : DeclaredWaiting → Waiting
waiting_of (waits.Takes sign takes gives) = Takes (sign_of sign) (type_of takes.now.value) (type_of gives.now.value)
waiting_of (waits.Gives sign takes gives taken) =
    Gives (sign_of sign) (type_of takes.now.value) (type_of gives.now.value)
    (given_type (type_of takes.now.value) taken)
waiting_of (waits.Results sign bound gives) = Results (sign_of sign) (shape_of bound.now.value) (type_of gives.now.value)
waiting_of (waits.Contents sign content) = Contents (sign_of sign) (type_of content.now.value)

-- what waits, the innermost first; the program has it last
abbrev pub in_turn : List DeclaredWaiting → List Waiting
in_turn waiting = reverse (map waiting_of waiting)

-- the shape that waits
abbrev pub own_shape : Waiting → Shape
own_shape (Takes sign takes gives) = FunctionShape takes.shape takes.set gives.shape gives.set
own_shape (Gives sign takes gives taken) = FunctionShape takes.shape takes.set gives.shape gives.set
own_shape (Results sign bound gives) = TypeFunctionShape bound gives.shape gives.set
own_shape (Contents sign content) = BoxShape content.shape content.set

-- the shape inside it that it waits for
abbrev pub inner_shape : Waiting → Shape
inner_shape (Takes sign takes gives) = takes.shape
inner_shape (Gives sign takes gives taken) = gives.shape
inner_shape (Results sign bound gives) = gives.shape
inner_shape (Contents sign content) = content.shape

-- the shape that the innermost one waits for, or else the whole
abbrev pub part_of : Shape → List Waiting → Shape
part_of whole [] = whole
part_of whole (next ∷ waiting) = inner_shape next

-- each stands inside the one behind it, and the last one is the whole
abbrev pub AreNested : Shape → List Waiting → Type 0
AreNested whole [] = Unit {0}
AreNested whole (next ∷ waiting) = (part_of whole waiting ≡ own_shape next) × AreNested whole waiting

-- a type of what its shape became, where these are avoided in its set
abbrev pub avoiding_set : Sign → List (ℕ × Set) → Set → Option Shape → Option CapturingType
avoiding_set sign positions set = option_map (λ shape. capturing shape (set_avoiding sign positions set))

-- what the shape that waits becomes, of what the shape inside it became
abbrev pub around : List (ℕ × Set) → Waiting → Option Shape → Option Shape
around positions (Takes sign takes gives) part =
    given_function (avoiding_set (opposite sign) positions takes.set part) (type_avoiding sign positions gives)
around positions (Gives sign takes gives taken) part =
    given_function taken (avoiding_set sign positions gives.set part)
around positions (Results sign bound gives) part =
    given_type_function (names_any positions bound) bound (avoiding_set sign positions gives.set part)
around positions (Contents sign content) part = given_box (avoiding_set sign positions content.set part)

-- what the whole becomes, of what the part became that the innermost one waits for
abbrev pub all_around : List (ℕ × Set) → List Waiting → Option Shape → Option Shape
all_around positions [] part = part
all_around positions (next ∷ waiting) part = all_around positions waiting (around positions next part)

-- how many turns it takes to go over a shape
abbrev pub turns : Shape → ℕ
turns (BaseShape base) = 0
turns AnyShape = 0
turns (TypeVariable variable) = 0
turns (FunctionShape takes c gives e) = 2 + (turns takes + turns gives)
turns (TypeFunctionShape bound gives e) = 1 + turns gives
turns (BoxShape content c) = 1 + turns content
turns (ExitShape gives) = 0

-- how many it takes once the shape inside is gone over
abbrev pub turns_of : Waiting → ℕ
turns_of (Takes sign takes gives) = 2 + turns gives.shape
turns_of (Gives sign takes gives taken) = 1
turns_of (Results sign bound gives) = 1
turns_of (Contents sign content) = 1

-- how many are left
abbrev pub turns_left : List Waiting → ℕ
turns_left [] = 0
turns_left (next ∷ waiting) = turns_of next + turns_left waiting

-- A part at a place of the sign is still to be gone over, this waits for it, and the whole becomes what is said.
pub record IsBefore (positions : List (ℕ × Set)) (whole : Shape) (answer : Option Shape) (sign : Sign) (part : Shape) (waiting : List Waiting) : Type 0 where
  pub nested : AreNested whole waiting
  pub here : part_of whole waiting ≡ part
  pub comes : all_around positions waiting (shape_avoiding sign positions part) ≡ answer

-- The part became this, this waits for it, and the whole becomes what is said.
pub record IsBehind (positions : List (ℕ × Set)) (whole : Shape) (answer : Option Shape) (waiting : List Waiting) (became : AvoidedShape) : Type 0 where
  pub nested : AreNested whole waiting
  pub comes : all_around positions waiting (given_shape (part_of whole waiting) became) ≡ answer

-- From a part it was gone down to a part of it: whatever the whole becomes stays, and as many turns are left.
pub record GoesDown (positions : List (ℕ × Set)) (sign : Sign) (part : Shape) (old : List Waiting) (next : Sign) (inner : Shape) (new : List Waiting) : Type 0 where
  pub stays : (whole : Shape) (answer : Option Shape) → IsBefore positions whole answer sign part old
      → IsBefore positions whole answer next inner new
  pub left : turns inner + turns_left new ≡ turns part + turns_left old

-- From a part it was gone down to one that became this: whatever the whole becomes stays, and as many turns are left.
pub record Descends (positions : List (ℕ × Set)) (sign : Sign) (part : Shape) (old new : List Waiting) (became : AvoidedShape) : Type 0 where
  pub stays : (whole : Shape) (answer : Option Shape) → IsBefore positions whole answer sign part old
      → IsBehind positions whole answer new became
  pub left : turns_left new ≡ turns part + turns_left old

-- A turn is over: whatever the whole becomes stays, and fewer turns are left.
pub record TakesTurn (positions : List (ℕ × Set)) (old : List Waiting) (became : AvoidedShape) (new : List Waiting) (becomes : AvoidedShape) : Type 0 where
  pub stays : (whole : Shape) (answer : Option Shape) → IsBehind positions whole answer old became
      → IsBehind positions whole answer new becomes
  pub fewer : turns_left new < turns_left old
