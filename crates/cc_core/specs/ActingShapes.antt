-- What waits where an action is taken in a shape by a loop: what stands round the part that is gone over. It serves the
-- code alone.
use Rattle.std.specs.Prelude.{◌≡◌, ℕ, suc, ◌+◌, ◌<◌, List, [], ◌∷◌, map, reverse}
use Rattle.cc_core.specs.Shapes.{Shape, BaseShape, AnyShape, TypeVariable, FunctionShape, TypeFunctionShape, BoxShape}
use Rattle.cc_core.specs.Shapes.{ExitShape, CapturingType}
use Rattle.cc_core.specs.TermViews.{shape_of, type_of}
use Rattle.cc_core.specs.Traversal.{Action, act_set, act}
use Rattle.cc_core.specs.Changes.{became_shape, became_type}
use Rattle.cc_core.specs.declared.acting.ActedShape.{ActedShape}
use Rattle.cc_core.specs.declared.acting.Waiting.{Waiting as DeclaredWaiting}
use Rattle.cc_core.specs.declared.acting.Waiting.TheVariants as waits

-- Functions for what they take, and for what they give where it is known what the type that they take became; type
-- functions for their bound, and for what they give where it is known what the bound became; boxes for their content,
-- and exits for their values. All but exits have how many binders stand above the shape that is waited for.
pub data Waiting : Type 0 where
  Takes : (depth : ℕ) (takes gives : CapturingType) → Waiting
  Gives : (depth : ℕ) (takes gives taken : CapturingType) → Waiting
  Bounds : (depth : ℕ) (bound : Shape) (gives : CapturingType) → Waiting
  Results : (depth : ℕ) (bound : Shape) (gives : CapturingType) (limit : Shape) → Waiting
  Contents : (depth : ℕ) (content : CapturingType) → Waiting
  Exits : (gives : Shape) → Waiting

-- what a value of the program stands for
abbrev pub waiting_of : DeclaredWaiting → Waiting
waiting_of (waits.Takes depth takes gives) = Takes depth (type_of takes.now.value) (type_of gives.now.value)
waiting_of (waits.Gives depth takes gives taken) =
    Gives depth (type_of takes.now.value) (type_of gives.now.value) (became_type (type_of takes.now.value) taken)
waiting_of (waits.Bounds depth bound gives) = Bounds depth (shape_of bound.now.value) (type_of gives.now.value)
waiting_of (waits.Results depth bound gives limit) =
    Results depth (shape_of bound.now.value) (type_of gives.now.value) (became_shape (shape_of bound.now.value) limit)
waiting_of (waits.Contents depth content) = Contents depth (type_of content.now.value)
waiting_of (waits.Exits gives) = Exits (shape_of gives.now.value)

-- what waits, the innermost first; the program has it last
abbrev pub in_turn : List DeclaredWaiting → List Waiting
in_turn waiting = reverse (map waiting_of waiting)

-- the shape that waits
abbrev pub own_shape : Waiting → Shape
own_shape (Takes depth takes gives) = FunctionShape takes.shape takes.set gives.shape gives.set
own_shape (Gives depth takes gives taken) = FunctionShape takes.shape takes.set gives.shape gives.set
own_shape (Bounds depth bound gives) = TypeFunctionShape bound gives.shape gives.set
own_shape (Results depth bound gives limit) = TypeFunctionShape bound gives.shape gives.set
own_shape (Contents depth content) = BoxShape content.shape content.set
own_shape (Exits gives) = ExitShape gives

-- the shape inside it that it waits for
abbrev pub inner_shape : Waiting → Shape
inner_shape (Takes depth takes gives) = takes.shape
inner_shape (Gives depth takes gives taken) = gives.shape
inner_shape (Bounds depth bound gives) = bound
inner_shape (Results depth bound gives limit) = gives.shape
inner_shape (Contents depth content) = content.shape
inner_shape (Exits gives) = gives

-- the shape that the innermost one waits for, or else the whole
abbrev pub part_of : Shape → List Waiting → Shape
part_of whole [] = whole
part_of whole (next ∷ waiting) = inner_shape next

-- each stands inside the one behind it, and the last one is the whole
abbrev pub AreNested : Shape → List Waiting → Type 0
AreNested whole [] = Unit {0}
AreNested whole (next ∷ waiting) = (part_of whole waiting ≡ own_shape next) × AreNested whole waiting

-- what the shape that waits becomes, of what the shape inside it became
abbrev pub around : Action → Waiting → Shape → Shape
around action (Takes depth takes gives) part =
    FunctionShape part (act_set action depth takes.set) (act action (suc depth) gives.shape)
    (act_set action (suc depth) gives.set)
around action (Gives depth takes gives taken) part =
    FunctionShape taken.shape taken.set part (act_set action depth gives.set)
around action (Bounds depth bound gives) part =
    TypeFunctionShape part (act action (suc depth) gives.shape) (act_set action (suc depth) gives.set)
around action (Results depth bound gives limit) part = TypeFunctionShape limit part (act_set action depth gives.set)
around action (Contents depth content) part = BoxShape part (act_set action depth content.set)
around action (Exits gives) part = ExitShape part

-- what the whole becomes, of what the part became that the innermost one waits for
abbrev pub all_around : Action → List Waiting → Shape → Shape
all_around action [] part = part
all_around action (next ∷ waiting) part = all_around action waiting (around action next part)

-- how many turns it takes to go over a shape
abbrev pub turns : Shape → ℕ
turns (BaseShape base) = 0
turns AnyShape = 0
turns (TypeVariable variable) = 0
turns (FunctionShape takes c gives e) = 2 + (turns takes + turns gives)
turns (TypeFunctionShape bound gives e) = 2 + (turns bound + turns gives)
turns (BoxShape content c) = 1 + turns content
turns (ExitShape gives) = 1 + turns gives

-- how many it takes once the shape inside is gone over
abbrev pub turns_of : Waiting → ℕ
turns_of (Takes depth takes gives) = 2 + turns gives.shape
turns_of (Gives depth takes gives taken) = 1
turns_of (Bounds depth bound gives) = 2 + turns gives.shape
turns_of (Results depth bound gives limit) = 1
turns_of (Contents depth content) = 1
turns_of (Exits gives) = 1

-- how many are left
abbrev pub turns_left : List Waiting → ℕ
turns_left [] = 0
turns_left (next ∷ waiting) = turns_of next + turns_left waiting

-- A part under so many binders is still to be gone over, this waits for it, and the whole becomes what is said.
pub record IsBefore (action : Action) (whole : Shape) (answer : Shape) (depth : ℕ) (part : Shape) (waiting : List Waiting) : Type 0 where
  pub nested : AreNested whole waiting
  pub here : part_of whole waiting ≡ part
  pub comes : all_around action waiting (act action depth part) ≡ answer

-- The part became this, this waits for it, and the whole becomes what is said.
pub record IsBehind (action : Action) (whole : Shape) (answer : Shape) (waiting : List Waiting) (became : ActedShape) : Type 0 where
  pub nested : AreNested whole waiting
  pub comes : all_around action waiting (became_shape (part_of whole waiting) became) ≡ answer

-- From a part it was gone down to a part of it that stands under no more binders: whatever the whole becomes stays, and
-- as many turns are left.
pub record GoesDown (action : Action) (depth : ℕ) (part : Shape) (old : List Waiting) (inner : Shape) (new : List Waiting) : Type 0 where
  pub stays : (whole : Shape) (answer : Shape) → IsBefore action whole answer depth part old
      → IsBefore action whole answer depth inner new
  pub left : turns inner + turns_left new ≡ turns part + turns_left old

-- From a part it was gone down to one that became this: whatever the whole becomes stays, and as many turns are left.
pub record Descends (action : Action) (depth : ℕ) (part : Shape) (old new : List Waiting) (became : ActedShape) : Type 0 where
  pub stays : (whole : Shape) (answer : Shape) → IsBefore action whole answer depth part old
      → IsBehind action whole answer new became
  pub left : turns_left new ≡ turns part + turns_left old

-- A turn is over: whatever the whole becomes stays, and fewer turns are left.
pub record TakesTurn (action : Action) (old : List Waiting) (became : ActedShape) (new : List Waiting) (becomes : ActedShape) : Type 0 where
  pub stays : (whole : Shape) (answer : Shape) → IsBehind action whole answer old became
      → IsBehind action whole answer new becomes
  pub fewer : turns_left new < turns_left old
