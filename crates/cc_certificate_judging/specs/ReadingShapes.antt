-- What waits where a shape is read by a loop: what stands round the part that is gone over. It serves the code alone.
use Rattle.std.specs.Prelude.{◌≡◌, ℕ, suc, ◌+◌, ◌<◌, List, [], ◌∷◌, map, reverse}
use Rattle.cc_core.specs.Shapes.{Shape, BaseShape, AnyShape, TypeVariable, FunctionShape, TypeFunctionShape, BoxShape}
use Rattle.cc_core.specs.Shapes.{ExitShape, CapturingType}
use Rattle.cc_core.specs.TermViews.{shape_of, type_of}
use Rattle.cc_core.specs.Traversal.{Action, act_set, act}
use Rattle.cc_certificate_judging.specs.declared.claims.Waiting.{Waiting as DeclaredWaiting}
use Rattle.cc_certificate_judging.specs.declared.claims.Waiting.TheVariants as waits

-- Functions for what they take, and for what they give where what they take is read; type functions for their bound, and
-- for what they give where the bound is read; boxes for their content, and exits for their values.
pub data Waiting : Type 0 where
  Takes : (depth : ℕ) (takes gives : CapturingType) → Waiting
  Gives : (depth : ℕ) (gives taken : CapturingType) → Waiting
  Bounds : (depth : ℕ) (gives : CapturingType) → Waiting
  Results : (depth : ℕ) (gives : CapturingType) (bound : Shape) → Waiting
  Contents : (depth : ℕ) (content : CapturingType) → Waiting
  Exits : Waiting

-- what a value of the program stands for
abbrev pub waiting_of : DeclaredWaiting → Waiting
waiting_of (waits.Takes depth takes gives) = Takes depth (type_of takes.now.value) (type_of gives.now.value)
waiting_of (waits.Gives depth gives taken) = Gives depth (type_of gives.now.value) (type_of taken.value)
waiting_of (waits.Bounds depth gives) = Bounds depth (type_of gives.now.value)
waiting_of (waits.Results depth gives bound) = Results depth (type_of gives.now.value) (shape_of bound.value)
waiting_of (waits.Contents depth content) = Contents depth (type_of content.now.value)
waiting_of waits.Exits = Exits

-- what waits, the innermost first; the program has it last
abbrev pub in_turn : List DeclaredWaiting → List Waiting
in_turn waiting = reverse (map waiting_of waiting)

-- the shape that waits as it is read, of the shape inside it as that is read
abbrev pub around : Action → Waiting → Shape → Shape
around action (Takes depth takes gives) part =
    FunctionShape part (act_set action depth takes.set) (act action (suc depth) gives.shape)
    (act_set action (suc depth) gives.set)
around action (Gives depth gives taken) part =
    FunctionShape taken.shape taken.set part (act_set action depth gives.set)
around action (Bounds depth gives) part =
    TypeFunctionShape part (act action (suc depth) gives.shape) (act_set action (suc depth) gives.set)
around action (Results depth gives bound) part = TypeFunctionShape bound part (act_set action depth gives.set)
around action (Contents depth content) part = BoxShape part (act_set action depth content.set)
around action Exits part = ExitShape part

-- the whole as it is read, of the part as it is read that the innermost one waits for
abbrev pub all_around : Action → List Waiting → Shape → Shape
all_around action [] part = part
all_around action (next ∷ waiting) part = all_around action waiting (around action next part)

-- how many turns it takes to go over a shape
abbrev pub turns : Shape → ℕ
turns (BaseShape base) = 0
turns AnyShape = 0
turns (TypeVariable variable) = 0
turns (FunctionShape takes c gives e) = 2 + (turns takes + turns gives)
turns (TypeFunctionShape bound gives e) = 2 + (turns bound + turns gives)
turns (BoxShape content c) = 1 + turns content
turns (ExitShape gives) = 1 + turns gives

-- how many it takes once the shape inside is gone over
abbrev pub turns_of : Waiting → ℕ
turns_of (Takes depth takes gives) = 2 + turns gives.shape
turns_of (Gives depth gives taken) = 1
turns_of (Bounds depth gives) = 2 + turns gives.shape
turns_of (Results depth gives bound) = 1
turns_of (Contents depth content) = 1
turns_of Exits = 1

-- how many are left
abbrev pub turns_left : List Waiting → ℕ
turns_left [] = 0
turns_left (next ∷ waiting) = turns_of next + turns_left waiting

-- From a part under so many binders it was gone down to a part of it: the whole is still read alike, and as many turns
-- are left.
pub record GoesDown (action : Action) (depth : ℕ) (part : Shape) (old : List Waiting) (inner : Shape) (new : List Waiting) : Type 0 where
  pub alike : all_around action new (act action depth inner) ≡ all_around action old (act action depth part)
  pub left : turns inner + turns_left new ≡ turns part + turns_left old

-- From a part it was gone down to one that is read as this: the whole is still read alike, and as many turns are left.
pub record Descends (action : Action) (depth : ℕ) (part : Shape) (old new : List Waiting) (read : Shape) : Type 0 where
  pub alike : all_around action new read ≡ all_around action old (act action depth part)
  pub left : turns_left new ≡ turns part + turns_left old

-- A turn is over: the whole is still read alike, and fewer turns are left.
pub record TakesTurn (action : Action) (old : List Waiting) (read : Shape) (new : List Waiting) (reads : Shape) : Type 0 where
  pub alike : all_around action new reads ≡ all_around action old read
  pub fewer : turns_left new < turns_left old
