-- What the program's reasons stand for.
use Rattle.std.specs.Prelude.{List, [], ◌∷◌}
use Rattle.cc_core.specs.TermViews.{shape_of, type_of, context_of}
use Rattle.cc_reasons.specs.Causes as plain
use Rattle.cc_reasons.specs.Causes.{Local, Scene, Head, Cause}
use Rattle.cc_reasons.specs.ExplainedInference as names
use Rattle.cc_reasons.specs.ExplainedInference.{BinderNames}
use Rattle.cc_causes.specs.declared.reason.Local.{Local as DeclaredLocal}
use Rattle.cc_causes.specs.declared.reason.Locals.{Locals}
use Rattle.cc_causes.specs.declared.reason.Locals.TheVariants.{End, More'}
use Rattle.cc_causes.specs.declared.reason.Scene.{Scene as DeclaredScene}
use Rattle.cc_causes.specs.declared.reason.Binders.{Binders}
use Rattle.cc_causes.specs.declared.reason.Binders.TheVariants as binders
use Rattle.cc_causes.specs.declared.reason.Head.{Head as DeclaredHead}
use Rattle.cc_causes.specs.declared.reason.Head.TheVariants as heads
use Rattle.cc_causes.specs.declared.reason.Cause.{Cause as DeclaredCause}
use Rattle.cc_causes.specs.declared.reason.Cause.TheVariants as causes

-- the local variable
abbrev pub local_of : DeclaredLocal → Local
local_of local = record { name = local.name; at = local.at }

-- the local variables, the newest first
abbrev pub locals_of : Locals → List Local
locals_of End = []
locals_of (More' local p older) = local_of local ∷ locals_of older

-- the scene
abbrev pub scene_of : DeclaredScene → Scene
scene_of scene = record { context = context_of scene.ctx; locals = locals_of scene.locals.value }

-- the names of binders
abbrev pub binder_names_of : Binders → BinderNames
binder_names_of binders.Alone = names.Alone
binder_names_of (binders.Around' name p part) = names.Around name (binder_names_of part)
binder_names_of (binders.Between' name p one q other) =
    names.Between name (binder_names_of one) (binder_names_of other)

-- what is wanted at a head
abbrev pub head_of : DeclaredHead → Head
head_of heads.AFunction = plain.AFunction
head_of heads.ATypeFunction = plain.ATypeFunction
head_of heads.ABox = plain.ABox
head_of heads.AnExit = plain.AnExit
head_of (heads.ABase base) = plain.ABase base

-- why a step is refused
abbrev pub cause_of : DeclaredCause → Cause
cause_of (causes.WrongHead scene found wanted) =
    plain.WrongHead (scene_of scene) (shape_of found.value) (head_of wanted)
cause_of (causes.WrongType scene found wanted) = plain.WrongType (scene_of scene) (type_of found) (type_of wanted)
cause_of (causes.WrongShape scene found wanted) =
    plain.WrongShape (scene_of scene) (shape_of found.value) (shape_of wanted.value)
cause_of causes.NothingThere = plain.NothingThere
cause_of (causes.Unavoidable scene position type) = plain.Unavoidable (scene_of scene) position (type_of type)
cause_of (causes.TooLarge scene type) = plain.TooLarge (scene_of scene) (type_of type)
