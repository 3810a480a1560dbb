-- What is below a set, and how an element leads to an end, goes by the declared sets alone: so no shape need be filled to
-- look for it.
use Rattle.std.specs.Prelude.{◌↔◌, ℕ, List, ◌∷◌, ◌++◌, codes, map}
use Rattle.cc_capture.specs.declared.var.Elem.{Elem}
use Rattle.cc_capture.specs.Sets.{Set}
use Rattle.cc_core.specs.Contexts.{Bind, TermEntry, TypeEntry, Context}
use Rattle.cc_core.specs.Shapes.{AnyShape}
use Rattle.cc_core.specs.Subcapturing.{Subcaptures}
use Rattle.cc_core.specs.WellFormed.{IsWellFormedContext}
use Rattle.cc_mnf.specs.Scopes.{Name}
use Rattle.cc_reasons.specs.Causes.{Scene}
use Rattle.cc_reasons.specs.DefinitionReasons.{NotBelow}
use Rattle.cc_reasons.specs.ReasonTexts.{with_locals, set_there, spaced, AreBeyond, is_end, LeadsOn, AreLines}
use Rattle.cc_captured_reasons.specs.CapturedChains.{AreChains, chain_lines}
use Rattle.cc_captured_reasons.specs.FilledScenes.{IsFilledScene}

-- the entry with its declared set alone
abbrev pub set_alone : Bind → Bind
set_alone (TermEntry shape declared) = TermEntry AnyShape declared
set_alone (TypeEntry bound) = TypeEntry AnyShape

-- the context of such entries
abbrev pub sets_alone : Context → Context
sets_alone context = map set_alone context

-- what is below, what is not, and what leads on, is so by the sets alone
abbrev pub SetsAloneCount : Type 0
SetsAloneCount =
    (devices : ℕ) (context : Context) (right : Set)
    → ((e : Elem) → Subcaptures (sets_alone context) e right ↔ Subcaptures context e right)
    × ((list told : List Elem) → AreBeyond (sets_alone context) right list told ↔ AreBeyond context right list told)
    × ((entry : Elem → List Elem) → LeadsOn devices (sets_alone context) right entry ↔ LeadsOn devices context right entry)

-- what is asked of a context holds of its sets alone
abbrev pub SetsAloneAreScenes : Type 0
SetsAloneAreScenes =
    (context : Context) (left : Set) → IsFilledScene context left → IsFilledScene (sets_alone context) left

-- So what is found by the sets alone gives the lines of the reason.
abbrev pub CapturedIsToldBySets : Type 0
CapturedIsToldBySets =
    (devices : ℕ) (names : List Name) (scene : Scene) (left right : Set) (captured : List Elem)
    (chains : List (List Elem))
    → IsWellFormedContext scene.context → AreBeyond (sets_alone scene.context) right left.list captured
    → ((entry : Elem → List Elem) → LeadsOn devices (sets_alone scene.context) right entry
    → AreChains entry (is_end devices) captured chains)
    → AreLines devices names (NotBelow scene left right)
    ((codes "captured" ++ spaced (with_locals names scene.locals) scene.context captured)
    ∷ (codes "allowed " ++ set_there (with_locals names scene.locals) scene.context right)
    ∷ chain_lines (with_locals names scene.locals) scene.context chains)
