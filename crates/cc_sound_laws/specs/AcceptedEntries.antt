-- Entries of accepted modules.
use Rattle.std.specs.Prelude.{◌≡◌, ℕ, List, length, reverse, Some}
use Rattle.cc_base.specs.declared.literal.Base.{Base}
use Rattle.cc_base.specs.declared.literal.Base.TheVariants as bases
use Rattle.cc_capture.specs.Sets.{Set}
use Rattle.cc_core.specs.Shapes.{Shape, BaseShape, FunctionShape}
use Rattle.cc_core.specs.Programs.{Definition, Entry, definition_in}
use Rattle.cc_core.specs.Stores.{authority}
use Rattle.cc_verdicts.specs.PresentTexts.{Texts}
use Rattle.cc_sound_laws.specs.AcceptedModules.{AreAccepted}

-- The entry is one of the present texts: its modules are accepted, each behind those that it imports from; it runs a
-- definition of theirs that takes unit; and it may operate the devices that the signature of that one permits.
pub record IsAcceptedEntry (names : List (List ℕ)) (shapes : List Base) (texts : Texts) (entry : Entry) : Type 0 where
  pub same_shapes : entry.devices ≡ shapes
  pub accepted : AreAccepted names shapes texts (reverse entry.modules)
  pub started : Definition
  pub found : definition_in entry.module_name entry.definition_name (reverse entry.modules) ≡ Some started
  pub takes_unit : (takes_set : Set) × (gives : Shape) × (gives_set : Set)
      × (started.signature.shape ≡ FunctionShape (BaseShape bases.Unit) takes_set gives gives_set)
  pub permits : entry.authority ≡ authority (length shapes) started.signature.set
