-- The laws of definitions that are defined under a filling, from the lemmas.
use Rattle.cc_core.specs.Contexts.{Context}
use Rattle.cc_core.specs.Shapes.{CapturingType}
use Rattle.cc_core.specs.Terms.{Term}
use Rattle.cc_checking.specs.Fillings.{Filling}
use Rattle.cc_calculus_laws.specs.DirectedTypes.{HasDirectedDefinition}
use Rattle.cc_calculus_laws.specs.DirectedTypes as directed
use Rattle.cc_mnf.specs.ElaboratedModules.{CoreDefinition}
use Rattle.cc_verdicts.specs.ModuleVerdicts.{to_be_checked}
use Rattle.cc_sound_laws.specs.DefinedAs.{IsDefinedAs, not_recursive, recursive}
use Rattle.cc_sound_laws.specs.DefinedLaws.{DefinedWhereDirected, DefinedDefinitionsAreTyped, AcceptedVerdictsAreByTypes, RefusedVerdictsHaveNoTypes, ModuleTextsAreRead}
use Rattle.cc_sound_laws.proofs.AcceptedAs.{accepted_as, refused_as}
use Rattle.cc_sound_laws.proofs.Defined.{defined_typed}
use Rattle.cc_sound_laws.proofs.ReadTexts.{read_is_module, module_is_read}
use Rattle.std.specs.Prelude.{ℕ}

abbrev IsDefined : ℕ → Context → CoreDefinition → Filling → Type 0
IsDefined devices globals definition filling =
    (value : Term) × (signature : CapturingType) × IsDefinedAs devices globals definition filling value signature

from_directed : (devices : ℕ) (globals : Context) (definition : CoreDefinition) (filling : Filling)
    → HasDirectedDefinition devices globals (to_be_checked definition) filling → IsDefined devices globals definition filling
from_directed devices globals definition filling (directed.not_recursive is d n s) = (_, _, not_recursive is d n s)
from_directed devices globals definition filling (directed.recursive is w s d b) = (_, _, recursive is w s d b)

to_directed : (devices : ℕ) (globals : Context) (definition : CoreDefinition) (filling : Filling) (value : Term)
    (signature : CapturingType) → IsDefinedAs devices globals definition filling value signature
    → HasDirectedDefinition devices globals (to_be_checked definition) filling
to_directed devices globals definition filling value signature (not_recursive is d n s) = directed.not_recursive is d n s
to_directed devices globals definition filling value signature (recursive is w s d b) = directed.recursive is w s d b

pub defined_where_directed : DefinedWhereDirected
defined_where_directed devices globals definition filling = (
  from_directed devices globals definition filling,
  λ (value, signature, defined). to_directed devices globals definition filling value signature defined,
)

pub defined_are_typed : DefinedDefinitionsAreTyped
defined_are_typed devices globals definition filling value signature fits holes over defined =
    let its = defined_typed devices globals definition filling value signature fits holes over defined in
    (its.has_type, its.over_devices, its.closed)

pub accepted_are_by_types : AcceptedVerdictsAreByTypes
accepted_are_by_types devices globals definition accepted fits holes has =
    accepted_as devices globals definition fits holes accepted has

pub refused_have_none : RefusedVerdictsHaveNoTypes
refused_have_none devices globals definition code at fits holes has filling value signature over defined =
    refused_as devices globals definition fits holes code at has filling value signature over defined

pub texts_are_read : ModuleTextsAreRead
texts_are_read text tree = (module_is_read text tree, read_is_module text tree)
