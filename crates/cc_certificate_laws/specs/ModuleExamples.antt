-- The context and the names of a recursive definition `f` and of a `g` that is not, beside a console `out`, behind an
-- imported `d` and an earlier `a`.
use Rattle.std.specs.Prelude.{◌≡◌, true, codes, [], ◌∷◌, refl}
use Rattle.cc_core.specs.Contexts.{entry_of}
use Rattle.cc_core.specs.Programs.{device_entry}
use Rattle.cc_core.specs.Shapes.{CapturingType}
use Rattle.cc_base.specs.declared.literal.Base.TheVariants as bases
use Rattle.cc_grammar.specs.Syntax.{ImportSyntax}
use Rattle.cc_checking.specs.ExampleChecks.{place}
use Rattle.cc_checking.specs.Verdicts.{Accepted}
use Rattle.cc_verdicts.specs.ExampleModules.{console, named}
use Rattle.cc_verdicts.specs.ModuleVerdicts.{FoundDefinition, CheckedDefinition, IsAccepted, HasModuleVerdict}
use Rattle.cc_verdicts.specs.StandingDefinitions.{context_behind, names_behind}
use Rattle.cc_certificate_laws.specs.ModuleCertificates.{IsCertified}

-- import m.d
abbrev import_of_d : ImportSyntax
import_of_d = record { source = codes "m"; at = place 1 8; name = codes "d"; name_at = place 1 10 }

-- def rec f
abbrev recursive : Accepted → CheckedDefinition
recursive accepted = record { name = codes "f"; recursive = true; accepted = accepted }

pub names_of_f : (first own : Accepted)
    → names_behind console (import_of_d ∷ []) (named (codes "a") first ∷ []) (recursive own)
    ≡ codes "out" ∷ codes "d" ∷ codes "a" ∷ codes "f" ∷ []
names_of_f first own = refl

pub names_of_g : (first own : Accepted)
    → names_behind console (import_of_d ∷ []) (named (codes "a") first ∷ []) (named (codes "g") own)
    ≡ codes "out" ∷ codes "d" ∷ codes "a" ∷ []
names_of_g first own = refl

-- a context has the newest first
pub context_of_f : (imported : CapturingType) (first own : Accepted)
    → context_behind console (FoundDefinition imported ∷ []) (named (codes "a") first ∷ []) (recursive own)
    ≡ entry_of own.signature ∷ entry_of first.signature ∷ entry_of imported ∷ device_entry bases.Console ∷ []
context_of_f imported first own = refl

pub context_of_g : (imported : CapturingType) (first own : Accepted)
    → context_behind console (FoundDefinition imported ∷ []) (named (codes "a") first ∷ []) (named (codes "g") own)
    ≡ entry_of first.signature ∷ entry_of imported ∷ device_entry bases.Console ∷ []
context_of_g imported first own = refl

-- def a = 1
-- It is accepted, and has a right certificate.
abbrev pub ANumberIsCertified : Type 0
ANumberIsCertified =
    (accepted : Accepted)
    × HasModuleVerdict console (codes "def a = 1") [] (IsAccepted (named (codes "a") accepted ∷ []))
    × IsCertified (names_behind console [] [] (named (codes "a") accepted))
    (context_behind console [] [] (named (codes "a") accepted)) accepted
