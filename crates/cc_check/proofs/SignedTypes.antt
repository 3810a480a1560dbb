-- Signatures are well formed.
use Rattle.std.proofs.Common.{◌≡◌, ℕ, [], Some}
use Rattle.cc_core.specs.Shapes.{CapturingType}
use Rattle.cc_core.specs.Contexts.{Context}
use Rattle.cc_core.specs.WellFormed.{kinds_of, IsWellFormedContext, IsWellFormedType}
use Rattle.cc_core.proofs.KindFacts.{IsKindedType-from, IsKindedType-test}
use Rattle.cc_core.proofs.SubcapturingContexts.{IsKindedContext-from}
use Rattle.cc_checking.specs.Verdicts.{signature_of}
use Rattle.cc_checking_laws.specs.FillingLaws.{AreGlobals}
use Rattle.cc_checking_laws.proofs.Signatures.{signed}

-- a signature is well formed
pub signature_well_formed : (devices : ℕ) (globals : Context) (type signature : CapturingType)
    → IsWellFormedContext globals → AreGlobals globals → IsWellFormedType globals type
    → signature_of devices globals type ≡ Some signature → IsWellFormedType globals signature
signature_well_formed devices globals type signature formed alone known is =
    let kinded = IsKindedContext-from globals formed in
    IsKindedType-test (kinds_of globals) [] signature
    (signed devices globals globals (λ q b h. h) kinded kinded alone type signature
    (IsKindedType-from (kinds_of globals) [] type known) known is).kinded
