-- What is made of the derivation of an accepted definition is made of the canonical one, which is valid.
use Rattle.std.proofs.Common.{◌≡◌, ℕ, ◌+◌, ◌≤◌, sym, subst, arith}
use Rattle.cc_core.specs.Contexts.{Context}
use Rattle.cc_core.specs.Derivations.{OfType, Derivation, IsValidTyping, Concludes}
use Rattle.cc_core.specs.TermViews.{type_of, note_of, term_of}
use Rattle.cc_core.specs.declared.terms.Checked.{Checked}
use Rattle.cc_checking.specs.CanonicalDerivations.{shape_derived, definition_derived}
use Rattle.cc_checking.specs.Verdicts.{Accepted}
use Rattle.cc_checking_laws.proofs.DerivedDefinitions.{definitions_valid}
use Rattle.cc_checking_laws.proofs.StayingDefinitions.{definitions_stay}
use Rattle.cc_derive.specs.Accepting.{IsAcceptedIn, checked_derived}

-- what is accepted
abbrev accepted_of : Checked → Accepted
accepted_of checked =
    record { note = note_of checked.note; filled = term_of checked.filled.value; type = type_of checked.ty; signature = type_of checked.sig }

pub accepted_made : (Made : Derivation → Type 0) (g : Context) (checked : Checked) → IsAcceptedIn g checked
    → ((m : ℕ) → 4294967295 ≤ m → Made (definition_derived (shape_derived m) g (note_of checked.note) (term_of checked.filled.value) (type_of checked.sig)))
    → Made (checked_derived g checked)
accepted_made Made g checked a made =
    let s = definitions_stay a.devices a.globals a.definition (accepted_of checked) a.fits a.accepted in
    let m : ℕ = s.0 + 4294967295 in
    let is = subst (λ (h : Context). definition_derived (shape_derived m) h (note_of checked.note) (term_of checked.filled.value) (type_of checked.sig) ≡ checked_derived h checked) (sym a.is) (s.1 m (omega arith)) in
    subst Made is (made m (omega arith))

pub accepted_valid : (g : Context) (checked : Checked) (d : Derivation) → IsAcceptedIn g checked → d ≡ checked_derived g checked
    → IsValidTyping g (term_of checked.filled.value) d × Concludes d (OfType (type_of checked.sig))
accepted_valid g checked d a is =
    let v = definitions_valid a.devices a.globals a.definition (accepted_of checked) a.fits a.accepted in
    subst (λ (x : Derivation). IsValidTyping g (term_of checked.filled.value) x × Concludes x (OfType (type_of checked.sig))) (sym is)
    (subst (λ (h : Context). IsValidTyping h (term_of checked.filled.value) (checked_derived h checked) × Concludes (checked_derived h checked) (OfType (type_of checked.sig))) (sym a.is) (v.2, v.3))
