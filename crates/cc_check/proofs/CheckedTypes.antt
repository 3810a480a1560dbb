-- The type that is found for a definition is well formed over the globals.
use Rattle.std.proofs.Common.{◌≡◌, ℕ, Bool, true, false, cond, List, [], ◌∷◌, length, refl, sym, subst}
use Rattle.cc_core.specs.Shapes.{capturing}
use Rattle.cc_core.specs.Terms.{Note, Absent, Written, Own}
use Rattle.cc_core.specs.Contexts.{Context}
use Rattle.cc_core.specs.Places.{spots}
use Rattle.cc_core.specs.WellFormed.{TermKind, kinds_of, is_well_formed_term, IsWellFormedNote}
use Rattle.cc_core.proofs.KindFacts.{IsKindedType, IsKindedTerm-from, IsKindedNote-from}
use Rattle.cc_core.proofs.SubcapturingContexts.{IsKindedContext, IsKindedContext-from}
use Rattle.cc_checking.specs.Outcomes.{Asked, Placed, Found}
use Rattle.cc_checking.specs.Inference.{limited}
use Rattle.cc_checking.specs.Verdicts.{Definition, Checking, plain_checked, recursive_checked, IsChecked}
use Rattle.cc_checking_laws.specs.CheckingLaws.{Fits}
use Rattle.cc_checking_laws.specs.FillingLaws.{AreGlobals}
use Rattle.cc_checking_laws.proofs.FoundFindings.{asked_of, Came, then_came, finds_came, found_finds, noted_came, avoided_came}
use Rattle.cc_checking_laws.proofs.FoundTypes.{regular, notes_kinded}
use Rattle.cc_checking_laws.proofs.ReadingKinds.{outermost}
use Rattle.cc_checking_laws.proofs.Signatures.{signed}

module _ (devices : ℕ) (globals : Context) (formed : IsKindedContext globals) (alone : AreGlobals globals) (n : ℕ)
    (definition : Definition) (found : Checking) (qs : List Asked) where
  plain_kinded : Came (plain_checked (limited n) globals definition) found qs
      → is_well_formed_term (kinds_of globals) [] definition.right ≡ true → IsWellFormedNote globals definition.note
      → IsKindedType (kinds_of globals) [] found.type
  plain_kinded c right note =
      let k = then_came c in
      let k2 = then_came k.rest in
      let fin = finds_came k2.rest in
      let finding =
      found_finds n (length globals) (limited n).passes definition.right globals definition.places k.came in
      let notes = noted_came n (length globals) (spots definition.places).at globals definition.note k.value.type k2.came in
      let reg = regular globals finding outermost formed (IsKindedTerm-from (kinds_of globals) [] definition.right right) in
      subst (λ (x : Checking). IsKindedType (kinds_of globals) [] x.type) (sym fin.0)
      (notes_kinded globals notes outermost (IsKindedNote-from (kinds_of globals) [] definition.note note) reg.0).0

  recursive_kinded : (note : Note) → Came (recursive_checked (limited n) devices globals definition note) found qs
      → IsWellFormedNote globals note → IsKindedType (kinds_of globals) [] found.type
  recursive_kinded Absent (list, e, q) kn = cc
  recursive_kinded (Own s) (list, e, q) kn = cc
  recursive_kinded (Written s c) came kn =
      let k = then_came came in
      let a = avoided_came _ _ k.came in
      let k2 = then_came k.rest in
      let k3 = then_came k2.rest in
      let fin = finds_came k3.rest in
      let sg =
      signed devices globals globals (λ q b h. h) formed formed alone (capturing s c) k.value
      (IsKindedNote-from (kinds_of globals) [] (Written s c) kn) kn a.0 in
      subst (λ (x : Checking). IsKindedType (kinds_of globals) [] x.type) (sym fin.0) sg.kinded

by_kind : (b : Bool) (devices : ℕ) (globals : Context) (definition : Definition) (n : ℕ) (found : Checking)
    (list : List Placed) → IsKindedContext globals → AreGlobals globals
    → cond b (recursive_checked (limited n) devices globals definition definition.note)
    (plain_checked (limited n) globals definition)
    ≡ Found found list
    → is_well_formed_term (cond b (TermKind ∷ kinds_of globals) (kinds_of globals)) [] definition.right ≡ true
    → IsWellFormedNote globals definition.note → IsKindedType (kinds_of globals) [] found.type
by_kind true devices globals definition n found list formed alone is right note =
    recursive_kinded devices globals formed alone n definition found (asked_of list) definition.note (list, is, refl) note
by_kind false devices globals definition n found list formed alone is right note =
    plain_kinded devices globals formed alone n definition found (asked_of list) (list, is, refl) right note

pub checked_kinded : (devices : ℕ) (globals : Context) (definition : Definition) (found : Checking)
    (asked : List Placed) → Fits globals definition → IsChecked devices globals definition (Found found asked)
    → IsKindedType (kinds_of globals) [] found.type
checked_kinded devices globals definition found asked fits (n, is, done) =
    by_kind definition.recursive devices globals definition n found asked (IsKindedContext-from globals fits.formed)
    fits.globals_alone is fits.right_formed fits.note_formed
