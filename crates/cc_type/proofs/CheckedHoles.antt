-- What is found for a definition has no other holes than its right side.
use Rattle.std.proofs.Common.{◌≡◌, ℕ, suc, Bool, true, false, cond, List, [], ◌∷◌, ◌++◌, length, refl, sym, ap, ◌∙◌}
use Rattle.std.proofs.Common.{subst}
use Rattle.cc_core.specs.Shapes.{CapturingType, capturing}
use Rattle.cc_core.specs.Terms.{Note, Absent, Written, Own}
use Rattle.cc_core.specs.Contexts.{TermEntry, TypeEntry, Context, entry_of}
use Rattle.cc_core.specs.Occurrences.{MeetsInType, MeetsInNote, MeetsInTerm, without_holes}
use Rattle.cc_core.specs.Places.{spots}
use Rattle.cc_core.specs.WellFormed.{kinds_of, IsWellFormedNote}
use Rattle.cc_core.proofs.KindFacts.{IsKindedNote-from}
use Rattle.cc_core.proofs.Sorts.{SetSort, ShapeSort, TypeSort, NoteSort}
use Rattle.cc_core.proofs.SubcapturingContexts.{IsKindedContext, IsKindedContext-from}
use Rattle.cc_checking.specs.Outcomes.{Asked, Placed, Found}
use Rattle.cc_checking.specs.Fillings.{IsAskedIn}
use Rattle.cc_checking.specs.Inference.{limited}
use Rattle.cc_checking.specs.Verdicts.{Definition, Checking, plain_checked, recursive_checked}
use Rattle.cc_checking_laws.specs.FillingLaws.{AreGlobals}
use Rattle.cc_checking_laws.proofs.FoundFindings.{asked_of, Came, then_came, finds_came, found_finds, below_came}
use Rattle.cc_checking_laws.proofs.FoundFindings.{noted_came, avoided_came}
use Rattle.cc_checking_laws.proofs.Findings.{below_all}
use Rattle.cc_checking_laws.proofs.Signatures.{signed}
use Rattle.cc_known.specs.FilledHoles.{holes_below, HasContextHolesBelow, HasAskedHolesBelow, holes_of}
use Rattle.cc_known.specs.FilledHoles.{InferenceAddsNoHole, CheckingAddsNoHole}
use Rattle.cc_known.proofs.FilledAlike.{closed_below, holes_are_counted}
use Rattle.cc_known.proofs.HolesBelow.{InType, types_in}
use Rattle.cc_type.proofs.FoundHoles.{AllIn, all_both, demands_then, notes_in, few}

-- each of all that is asked
among : (n : ℕ) (before : List Placed) (p : Placed) (after : List Placed) → AllIn n (asked_of (before ++ p ∷ after))
    → HasAskedHolesBelow n p.asked
among n [] p after k = k.0
among n (x ∷ before) p after k = among n before p after k.1

each_of : (n : ℕ) (list : List Placed) → AllIn n (asked_of list) → (one : Asked) → IsAskedIn list one
    → HasAskedHolesBelow n one
each_of n list k one (before, p, after, is, same) =
    subst (HasAskedHolesBelow n) same (among n before p after (subst (λ l. AllIn n (asked_of l)) is k))

pub inference_adds_no_hole : InferenceAddsNoHole
inference_adds_no_hole n root g t places found list k ht (steps, is, done) =
    let x = few n (found_finds steps root (limited steps).passes t g places (list, is, refl)) k ht in
    (x.completed, (x.shape, x.set), each_of n list x.asks)

-- globals have no hole
pub globals_below : (n : ℕ) (g : Context) → AreGlobals g → HasContextHolesBelow n g
globals_below n [] a = tt
globals_below n (TermEntry s c ∷ g) a =
    ((closed_below ShapeSort n s a.0, closed_below SetSort n c a.1), globals_below n g a.2)
globals_below n (TypeEntry b ∷ g) a = absurd a

-- what is found for a definition, with what it asks
record FewFound (n : ℕ) (found : Checking) (qs : List Asked) : Type 0 where
  note : MeetsInNote (holes_below n) 0 found.note
  completed : MeetsInTerm (holes_below n) 0 found.completed
  type : MeetsInType (holes_below n) 0 found.type
  all : AllIn n qs

module _ (n devices : ℕ) (globals : Context) (formed : IsKindedContext globals) (alone : AreGlobals globals) where
  plain_few : (steps : ℕ) (definition : Definition) (found : Checking) (qs : List Asked)
      → Came (plain_checked (limited steps) globals definition) found qs
      → MeetsInNote without_holes 0 definition.note → MeetsInTerm (holes_below n) 0 definition.right
      → FewFound n found qs
  plain_few steps definition found qs c none ht =
      let k = then_came c in
      let k2 = then_came k.rest in
      let fin = finds_came k2.rest in
      let kg = globals_below n globals alone in
      let x = few n (found_finds steps (length globals) (limited steps).passes definition.right globals
      definition.places k.came) kg ht in
      let notes = noted_came steps (length globals) (spots definition.places).at globals definition.note k.value.type
      k2.came in
      let y = notes_in n notes kg (closed_below NoteSort n definition.note none) (x.shape, x.set) in
      let asks = subst (AllIn n) (sym k.all) (all_both n k.first k.second x.asks
      (subst (AllIn n) (sym k2.all) (all_both n k2.first k2.second y.1.1 (subst (AllIn n) (sym fin.1) tt)))) in
      subst (λ f. FewFound n f qs) (sym fin.0)
      (record { note = y.1.0; completed = x.completed; type = y.0; all = asks })

  recursive_few : (steps : ℕ) (definition : Definition) (note : Note) (found : Checking) (qs : List Asked)
      → Came (recursive_checked (limited steps) devices globals definition note) found qs
      → IsWellFormedNote globals note → MeetsInNote without_holes 0 note
      → MeetsInTerm (holes_below n) 0 definition.right → FewFound n found qs
  recursive_few steps definition Absent found qs (list, e, q) kn none ht = cc
  recursive_few steps definition (Own s) found qs (list, e, q) kn none ht = cc
  recursive_few steps definition (Written s c) found qs came kn none ht =
      let k = then_came came in
      let a = avoided_came _ _ k.came in
      let k2 = then_came k.rest in
      let k3 = then_came k2.rest in
      let fin = finds_came k3.rest in
      let sig : CapturingType = k.value in
      let sg = signed devices globals globals (λ q b h. h) formed formed alone (capturing s c) sig
      (IsKindedNote-from (kinds_of globals) [] (Written s c) kn) kn a.0 in
      let own : InType n sig = closed_below TypeSort n sig (sg.closed none) in
      let base : Context = entry_of sig ∷ globals in
      let kg : HasContextHolesBelow n base = (own, globals_below n globals alone) in
      let x = few n (found_finds steps (suc (length globals)) (limited steps).passes definition.right base
      definition.places k2.came) kg ht in
      let b = below_came steps (spots definition.places).at base k2.value.type sig k3.came in
      let ds = types_in n b.1.0 base k2.value.type sig b.0 b.1.1 kg (x.shape, x.set) own in
      let asks = subst (AllIn n) (sym (k.all ∙ ap (λ l. l ++ k.second) a.1))
      (subst (AllIn n) (sym k2.all) (all_both n k2.first k2.second x.asks
      (subst (AllIn n) (sym (k3.all ∙ ap (λ l. l ++ k3.second) b.2 ∙ ap (λ l. below_all b.0 ++ l) fin.1))
      (demands_then n b.0 [] ds tt)))) in
      subst (λ f. FewFound n f qs) (sym fin.0)
      (record { note = own; completed = x.completed; type = own; all = asks })

by_kind : (n : ℕ) (b : Bool) (devices : ℕ) (globals : Context) (definition : Definition) (steps : ℕ) (found : Checking)
    (list : List Placed)
    → IsKindedContext globals → AreGlobals globals
    → cond b (recursive_checked (limited steps) devices globals definition definition.note)
    (plain_checked (limited steps) globals definition) ≡ Found found list
    → IsWellFormedNote globals definition.note → MeetsInNote without_holes 0 definition.note
    → MeetsInTerm (holes_below n) 0 definition.right → FewFound n found (asked_of list)
by_kind n true devices globals definition steps found list formed alone is kn none ht =
    recursive_few n devices globals formed alone steps definition definition.note found (asked_of list)
    (list, is, refl) kn none ht
by_kind n false devices globals definition steps found list formed alone is kn none ht =
    plain_few n devices globals formed alone steps definition found (asked_of list) (list, is, refl) none ht

pub checking_adds_no_hole : CheckingAddsNoHole
checking_adds_no_hole devices globals definition found list fits holes (steps, is, done) =
    let n = holes_of definition.right in
    let x = by_kind n definition.recursive devices globals definition steps found list
    (IsKindedContext-from globals fits.formed)
    fits.globals_alone is fits.note_formed fits.note_closed (holes_are_counted definition.right holes) in
    record { note = x.note; completed = x.completed; type = x.type; all = each_of n list x.all }
