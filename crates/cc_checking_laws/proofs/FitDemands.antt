-- All that is asked of a definition is fit for a filling; so what the least filling does not serve, none serves.
use Rattle.std.proofs.Common.{◌≡◌, ℕ, suc, Bool, true, false, cond, List, [], ◌∷◌, ◌++◌, length, refl, sym, ap, ◌∙◌, subst, inl}
use Rattle.cc_base.specs.declared.code.Code.{Code}
use Rattle.cc_base.specs.declared.place.Place.{Place}
use Rattle.cc_core.specs.Shapes.{CapturingType, capturing}
use Rattle.cc_core.specs.Terms.{Note, Absent, Written, Own}
use Rattle.cc_core.specs.Contexts.{Bind, TermEntry, TypeEntry, Context, entry_of}
use Rattle.cc_core.specs.Occurrences.{MeetsInNote, without_holes}
use Rattle.cc_core.specs.Places.{spots}
use Rattle.cc_core.specs.WellFormed.{TermKind, kinds_of, is_well_formed_term, IsWellFormedNote, IsWellFormedContext}
use Rattle.cc_core.proofs.KindFacts.{IsKindedTerm, IsKindedTerm-from, IsKindedNote-from, IsKindedSet-test, IsKindedType}
use Rattle.cc_core.proofs.SubcapturingContexts.{IsKindedContext, IsKindedContext-from, IsKinded-added, IsKindedSet-added}
use Rattle.cc_checking.specs.Outcomes.{Asked, IsBelow, IsCapless, Placed, Found}
use Rattle.cc_checking.specs.Fillings.{Filling, IsLeast, IsOverGlobals, FailsFirst}
use Rattle.cc_checking.specs.Inference.{limited}
use Rattle.cc_checking.specs.Verdicts.{Definition, Checking, plain_checked, recursive_checked, IsChecked, HasAlgorithmicType}
use Rattle.cc_typing_laws.proofs.FormedContexts.{IsKindedContext-test}
use Rattle.cc_checking_laws.specs.FillingLaws.{AreGlobals, IsFit, AreFit}
use Rattle.cc_checking_laws.specs.CheckingLaws.{Fits}
use Rattle.cc_core.specs.Holes.{NoteHasNoHole, HolesAreOfParameters}
use Rattle.cc_checking_laws.proofs.Findings.{below_all}
use Rattle.cc_checking_laws.proofs.FoundFindings.{asked_of, Came, then_came, finds_came, found_finds, below_came, noted_came, avoided_came}
use Rattle.cc_checking_laws.proofs.ReadingKinds.{outermost}
use Rattle.cc_checking_laws.proofs.FoundTypes.{regular}
use Rattle.cc_checking_laws.proofs.Signatures.{signed}
use Rattle.cc_checking_laws.proofs.Tameness.{TameContext, closed_tame, closed_from, fit_below, types_fit}
use Rattle.cc_checking_laws.proofs.TameFindings.{AskedFits, AllAskedFit, asked_both, demands_asked, notes_tame, tame}
use Rattle.cc_checking_laws.proofs.OneVerdict.{failed_is_final}

pub globals_tame : (g : Context) → AreGlobals g → TameContext g
globals_tame [] a = tt
globals_tame (TermEntry s c ∷ g) a = ((closed_tame s (closed_from 0 s a.0), inl a.1), globals_tame g a.2)
globals_tame (TypeEntry b ∷ g) a = absurd a

pub note_has_none : (n : Note) → MeetsInNote without_holes 0 n → NoteHasNoHole n
note_has_none Absent m = tt
note_has_none (Written s c) m = m
note_has_none (Own s) m = m

-- over one entry less
fewer : (b : Bind) (g : Context) (qs : List Asked) → AllAskedFit (b ∷ g) qs → AllAskedFit g qs
fewer b g [] f = tt
fewer b g (IsBelow d ∷ qs) f = (fit_below g b d f.0, fewer b g qs f.1)
fewer b g (IsCapless c ∷ qs) f = (tt, fewer b g qs f.1)

fit_of : (g : Context) (q : Asked) → AskedFits g q → IsFit g q
fit_of g (IsBelow d) f = ((f.later, f.is), IsKindedContext-test d.context f.formed, IsKindedSet-test (kinds_of d.context) [] d.left f.left, f.right)
fit_of g (IsCapless c) f = tt

fit_among : (g : Context) (before : List Placed) (p : Placed) (after : List Placed) → AllAskedFit g (asked_of (before ++ p ∷ after)) → AskedFits g p.asked
fit_among g [] p after f = f.0
fit_among g (x ∷ before) p after f = fit_among g before p after f.1

are_fit : (g : Context) (list : List Placed) → IsWellFormedContext g × AreGlobals g → AllAskedFit g (asked_of list) → AreFit g list
are_fit g list ok f =
    record {
      formed = ok.0;
      globals_alone = ok.1;
      each = λ asked (before, p, after, is, same). subst (IsFit g) same (fit_of g p.asked (fit_among g before p after (subst (λ l. AllAskedFit g (asked_of l)) is f)));
    }

module _ (devices : ℕ) (globals : Context) (formed : IsKindedContext globals) (alone : AreGlobals globals) where
  plain_fit : (n : ℕ) (definition : Definition) (found : Checking) (qs : List Asked) → Came (plain_checked (limited n) globals definition) found qs
      → IsKindedTerm (kinds_of globals) [] definition.right → IsWellFormedNote globals definition.note → NoteHasNoHole definition.note → HolesAreOfParameters definition.right → AllAskedFit globals qs
  plain_fit n definition found qs c kt kn none holes =
      let k = then_came c in
      let k2 = then_came k.rest in
      let fin = finds_came k2.rest in
      let tg = globals_tame globals alone in
      let finding = found_finds n (length globals) (limited n).passes definition.right globals definition.places k.came in
      let notes = noted_came n (length globals) (spots definition.places).at globals definition.note k.value.type k2.came in
      let t = tame globals finding outermost formed kt tg holes in
      let reg = (regular globals finding outermost formed kt).0 in
      let m = notes_tame globals notes outermost formed tg reg (IsKindedNote-from (kinds_of globals) [] definition.note kn) none t.shape t.set in
      subst (AllAskedFit globals) (sym k.all) (asked_both globals k.first k.second t.fits
      (subst (AllAskedFit globals) (sym k2.all) (asked_both globals k2.first k2.second m.1.1 (subst (AllAskedFit globals) (sym fin.1) tt))))

  recursive_fit : (n : ℕ) (definition : Definition) (note : Note) (found : Checking) (qs : List Asked) → Came (recursive_checked (limited n) devices globals definition note) found qs
      → IsKindedTerm (TermKind ∷ kinds_of globals) [] definition.right → IsWellFormedNote globals note → MeetsInNote without_holes 0 note → HolesAreOfParameters definition.right → AllAskedFit globals qs
  recursive_fit n definition Absent found qs (list, e, q) kt kn none holes = cc
  recursive_fit n definition (Own s) found qs (list, e, q) kt kn none holes = cc
  recursive_fit n definition (Written s c) found qs came kt kn none holes =
      let k = then_came came in
      let a = avoided_came _ _ k.came in
      let k2 = then_came k.rest in
      let k3 = then_came k2.rest in
      let fin = finds_came k3.rest in
      let sig : CapturingType = k.value in
      let sg = signed devices globals globals (λ q b h. h) formed formed alone (capturing s c) sig (IsKindedNote-from (kinds_of globals) [] (Written s c) kn) kn a.0 in
      let closed = sg.closed none in
      let base : Context = entry_of sig ∷ globals in
      let kbase : IsKindedContext base = (sg.kinded, formed) in
      let tg : TameContext base = ((closed_tame sig.shape (closed_from 0 sig.shape closed.0), inl closed.1), globals_tame globals alone) in
      let finding = found_finds n (suc (length globals)) (limited n).passes definition.right base definition.places k2.came in
      let b = below_came n (spots definition.places).at base k2.value.type sig k3.came in
      let t = tame base finding outermost kbase kt tg holes in
      let reg = (regular base finding outermost kbase kt).0 in
      let ksig : IsKindedType (kinds_of base) [] sig = (IsKinded-added TermKind (kinds_of globals) [] sig.shape sg.kinded.0, IsKindedSet-added TermKind (kinds_of globals) [] sig.set sg.kinded.1) in
      let ds = types_fit b.1.0 base k2.value.type sig b.0 b.1.1 kbase tg reg ksig t.shape (closed_from 0 sig.shape closed.0) (inl closed.1) in
      subst (AllAskedFit globals) (sym (k.all ∙ ap (λ l. l ++ k.second) a.1))
      (subst (AllAskedFit globals) (sym k2.all) (asked_both globals k2.first k2.second (fewer (entry_of sig) globals k2.first t.fits)
      (subst (AllAskedFit globals) (sym (k3.all ∙ ap (λ l. l ++ k3.second) b.2 ∙ ap (λ l. below_all b.0 ++ l) fin.1)) (fewer (entry_of sig) globals (below_all b.0 ++ []) (demands_asked outermost b.0 ds)))))

by_kind : (b : Bool) (devices : ℕ) (globals : Context) (definition : Definition) (n : ℕ) (found : Checking) (list : List Placed) → IsKindedContext globals → AreGlobals globals
    → cond b (recursive_checked (limited n) devices globals definition definition.note) (plain_checked (limited n) globals definition) ≡ Found found list
    → is_well_formed_term (cond b (TermKind ∷ kinds_of globals) (kinds_of globals)) [] definition.right ≡ true
    → IsWellFormedNote globals definition.note → MeetsInNote without_holes 0 definition.note → HolesAreOfParameters definition.right → AllAskedFit globals (asked_of list)
by_kind true devices globals definition n found list formed alone is right kn none holes =
    recursive_fit devices globals formed alone n definition definition.note found (asked_of list) (list, is, refl) (IsKindedTerm-from (TermKind ∷ kinds_of globals) [] definition.right right) kn none holes
by_kind false devices globals definition n found list formed alone is right kn none holes =
    plain_fit devices globals formed alone n definition found (asked_of list) (list, is, refl) (IsKindedTerm-from (kinds_of globals) [] definition.right right) kn (note_has_none definition.note none) holes

pub asked_is_fit : (devices : ℕ) (globals : Context) (definition : Definition) (found : Checking) (asked : List Placed) → Fits globals definition → HolesAreOfParameters definition.right
    → IsChecked devices globals definition (Found found asked) → AreFit globals asked
asked_is_fit devices globals definition found asked fits holes (n, is, done) =
    are_fit globals asked (fits.formed, fits.globals_alone)
    (by_kind definition.recursive devices globals definition n found asked (IsKindedContext-from globals fits.formed) fits.globals_alone is fits.right_formed fits.note_formed fits.note_closed holes)

pub failed_demands_are_final : (devices : ℕ) (globals : Context) (definition : Definition) (found : Checking) (asked : List Placed) (code : Code) (at : Place) (least filling : Filling)
    → Fits globals definition → HolesAreOfParameters definition.right → IsChecked devices globals definition (Found found asked) → IsLeast (length globals) asked least → FailsFirst least asked code at → IsOverGlobals (length globals) filling
    → HasAlgorithmicType devices globals definition filling → ⊥
failed_demands_are_final devices globals definition found asked code at least filling fits holes c is fails over typed =
    failed_is_final devices globals definition found asked code at least filling c (asked_is_fit devices globals definition found asked fits holes c) is fails over typed
