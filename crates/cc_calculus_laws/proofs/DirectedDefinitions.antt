-- Definitions: an algorithmic type is a directed one, and so what is accepted, and what is refused.
use Rattle.std.proofs.Common.{◌≡◌, ◌↔◌, ℕ, suc, ◌+◌, ◌≤◌, Bool, true, false, cond, List, [], ◌∷◌, ◌++◌, length, Some, None, refl, sym, ap, ◌∙◌, subst, inl, arith}
use Rattle.cc_base.specs.declared.code.Code.{Code}
use Rattle.cc_base.specs.declared.code.Code.TheVariants.{E17}
use Rattle.cc_base.specs.declared.place.Place.{Place}
use Rattle.cc_core.specs.Shapes.{CapturingType, capturing}
use Rattle.cc_core.specs.Terms.{Note, Absent, Written, Own}
use Rattle.cc_core.specs.Contexts.{Context, entry_of}
use Rattle.cc_core.specs.Occurrences.{MeetsInNote, without_holes}
use Rattle.cc_core.specs.Holes.{HolesAreOfParameters}
use Rattle.cc_core.specs.Places.{spots}
use Rattle.cc_core.specs.WellFormed.{TermKind, kinds_of, is_well_formed_term, IsWellFormedNote}
use Rattle.cc_core.proofs.KindFacts.{IsKindedType, IsKindedTerm, IsKindedNote-from, IsKindedTerm-from}
use Rattle.cc_core.proofs.SubcapturingContexts.{IsKindedContext, IsKindedContext-from, IsKinded-added, IsKindedSet-added}
use Rattle.cc_checking.specs.Comparison.{type_comparison}
use Rattle.cc_checking.specs.Outcomes.{Asked, Placed, Found, found_or}
use Rattle.cc_checking.specs.Fillings.{Filling, AllServed, IsOverGlobals}
use Rattle.cc_checking.specs.Inference.{limited}
use Rattle.cc_checking.specs.Verdicts.{Definition, Checking, checking, signature_under, plain_checked, recursive_checked, checked, Accepted, Verdict, IsAccepted, IsRefused, HasVerdict, HasAlgorithmicType}
use Rattle.cc_checking_laws.specs.CheckingLaws.{Fits}
use Rattle.cc_checking_laws.proofs.Findings.{below_all}
use Rattle.cc_checking_laws.proofs.FoundFindings.{asked_of, Came, then_came, finds_came, below_came, noted_came, avoided_came}
use Rattle.cc_checking_laws.proofs.ReachedFindings.{then_reaches}
use Rattle.cc_checking_laws.proofs.ReadingKinds.{outermost}
use Rattle.cc_checking_laws.proofs.FoundTypes.{regular}
use Rattle.cc_checking_laws.proofs.FilledSubtyping.{Serves, serves_parts, serves_asked, types_below}
use Rattle.cc_checking_laws.proofs.LeastFillings.{least_over_globals}
use Rattle.cc_checking_laws.proofs.Tameness.{TameContext, closed_tame, closed_from}
use Rattle.cc_checking_laws.proofs.TameFindings.{tame}
use Rattle.cc_checking_laws.proofs.FitDemands.{globals_tame, note_has_none}
use Rattle.cc_checking_laws.proofs.Signatures.{signed}
use Rattle.cc_checking_laws.proofs.CheckedDefinitions.{accepted_parts}
use Rattle.cc_checking_laws.proofs.AlikeSignatures.{refused_has_no_type}
use Rattle.cc_checking_laws.proofs.VerdictsExist.{has_verdict}
use Rattle.cc_calculus_laws.specs.DirectedTypes.{HasDirectedDefinition, not_recursive, recursive}
use Rattle.cc_calculus_laws.proofs.FilledMatches.{types_match}
use Rattle.cc_calculus_laws.proofs.FoundDirected.{named_with, directed}
use Rattle.cc_calculus_laws.proofs.FoundWhereDirected.{finds_reached, compared_reached, types_later, notes_later, serves_alone, comes, finding, named_notes}

all_served : (f : Filling) (list : List Placed) → Serves f (asked_of list) → AllServed f list
all_served f [] s = tt
all_served f (p ∷ list) s = (s.0, all_served f list s.1)

serves_both : (f : Filling) (a b : List Asked) → Serves f a → Serves f b → Serves f (a ++ b)
serves_both f [] b p q = q
serves_both f (x ∷ a) b p q = (p.0, serves_both f a b p.1 q)

module _ (devices : ℕ) (globals : Context) (definition : Definition) (f : Filling) (over : IsOverGlobals (length globals) f) where
  -- what is checked has a directed type
  plain_directed : (n : ℕ) (found : Checking) (qs : List Asked) → definition.recursive ≡ false → Came (plain_checked (limited n) globals definition) found qs → Serves f qs
      → (signature : CapturingType) → signature_under f devices globals found ≡ Some signature → HasDirectedDefinition devices globals definition f
  plain_directed n found qs is c s signature signs =
      let k = then_came c in
      let k2 = then_came k.rest in
      let fin = finds_came k2.rest in
      let p = serves_parts f k.first k.second (subst (Serves f) k.all s) in
      let p2 = serves_parts f k2.first k2.second (subst (Serves f) k2.all p.1) in
      not_recursive is (directed n (length globals) (length globals) f over definition.right globals definition.places k.came p.0)
      (named_with n (length globals) (length globals) f over (noted_came n (length globals) (spots definition.places).at globals definition.note k.value.type k2.came) p2.0)
      (ap (λ (x : Checking). signature_under f devices globals x) (sym fin.0) ∙ signs)

  recursive_directed : (n : ℕ) (note : Note) (found : Checking) (qs : List Asked) → definition.recursive ≡ true → definition.note ≡ note → Came (recursive_checked (limited n) devices globals definition note) found qs
      → Serves f qs → HasDirectedDefinition devices globals definition f
  recursive_directed n Absent found qs is wrote (list, e, q) s = cc
  recursive_directed n (Own x) found qs is wrote (list, e, q) s = cc
  recursive_directed n (Written x c) found qs is wrote came s =
      let k = then_came came in
      let a = avoided_came _ _ k.came in
      let k2 = then_came k.rest in
      let k3 = then_came k2.rest in
      let p = serves_parts f k.first k.second (subst (Serves f) k.all s) in
      let p2 = serves_parts f k2.first k2.second (subst (Serves f) k2.all p.1) in
      let p3 = serves_parts f k3.first k3.second (subst (Serves f) k3.all p2.1) in
      let sig : CapturingType = k.value in
      let b = below_came n (spots definition.places).at (entry_of sig ∷ globals) k2.value.type sig k3.came in
      recursive is wrote a.0 (directed n (suc (length globals)) (length globals) f over definition.right (entry_of sig ∷ globals) definition.places k2.came p2.0)
      (types_below (length globals) f over (entry_of sig ∷ globals) k2.value.type sig b.0 b.1 (subst (Serves f) b.2 p3.0))

  by_kind : (b : Bool) → definition.recursive ≡ b → (n : ℕ) (found : Checking) (asked : List Placed)
      → cond b (recursive_checked (limited n) devices globals definition definition.note) (plain_checked (limited n) globals definition) ≡ Found found asked → AllServed f asked
      → (signature : CapturingType) → signature_under f devices globals found ≡ Some signature → HasDirectedDefinition devices globals definition f
  by_kind true is n found asked e all signature signs = recursive_directed n definition.note found (asked_of asked) is refl (asked, e, refl) (serves_asked f asked all)
  by_kind false is n found asked e all signature signs = plain_directed n found (asked_of asked) is (asked, e, refl) (serves_asked f asked all) signature signs

  pub algorithmic_directed : HasAlgorithmicType devices globals definition f → HasDirectedDefinition devices globals definition f
  algorithmic_directed (found, asked, (n, is, done), all, (signature, signs)) = by_kind definition.recursive refl n found asked is all signature signs

  -- and what has one is checked
  module _ (fits : Fits globals definition) (holes : HolesAreOfParameters definition.right) where
    formed : IsKindedContext globals
    formed = IsKindedContext-from globals fits.formed

    -- the right side is well formed with the names that it sees
    right_kinded : (b : Bool) → definition.recursive ≡ b → IsKindedTerm (cond b (TermKind ∷ kinds_of globals) (kinds_of globals)) [] definition.right
    right_kinded b is =
        IsKindedTerm-from (cond b (TermKind ∷ kinds_of globals) (kinds_of globals)) [] definition.right
        (subst (λ x. is_well_formed_term (cond x (TermKind ∷ kinds_of globals) (kinds_of globals)) [] definition.right ≡ true) is fits.right_formed)

    -- what the steps come to, for a definition of its kind
    kind_checked : (b : Bool) → definition.recursive ≡ b → (n : ℕ) {found : Checking} {qs : List Asked}
        → Came (cond b (recursive_checked (limited n) devices globals definition definition.note) (plain_checked (limited n) globals definition)) found qs
        → Came (checked (limited n) devices globals definition) found qs
    kind_checked b is n {found} {qs} c =
        subst (λ x. Came (cond x (recursive_checked (limited n) devices globals definition definition.note) (plain_checked (limited n) globals definition)) found qs) (sym is) c

    algorithmic : (n : ℕ) (found : Checking) (qs : List Asked) → Came (checked (limited n) devices globals definition) found qs → Serves f qs
        → (signature : CapturingType) → signature_under f devices globals found ≡ Some signature → HasAlgorithmicType devices globals definition f
    algorithmic n found qs (list, e, q) s signature signs = (found, list, (n, e, λ none. cc), all_served f list (subst (Serves f) (sym q) s), (signature, signs))

    directed_algorithmic : HasDirectedDefinition devices globals definition f → HasAlgorithmicType devices globals definition f
    directed_algorithmic (not_recursive {completed = t} {note = note} {found = found} {named = named} {signature = signature} is d nm signs) =
        let kt = right_kinded false is in
        let tg = globals_tame globals fits.globals_alone in
        let kn = IsKindedNote-from (kinds_of globals) [] definition.note fits.note_formed in
        let ca = comes globals (length globals) f over d outermost formed tg kt holes definition.places in
        let fa = finding globals (length globals) f over ca in
        let reg = (regular globals fa outermost formed kt).0 in
        let ta = tame globals fa outermost formed kt tg holes in
        let nt = named_notes globals (length globals) f over outermost formed tg reg kn (note_has_none definition.note fits.note_closed) ta.shape nm in
        let k = notes_later nt.1 in
        let n = ca.steps + k.0 in
        let la : ca.steps ≤ n = omega arith in
        let lk : k.0 ≤ n = omega arith in
        algorithmic n (checking note t named None) (ca.asked ++ (nt.0 ++ []))
        (kind_checked false is n (then_reaches _ (ca.came n la) (then_reaches _ (k.1 n lk (spots definition.places).at) (finds_reached _) refl) refl))
        (serves_both f ca.asked (nt.0 ++ []) ca.serves (serves_alone f nt.0 nt.2)) signature signs
    directed_algorithmic (recursive {shape = x} {set = c} {completed = t} {found = found} {signature = sig} is wrote signs d below) =
        let kn : IsWellFormedNote globals (Written x c) = subst (IsWellFormedNote globals) wrote fits.note_formed in
        let none : MeetsInNote without_holes 0 (Written x c) = subst (MeetsInNote without_holes 0) wrote fits.note_closed in
        let sg = signed devices globals globals (λ q b h. h) formed formed fits.globals_alone (capturing x c) sig (IsKindedNote-from (kinds_of globals) [] (Written x c) kn) kn signs in
        let closed = sg.closed none in
        let base : Context = entry_of sig ∷ globals in
        let kbase : IsKindedContext base = (sg.kinded, formed) in
        let tg : TameContext base = ((closed_tame sig.shape (closed_from 0 sig.shape closed.0), inl closed.1), globals_tame globals fits.globals_alone) in
        let kt = right_kinded true is in
        let ca = comes base (length globals) f over d outermost kbase tg kt holes definition.places in
        let fa = finding base (length globals) f over ca in
        let reg = (regular base fa outermost kbase kt).0 in
        let ta = tame base fa outermost kbase kt tg holes in
        let ksig : IsKindedType (kinds_of base) [] sig = (IsKinded-added TermKind (kinds_of globals) [] sig.shape sg.kinded.0, IsKindedSet-added TermKind (kinds_of globals) [] sig.set sg.kinded.1) in
        let m = types_match (length globals) f over base found sig kbase tg reg ksig ta.shape (closed_tame sig.shape (closed_from 0 sig.shape closed.0)) below in
        let l = types_later base found sig m.1 in
        let n = ca.steps + l.0 in
        let la : ca.steps ≤ n = omega arith in
        let ll : l.0 ≤ n = omega arith in
        let steps : Came (recursive_checked (limited n) devices globals definition (Written x c)) (checking (Written sig.shape sig.set) t sig (Some sig)) ([] ++ (ca.asked ++ (below_all m.0 ++ []))) =
        then_reaches _ ([], ap (found_or E17 definition.name_at) signs, refl)
        (then_reaches _ (ca.came n la) (then_reaches _ (compared_reached (spots definition.places).at (type_comparison n base found sig) m.0 (l.1 n ll)) (finds_reached _) refl) refl) refl in
        algorithmic n (checking (Written sig.shape sig.set) t sig (Some sig)) (ca.asked ++ (below_all m.0 ++ []))
        (kind_checked true is n
        (subst (λ y. Came (recursive_checked (limited n) devices globals definition y) (checking (Written sig.shape sig.set) t sig (Some sig)) (ca.asked ++ (below_all m.0 ++ []))) (sym wrote) steps))
        (serves_both f ca.asked (below_all m.0 ++ []) ca.serves (serves_alone f (below_all m.0) m.2)) sig refl

    pub same_types : HasAlgorithmicType devices globals definition f ↔ HasDirectedDefinition devices globals definition f
    same_types = (algorithmic_directed, directed_algorithmic)

module _ (devices : ℕ) (globals : Context) (definition : Definition) (fits : Fits globals definition) (holes : HolesAreOfParameters definition.right) where
  abbrev SomeFillingTypes : Type 0
  SomeFillingTypes = (filling : Filling) × IsOverGlobals (length globals) filling × HasDirectedDefinition devices globals definition filling

  accepted_types : (accepted : Accepted) → HasVerdict devices globals definition (IsAccepted accepted) → SomeFillingTypes
  accepted_types accepted verdict =
      let p = accepted_parts devices globals definition accepted verdict in
      let over = least_over_globals (length globals) p.asked p.filling p.least in
      (p.filling, over, algorithmic_directed devices globals definition p.filling over (p.found, p.asked, (p.steps, p.is, λ none. cc), p.served, (p.signature, p.signs)))

  refused_types : (code : Code) (at : Place) → HasVerdict devices globals definition (IsRefused code at) → SomeFillingTypes → ⊥
  refused_types code at verdict (filling, over, d) =
      refused_has_no_type devices globals definition code at filling fits holes verdict over ((same_types devices globals definition filling over fits holes).1 d)

  pub accepted_where : ((accepted : Accepted) × HasVerdict devices globals definition (IsAccepted accepted)) ↔ SomeFillingTypes
  accepted_where = (λ (accepted, verdict). accepted_types accepted verdict, λ types. by_verdict (has_verdict devices globals definition fits holes) types)
    where
      by_verdict : ((v : Verdict) × HasVerdict devices globals definition v) → SomeFillingTypes → (accepted : Accepted) × HasVerdict devices globals definition (IsAccepted accepted)
      by_verdict (IsAccepted accepted, h) types = (accepted, h)
      by_verdict (IsRefused code at, h) types = absurd (refused_types code at h types)

  pub refused_where : ((code : Code) × (at : Place) × HasVerdict devices globals definition (IsRefused code at))
      ↔ ((filling : Filling) → IsOverGlobals (length globals) filling → HasDirectedDefinition devices globals definition filling → ⊥)
  refused_where = (
    λ (code, at, verdict) filling over d. refused_types code at verdict (filling, over, d),
    λ none. by_verdict (has_verdict devices globals definition fits holes) none,
  )
    where
      by_verdict : ((v : Verdict) × HasVerdict devices globals definition v) → ((filling : Filling) → IsOverGlobals (length globals) filling → HasDirectedDefinition devices globals definition filling → ⊥)
          → (code : Code) × (at : Place) × HasVerdict devices globals definition (IsRefused code at)
      by_verdict (IsAccepted accepted, h) none = let t = accepted_types accepted h in absurd (none t.0 t.1 t.2)
      by_verdict (IsRefused code at, h) none = (code, at, h)
