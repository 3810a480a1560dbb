-- A directed type is a type by the declarative rules.
use Rattle.std.proofs.Common.{[], length, subst, arith}
use Rattle.cc_base.specs.declared.place.Place.{Place}
use Rattle.cc_core.specs.Shapes.{CapturingType}
use Rattle.cc_core.specs.Terms.{Term}
use Rattle.cc_core.specs.Contexts.{Context}
use Rattle.cc_core.specs.Substitution.{filled, filled_set, filled_type, filled_term}
use Rattle.cc_core.specs.Places.{Places, Alone, spots_at}
use Rattle.cc_core.specs.Reading.{read_term}
use Rattle.cc_core.specs.Holes.{HolesAreOfParameters}
use Rattle.cc_core.specs.WellFormed.{kinds_of, IsWellFormedContext, IsWellFormedTerm}
use Rattle.cc_core.specs.Typing.{HasTyping, HasType}
use Rattle.cc_core.proofs.KindFacts.{IsKindedType, IsKindedTerm, IsKindedTerm-from, IsKindedTerm-test, IsKindedType-test}
use Rattle.cc_core.proofs.Sorts.{TypeSort, TermSort}
use Rattle.cc_core.proofs.SubcapturingContexts.{IsKindedContext-from}
use Rattle.cc_checking.specs.Fillings.{Filling, IsOverGlobals}
use Rattle.cc_checking_laws.specs.FillingLaws.{AreGlobals}
use Rattle.cc_checking_laws.proofs.ReadingKinds.{outermost}
use Rattle.cc_checking_laws.proofs.FoundTypes.{regular}
use Rattle.cc_checking_laws.proofs.LeastFillings.{globals_still}
use Rattle.cc_checking_laws.proofs.FilledTyping.{fill_kinded}
use Rattle.cc_checking_laws.proofs.FilledTerms.{filled_typed}
use Rattle.cc_checking_laws.proofs.FitDemands.{globals_tame}
use Rattle.cc_checking_laws.proofs.CheckedDefinitions.{all_terms, read_itself}
use Rattle.cc_calculus_laws.specs.DirectedTypes.{HasDirectedType}
use Rattle.cc_calculus_laws.proofs.FoundWhereDirected.{comes, finding}

-- any places serve
abbrev anywhere : Places
anywhere =
    let at : Place = record { line = 1; col = 1 } in
    Alone (spots_at at at at)

pub directed_typed : (globals : Context) (term completed : Term) (type : CapturingType) (f : Filling) → IsWellFormedContext globals → AreGlobals globals → IsWellFormedTerm globals term → HolesAreOfParameters term
    → IsOverGlobals (length globals) f → HasDirectedType f (length globals) globals term completed type → HasType globals (filled_term f completed) (filled_type f type)
directed_typed globals term completed type f formed alone term_formed holes over d =
    let k = IsKindedContext-from globals formed in
    let kt = IsKindedTerm-from (kinds_of globals) [] term term_formed in
    let c = comes globals (length globals) f over d outermost k (globals_tame globals alone) kt holes anywhere in
    let found = finding globals (length globals) f over c in
    let terms = all_terms globals alone in
    let still = globals_still f globals alone in
    let reg = regular globals found outermost k kt in
    let kterm = subst (λ g. IsKindedTerm (kinds_of g) [] (filled_term f completed)) still (fill_kinded globals (length globals) (omega arith) f over terms outermost k TermSort completed reg.1) in
    let ktype = subst (λ g. IsKindedType (kinds_of g) [] (filled_type f type)) still (fill_kinded globals (length globals) (omega arith) f over terms outermost k TypeSort type reg.0) in
    let typing = filled_typed globals (length globals) (omega arith) f over terms found outermost k kt c.serves in
    let own : HasTyping globals (filled_term f completed) (filled f type.shape) (filled_set f type.set) =
    subst (λ t. HasTyping globals t (filled f type.shape) (filled_set f type.set)) (read_itself globals (filled_term f completed) kterm)
    (subst (λ g. HasTyping g (read_term (length globals) (filled_term f completed)) (filled f type.shape) (filled_set f type.set)) still typing) in
    record { context_formed = formed; term_formed = IsKindedTerm-test (kinds_of globals) [] (filled_term f completed) kterm; type_formed = IsKindedType-test (kinds_of globals) [] (filled_type f type) ktype; typing = own }
