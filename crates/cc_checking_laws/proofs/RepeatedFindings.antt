-- Where a filling serves all that is asked of a term, the function infers the completed and filled term again.
use Rattle.std.proofs.Common.{◌≡◌, ℕ, ◌<◌, ◌≤◌, List, [], ◌∷◌, ◌++◌, length, Some, refl, sym, subst, arith}
use Rattle.cc_core.specs.Contexts.{Context, lookup}
use Rattle.cc_core.specs.WellFormed.{Kind, TermKind, kinds_of, kind_of}
use Rattle.cc_core.proofs.KindFacts.{IsKindedTerm-from}
use Rattle.cc_core.proofs.Lookups.{lookup-older}
use Rattle.cc_core.proofs.SubcapturingContexts.{IsKindedContext-from}
use Rattle.cc_checking.specs.Outcomes.{Placed}
use Rattle.cc_checking.specs.Inference.{limited}
use Rattle.cc_checking_laws.specs.RepetitionLaws.{AllHold, FilledTermsAreInferredAgain}
use Rattle.cc_checking_laws.proofs.FoundFindings.{asked_of, found_finds}
use Rattle.cc_checking_laws.proofs.ReadingKinds.{outermost}
use Rattle.cc_checking_laws.proofs.CheckedDefinitions.{all_terms}
use Rattle.cc_checking_laws.proofs.FilledSubtyping.{serves_asked}
use Rattle.cc_checking_laws.proofs.FilledComparisons.{EachHolds}
use Rattle.cc_checking_laws.proofs.FilledFindings.{fills}
use Rattle.cc_checking_laws.proofs.ReachedFindings.{reaches}

placed_hold : (list : List Placed) → EachHolds (asked_of list) → AllHold list
placed_hold [] h = tt
placed_hold (p ∷ list) h = (h.0, placed_hold list h.1)

kinds_later : (own globals : Context) (p : ℕ) (k : Kind) → lookup (kinds_of globals) p ≡ Some k → lookup (kinds_of (own ++ globals)) p ≡ Some k
kinds_later [] globals p k e = e
kinds_later (b ∷ own) globals p k e = lookup-older (kind_of b) (kinds_of (own ++ globals)) p k (kinds_later own globals p k e)

longer : (own globals : Context) → length globals ≤ length (own ++ globals)
longer [] globals = omega arith
longer (b ∷ own) globals = let l = longer own globals in omega arith

pub filled_again : FilledTermsAreInferredAgain
filled_again globals own term places places' found asked f alone formed term_formed (n, is, done) over served =
    let base : Context = own ++ globals in
    let terms : (p : ℕ) → p < length globals → lookup (kinds_of base) p ≡ Some TermKind = λ p h. kinds_later own globals p TermKind (all_terms globals alone p h) in
    let finding = found_finds n (length base) (limited n).passes term base places (asked, is, refl) in
    let again = fills base (length globals) (longer own globals) f over terms finding outermost (IsKindedContext-from base formed) (IsKindedTerm-from (kinds_of base) [] term term_formed) (serves_asked f asked served) in
    let reached = reaches (length base) again.1 places' in
    let came = reached.1 reached.0 (omega arith) in
    (reached.0, came.0, came.1, placed_hold came.0 (subst EachHolds (sym came.2) again.2))
