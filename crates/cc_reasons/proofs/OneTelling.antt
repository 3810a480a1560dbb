-- A reason is told in one way.
use Rattle.std.proofs.Common.{◌≡◌, ℕ, Bool, false, List, ◌∷◌, ◌++◌, IsTrue, refl, sym, ap, subst, ◌∙◌}
use Rattle.std.specs.Prelude.{codes}
use Rattle.cc_capture.specs.declared.var.Elem.{Elem}
use Rattle.cc_capture.specs.Elements.{same_element}
use Rattle.cc_capture.specs.ElementOrder.{same_element-true, same_element-itself}
use Rattle.cc_capture.specs.Sets.{Set}
use Rattle.cc_core.specs.Contexts.{Context}
use Rattle.cc_mnf.specs.Scopes.{Name}
use Rattle.cc_reasons.specs.Causes.{Cause, WrongHead, WrongType, WrongShape, NothingThere, Unavoidable, TooLarge}
use Rattle.cc_reasons.specs.DefinitionReasons.{OfStep, NotBelow, WithCap}
use Rattle.cc_reasons.specs.LineLaws.{LinesAreUnique}
use Rattle.cc_reasons.specs.ReasonTexts.{with_locals, element_there, set_there, shape_there, type_there, within_lines, cause_lines, IsCompared, AreBeyond, none, is_below, is_beyond, is_end, LeadsOn, spaced, AreChainLines, no_more, at_end, leading}
use Rattle.cc_reasons.proofs.SettledMismatches.{one_mismatch}
use Rattle.cc_reasons.proofs.ShortestChains.{first_shortest_is_one}

pub beyond_is_one : {context : Context} {right : Set} {list one other : List Elem} → AreBeyond context right list one → AreBeyond context right list other → one ≡ other
beyond_is_one none none = refl
beyond_is_one (is_below below more) (is_below below' more') = beyond_is_one more more'
beyond_is_one (is_below below more) (is_beyond not more') = absurd (not below)
beyond_is_one (is_beyond not more) (is_below below' more') = absurd (not below')
beyond_is_one (is_beyond {e = e} not more) (is_beyond not' more') = ap (λ told. e ∷ told) (beyond_is_one more more')

entries_are_one : (devices : ℕ) (context : Context) (right : Set) (entry other : Elem → List Elem) → LeadsOn devices context right entry → LeadsOn devices context right other
    → entry ≡ other
entries_are_one devices context right entry other leads leads' = λ i e. beyond_is_one (leads e) (leads' e) i

not_both : {A : Type 0} {b : Bool} → IsTrue b → b ≡ false → A
not_both is not = cc

tail_is : {one other : Elem} {rest behind : List Elem} → one ∷ rest ≡ other ∷ behind → rest ≡ behind
tail_is e = cc

chains_are_one : {devices : ℕ} {names : List Name} {context : Context} {entry : Elem → List Elem} {list : List Elem} {one other : List (List ℕ)}
    → AreChainLines devices names context entry list one → AreChainLines devices names context entry list other → one ≡ other
chains_are_one no_more no_more = refl
chains_are_one (at_end ends more) (at_end ends' more') = chains_are_one more more'
chains_are_one (at_end ends more) (leading behind not first more') = not_both ends not
chains_are_one (leading behind not first more) (at_end ends more') = not_both ends not
chains_are_one {devices = devices} {names = names} {context = context} {entry = entry} (leading {e = e} behind not first more) (leading behind' not' first' more') =
    let same : behind ≡ behind' =
    tail_is (first_shortest_is_one same_element same_element-true same_element-itself entry (is_end devices) e (e ∷ behind) (e ∷ behind') first first') in
    let lines = chains_are_one more more' in
    λ i. (element_there names context e ++ codes ":" ++ spaced names context (same i)) ∷ lines i

causes_are_one : (names : List Name) (n m : ℕ) (cause : Cause) → IsCompared n cause → IsCompared m cause → cause_lines n names cause ≡ cause_lines m names cause
causes_are_one names n m (WrongHead scene found wanted) one other = refl
causes_are_one names n m (WrongType scene found wanted) one other =
    ap
    (λ parts. (codes "found " ++ type_there (with_locals names scene.locals) scene.context found)
    ∷ (codes "wanted " ++ type_there (with_locals names scene.locals) scene.context wanted)
    ∷ within_lines (with_locals names scene.locals) found.shape wanted.shape parts)
    (one_mismatch n m scene.context found.shape wanted.shape one other)
causes_are_one names n m (WrongShape scene found wanted) one other =
    ap
    (λ parts. (codes "found " ++ shape_there (with_locals names scene.locals) scene.context found)
    ∷ (codes "wanted " ++ shape_there (with_locals names scene.locals) scene.context wanted)
    ∷ within_lines (with_locals names scene.locals) found wanted parts)
    (one_mismatch n m scene.context found wanted one other)
causes_are_one names n m NothingThere one other = refl
causes_are_one names n m (Unavoidable scene position type) one other = refl
causes_are_one names n m (TooLarge scene type) one other = refl

pub lines_are_unique : LinesAreUnique
lines_are_unique devices names (OfStep cause) one other (n, compared, is) (m, compared', is') =
    is ∙ causes_are_one names n m cause compared compared' ∙ sym is'
lines_are_unique devices names (NotBelow scene left right) one other (captured, entry, chains, beyond, leads, told, is) (captured', entry', chains', beyond', leads', told', is') =
    let listed : captured' ≡ captured = beyond_is_one beyond' beyond in
    let linked : entry' ≡ entry = entries_are_one devices scene.context right entry' entry leads' leads in
    let same : chains ≡ chains' =
    chains_are_one told
    (subst (λ list. AreChainLines devices (with_locals names scene.locals) scene.context entry list chains') listed
    (subst (λ (links : Elem → List Elem). AreChainLines devices (with_locals names scene.locals) scene.context links captured' chains') linked told')) in
    is
    ∙ (λ i. (codes "captured" ++ spaced (with_locals names scene.locals) scene.context (sym listed i))
    ∷ (codes "allowed " ++ set_there (with_locals names scene.locals) scene.context right) ∷ same i)
    ∙ sym is'
lines_are_unique devices names (WithCap locals set) one other is is' = is ∙ sym is'
