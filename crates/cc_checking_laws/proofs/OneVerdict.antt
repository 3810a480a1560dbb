-- A definition has one verdict, and what is refused has no algorithmic type under any filling.
use Rattle.std.proofs.Common.{◌≡◌, ◌⊎◌, ℕ, suc, ◌+◌, ◌≤◌, Bool, true, false, cond, List, [], ◌∷◌, ◌++◌, length, refl, sym, ap, ◌∙◌, subst, inl, inr, arith}
use Rattle.cc_base.specs.declared.code.Code.{Code}
use Rattle.cc_base.specs.declared.place.Place.{Place}
use Rattle.cc_core.specs.Shapes.{CapturingType}
use Rattle.cc_core.specs.Terms.{Note, Absent, Written, Own}
use Rattle.cc_core.specs.Contexts.{Context, entry_of}
use Rattle.cc_core.specs.Places.{spots}
use Rattle.cc_checking.specs.Comparison.{comparison}
use Rattle.cc_checking.specs.Outcomes.{Placed, Outcome, NoAnswer, Refused, Found}
use Rattle.cc_checking.specs.Fillings.{Filling, IsServed, AllServed, IsLeast, IsOverGlobals, FailsFirst, code_of_failure}
use Rattle.cc_checking.specs.Inference.{limited}
use Rattle.cc_checking.specs.Verdicts.{Definition, Checking, plain_checked, recursion_checked, recursive_checked, checked, IsChecked, Verdict, IsRefused, signature_under, signature_verdict, Deserves, HasVerdict, HasAlgorithmicType}
use Rattle.cc_typing_laws.proofs.ComparisonLemmas.{comparison_keeps}
use Rattle.cc_checking_laws.specs.FillingLaws.{AreFit}
use Rattle.cc_checking_laws.proofs.OneOutcome.{Stays, stays_then, stays_below, stays_noted, inferred_stays, same_once}
use Rattle.cc_checking_laws.proofs.LeastFillings.{least_alike, least_serves}

-- with more steps the same is found
module _ (few many : ℕ) (more : few ≤ many) where
  plain_stays : (globals : Context) (definition : Definition) → Stays (plain_checked (limited few) globals definition) (plain_checked (limited many) globals definition)
  plain_stays globals definition =
      stays_then (inferred_stays (comparison few) (comparison many) (comparison_keeps few many more) (limited few).passes definition.right (length globals) globals definition.places)
      (λ r. stays_then (stays_noted (comparison few) (comparison many) (comparison_keeps few many more) (length globals) (spots definition.places).at globals definition.note r.type) (λ m. inr refl))

  recursion_stays : (globals : Context) (definition : Definition) (signature : CapturingType) → Stays (recursion_checked (limited few) globals definition signature) (recursion_checked (limited many) globals definition signature)
  recursion_stays globals definition signature =
      stays_then (inferred_stays (comparison few) (comparison many) (comparison_keeps few many more) (limited few).passes definition.right (suc (length globals)) (entry_of signature ∷ globals) definition.places)
      (λ r. stays_then (stays_below (comparison few) (comparison many) (comparison_keeps few many more) (spots definition.places).at (entry_of signature ∷ globals) r.type signature) (λ _. inr refl))

  recursive_stays : (devices : ℕ) (globals : Context) (definition : Definition) (note : Note) → Stays (recursive_checked (limited few) devices globals definition note) (recursive_checked (limited many) devices globals definition note)
  recursive_stays devices globals definition (Written s c) = stays_then (inr refl) (λ signature. recursion_stays globals definition signature)
  recursive_stays devices globals definition Absent = inr refl
  recursive_stays devices globals definition (Own s) = inr refl

  checked_stays : (devices : ℕ) (globals : Context) (definition : Definition) → Stays (checked (limited few) devices globals definition) (checked (limited many) devices globals definition)
  checked_stays devices globals definition = by_kind definition.recursive
    where
      by_kind : (b : Bool) → Stays (cond b (recursive_checked (limited few) devices globals definition definition.note) (plain_checked (limited few) globals definition))
          (cond b (recursive_checked (limited many) devices globals definition definition.note) (plain_checked (limited many) globals definition))
      by_kind true = recursive_stays devices globals definition definition.note
      by_kind false = plain_stays globals definition

pub one_checking : (devices : ℕ) (globals : Context) (definition : Definition) (a b : Outcome Checking) → IsChecked devices globals definition a → IsChecked devices globals definition b → a ≡ b
one_checking devices globals definition a b (n, p, done) (m, q, done') =
    same_once (λ k. checked (limited k) devices globals definition) n m
    (checked_stays n (n + m) (omega arith) devices globals definition) (checked_stays m (n + m) (omega arith) devices globals definition) p q done done'

-- the first that fails is one
first_alike : (f : Filling) (before before' : List Placed) (p p' : Placed) (after after' : List Placed) → before ++ p ∷ after ≡ before' ++ p' ∷ after'
    → AllServed f before → (IsServed f p.asked → ⊥) → AllServed f before' → (IsServed f p'.asked → ⊥) → p ≡ p'
first_alike f [] [] p p' after after' e s n s' n' = cc
first_alike f [] (x ∷ before') p p' after after' e s n s' n' = let same : x ≡ p = cc in absurd (n (subst (λ (y : Placed). IsServed f y.asked) same s'.0))
first_alike f (x ∷ before) [] p p' after after' e s n s' n' = let same : x ≡ p' = cc in absurd (n' (subst (λ (y : Placed). IsServed f y.asked) same s.0))
first_alike f (x ∷ before) (y ∷ before') p p' after after' e s n s' n' =
    let rest : before ++ p ∷ after ≡ before' ++ p' ∷ after' = cc in first_alike f before before' p p' after after' rest s.1 n s'.1 n'

served_inside : (f : Filling) (before : List Placed) (p : Placed) (after : List Placed) → AllServed f (before ++ p ∷ after) → IsServed f p.asked
served_inside f [] p after all = all.0
served_inside f (x ∷ before) p after all = served_inside f before p after all.1

fails_or_serves : (f : Filling) (list : List Placed) (code : Code) (at : Place) → FailsFirst f list code at → AllServed f list → ⊥
fails_or_serves f list code at (before, p, after, is, all, fails, c, a) serves = fails (served_inside f before p after (subst (AllServed f) is serves))

one_failure : (f : Filling) (list : List Placed) (code code' : Code) (at at' : Place) → FailsFirst f list code at → FailsFirst f list code' at' → IsRefused code at ≡ IsRefused code' at'
one_failure f list code code' at at' (before, p, after, is, all, fails, c, a) (before', p', after', is', all', fails', c', a') =
    let same = first_alike f before before' p p' after after' (sym is ∙ is') all fails all' fails' in
    ap (λ k. IsRefused k at) (c ∙ ap (λ (x : Placed). code_of_failure x.asked) same ∙ sym c') ∙ ap (λ k. IsRefused code' k) (a ∙ ap (λ (x : Placed). x.at) same ∙ sym a')

deserves_one : (devices : ℕ) (globals : Context) (definition : Definition) (o : Outcome Checking) (v w : Verdict) → Deserves devices globals definition o v → Deserves devices globals definition o w → v ≡ w
deserves_one devices globals definition NoAnswer v w d d' = absurd d
deserves_one devices globals definition (Refused code at) v w d d' = d ∙ sym d'
deserves_one devices globals definition (Found found asked) v w (f, least, d) (f', least', d') =
    let alike : f' ≡ f = (λ i h. least_alike (length globals) asked f' f least' least h i) in
    compare d (subst (λ (k : Filling). ((code : Code) × (at : Place) × FailsFirst k asked code at × (w ≡ IsRefused code at)) ⊎ (AllServed k asked × (w ≡ signature_verdict k definition found (signature_under k devices globals found)))) alike d')
  where
    compare : ((code : Code) × (at : Place) × FailsFirst f asked code at × (v ≡ IsRefused code at)) ⊎ (AllServed f asked × (v ≡ signature_verdict f definition found (signature_under f devices globals found)))
        → ((code : Code) × (at : Place) × FailsFirst f asked code at × (w ≡ IsRefused code at)) ⊎ (AllServed f asked × (w ≡ signature_verdict f definition found (signature_under f devices globals found)))
        → v ≡ w
    compare (inl x) (inl y) = x.3 ∙ one_failure f asked x.0 y.0 x.1 y.1 x.2 y.2 ∙ sym y.3
    compare (inl x) (inr y) = absurd (fails_or_serves f asked x.0 x.1 x.2 y.0)
    compare (inr x) (inl y) = absurd (fails_or_serves f asked y.0 y.1 y.2 x.0)
    compare (inr x) (inr y) = x.1 ∙ sym y.1

pub one_verdict : (devices : ℕ) (globals : Context) (definition : Definition) (v w : Verdict) → HasVerdict devices globals definition v → HasVerdict devices globals definition w → v ≡ w
one_verdict devices globals definition v w (o, c, d) (o', c', d') =
    deserves_one devices globals definition o v w d (subst (λ x. Deserves devices globals definition x w) (one_checking devices globals definition o' o c' c) d')

-- what is refused while it is inferred has no type under any filling
pub refused_is_final : (devices : ℕ) (globals : Context) (definition : Definition) (code : Code) (at : Place) (filling : Filling)
    → IsChecked devices globals definition (Refused code at) → HasAlgorithmicType devices globals definition filling → ⊥
refused_is_final devices globals definition code at filling c (found, asked, is, all, signs) =
    let same = one_checking devices globals definition (Refused code at) (Found found asked) c is in cc

lists_of : {A : Type 0} {a b : A} {x y : List Placed} → Found a x ≡ Found b y → x ≡ y
lists_of e = cc

pub failed_is_final : (devices : ℕ) (globals : Context) (definition : Definition) (found : Checking) (asked : List Placed) (code : Code) (at : Place) (least filling : Filling)
    → IsChecked devices globals definition (Found found asked) → AreFit globals asked → IsLeast (length globals) asked least → FailsFirst least asked code at → IsOverGlobals (length globals) filling
    → HasAlgorithmicType devices globals definition filling → ⊥
failed_is_final devices globals definition found asked code at least filling c fit is fails over (found', asked', c', all, signs) =
    let same : asked' ≡ asked = lists_of (one_checking devices globals definition (Found found' asked') (Found found asked) c' c) in
    fails_or_serves least asked code at fails (least_serves globals asked fit least is filling over (subst (AllServed filling) same all))
