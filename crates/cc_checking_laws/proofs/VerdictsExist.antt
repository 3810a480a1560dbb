-- What is well formed has an outcome, a least filling and a verdict.
use Rattle.std.proofs.Common.{◌⊎◌, ℕ, List, length, refl, inl, inr}
use Rattle.cc_core.specs.Contexts.{Context}
use Rattle.cc_checking.specs.Outcomes.{Placed, Outcome, NoAnswer, Refused, Found}
use Rattle.cc_checking.specs.Fillings.{Filling, AllServed, IsLeast}
use Rattle.cc_checking.specs.Verdicts.{Definition, Checking, IsChecked, Verdict, IsRefused, signature_under, signature_verdict, HasVerdict}
use Rattle.cc_checking_laws.specs.CheckingLaws.{Fits}
use Rattle.cc_core.specs.Holes.{HolesAreOfParameters}
use Rattle.cc_checking_laws.proofs.FitDemands.{asked_is_fit}
use Rattle.cc_checking_laws.proofs.LeastFillings.{least_over_globals}
use Rattle.cc_checking_laws.proofs.ForcedElements.{least_exists}
use Rattle.cc_checking_laws.proofs.ServedDemands.{served_decided, SomeFails, first_failure}
use Rattle.cc_checking_laws.proofs.SettledTerms.{is_checked}

module _ (devices : ℕ) (globals : Context) (definition : Definition) where
  -- the verdict under the least filling
  judged : (found : Checking) (asked : List Placed) (least : Filling)
      → IsChecked devices globals definition (Found found asked) → IsLeast (length globals) asked least
      → SomeFails least asked ⊎ AllServed least asked
      → (verdict : Verdict) × HasVerdict devices globals definition verdict
  judged found asked least c is (inl (code, at, fails)) = (IsRefused code at, (Found found asked, c, (least, is, inl (code, at, fails, refl))))
  judged found asked least c is (inr all) =
      (signature_verdict least definition found (signature_under least devices globals found), (Found found asked, c, (least, is, inr (all, refl))))

  by_outcome : Fits globals definition → HolesAreOfParameters definition.right → (outcome : Outcome Checking)
      → IsChecked devices globals definition outcome
      → (verdict : Verdict) × HasVerdict devices globals definition verdict
  by_outcome fits holes NoAnswer (n, is, ends) = absurd (ends refl)
  by_outcome fits holes (Refused code at) c = (IsRefused code at, (Refused code at, c, refl))
  by_outcome fits holes (Found found asked) c =
      let fit = asked_is_fit devices globals definition found asked fits holes c in
      let least = least_exists globals asked fit in
      let over = least_over_globals (length globals) asked least.0 least.1 in
      judged found asked least.0 c least.1
      (first_failure least.0 asked (λ one in_list. served_decided globals fit.globals_alone least.0 over one (fit.each one in_list)))

  pub has_verdict : Fits globals definition → HolesAreOfParameters definition.right
      → (verdict : Verdict) × HasVerdict devices globals definition verdict
  has_verdict fits holes = let o = is_checked devices globals definition fits in by_outcome fits holes o.0 o.1
