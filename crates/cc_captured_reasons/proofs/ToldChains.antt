-- Chains are told by their lines.
use Rattle.std.proofs.Common.{◌≡◌, ℕ, ◌+◌, ◌<◌, ◌≤◌, Bool, true, false, List, [], ◌∷◌, ◌++◌, length, drop, get_or, IsTrue, refl, sym, ap, subst, ◌∙◌, append_assoc, append-nil, arith}
use Rattle.std.proofs.lemmas.List.{at_drop_more, at_drop_all}
use Rattle.cc_capture.specs.declared.var.Elem.{Elem}
use Rattle.cc_capture.specs.Sets.{Set}
use Rattle.cc_core.specs.Contexts.{Context}
use Rattle.cc_core.specs.Occurrences.{HasNoHoleInSet}
use Rattle.cc_core.specs.Subcapturing.{Subcaptures}
use Rattle.cc_core.specs.WellFormed.{kinds_of, is_well_formed_element, IsWellFormedSet}
use Rattle.cc_mnf.specs.Scopes.{Name}
use Rattle.cc_core.proofs.SubcapturingContexts.{IsKindedContext-from}
use Rattle.cc_reasons.specs.ReasonTexts.{with_locals, AreBeyond, AreChainLines, no_more, at_end, leading, is_end, LeadsOn}
use Rattle.cc_reasons.specs.ShortestChains.{IsFirstShortestToEnd}
use Rattle.cc_reasons.proofs.ChainsToEnds.{listed_member, told_listed, links_in, links_lead}
use Rattle.cc_captured_reasons.specs.CapturedChains.{AreChains, no_chain, one_chain, chain_lines, CapturedIsTold}
use Rattle.cc_captured_reasons.specs.Nearness.{StandsIn}
use Rattle.cc_captured_reasons.proofs.NearEnds.{contained_listed}
use Rattle.cc_capture.specs.Sets.{contains}
use Rattle.cc_capture.proofs.Membership.{list_all-is_listed}

module _ (devices : ℕ) (names : List Name) (context : Context) (entry : Elem → List Elem) where
  one_told : (e : Elem) (chain : List Elem) (rest : List Elem) (chains : List (List Elem)) → IsFirstShortestToEnd entry (is_end devices) e chain
      → AreChainLines devices names context entry rest (chain_lines names context chains)
      → AreChainLines devices names context entry (e ∷ rest) (chain_lines names context (chain ∷ chains))
  one_told e [] rest chains it later = absurd it.leads
  one_told e (x ∷ []) rest chains it later =
      at_end (subst (λ (y : Elem). IsTrue (is_end devices y)) (sym it.leads.1 ∙ it.leads.0) it.ends) later
  one_told e (x ∷ next ∷ behind) rest chains it later =
      subst (λ (y : Elem). AreChainLines devices names context entry (e ∷ rest) (chain_lines names context ((y ∷ next ∷ behind) ∷ chains))) (sym it.leads.0)
      (leading (next ∷ behind) (by (is_end devices e) refl)
      (subst (λ (y : Elem). IsFirstShortestToEnd entry (is_end devices) e (y ∷ next ∷ behind)) it.leads.0 it) later)
    where
      by : (b : Bool) → is_end devices e ≡ b → b ≡ false
      by true is = absurd (let low = it.shortest (e ∷ []) e is (refl, refl) in omega arith)
      by false is = refl

  are_told : {captured : List Elem} {chains : List (List Elem)} → AreChains entry (is_end devices) captured chains
      → AreChainLines devices names context entry captured (chain_lines names context chains)
  are_told no_chain = no_more
  are_told (one_chain {e = e} {rest = rest} {chain = chain} {chains = chains} first more) = one_told e chain rest chains first (are_told more)

pub captured_is_told : CapturedIsTold
captured_is_told devices names scene left right captured chains formed beyond chained =
    let kinded = IsKindedContext-from scene.context formed in
    let entry = links_in devices scene.context right kinded in
    let leads = links_lead devices scene.context right kinded in (
      captured,
      entry,
      chain_lines (with_locals names scene.locals) scene.context chains,
      beyond,
      leads,
      are_told devices (with_locals names scene.locals) scene.context entry (chained entry leads),
      refl,
    )

-- Chains of the elements that are left, put behind those that were found, are chains of all.
abbrev pub Reaches : ℕ → Context → Set → List Elem → List (List Elem) → ℕ → Type 0
Reaches devices context right captured found index =
    (entry : Elem → List Elem) → LeadsOn devices context right entry → (rest : List (List Elem)) → AreChains entry (is_end devices) (drop index captured) rest
    → AreChains entry (is_end devices) captured (found ++ rest)

pub reaches_more : (devices : ℕ) (context : Context) (right : Set) (captured : List Elem) (found : List (List Elem)) (index : ℕ) (e : Elem) (chain : List Elem)
    → Reaches devices context right captured found index → index < length captured → e ≡ get_or captured index e
    → ((entry : Elem → List Elem) → LeadsOn devices context right entry → IsFirstShortestToEnd entry (is_end devices) e chain)
    → Reaches devices context right captured (found ++ chain ∷ []) (index + 1)
reaches_more devices context right captured found index e chain before low here first entry leads rest are =
    subst (AreChains entry (is_end devices) captured) (sym (append_assoc found (chain ∷ []) rest))
    (before entry leads (chain ∷ rest)
    (subst (λ (list : List Elem). AreChains entry (is_end devices) list (chain ∷ rest))
    (sym (at_drop_more (λ list. list) captured index e low ∙ ap (λ x. x ∷ drop (index + 1) captured) (sym here))) (one_chain (first entry leads) are)))

pub reaches_all : (devices : ℕ) (context : Context) (right : Set) (captured : List Elem) (found : List (List Elem)) (index : ℕ) → length captured ≤ index
    → Reaches devices context right captured found index → (entry : Elem → List Elem) → LeadsOn devices context right entry → AreChains entry (is_end devices) captured found
reaches_all devices context right captured found index past before entry leads =
    subst (AreChains entry (is_end devices) captured) (append-nil found)
    (before entry leads [] (subst (λ (list : List Elem). AreChains entry (is_end devices) list []) (sym (at_drop_all (λ list. list) captured index past)) no_chain))

-- what was captured stands in the context, and is not below
pub captured_stands : (context : Context) (left right : Set) (captured : List Elem) (index : ℕ) (e : Elem) → IsWellFormedSet context left → HasNoHoleInSet left
    → AreBeyond context right left.list captured → index < length captured → e ≡ get_or captured index e → StandsIn context e × (Subcaptures context e right → ⊥)
unfolding contains
captured_stands context left right captured index e formed closed are low here =
    let it = told_listed are e (contained_listed captured e (index, low, sym here)) in
    ((list_all-is_listed (is_well_formed_element (kinds_of context) []) left.list formed e it.0, closed e (listed_member e left it.0)), it.1)
