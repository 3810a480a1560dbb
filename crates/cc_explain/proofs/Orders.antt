-- The order of paths of one length: of two that differ one comes before the other. So there is one first shortest chain.
use Rattle.std.proofs.Common.{◌≡◌, ◌⊎◌, ℕ, suc, ◌≤◌, List, [], ◌∷◌, length, inl, inr, refl, sym, ap, subst, ◌∙◌, arith}
use Rattle.cc_explain.proofs.Targets.{compared}
use Rattle.cc_explain.specs.Chains.{LeadsAlong, LeadsBefore, IsChain, ComesBefore, IsFirstShortest}
use Rattle.cc_explain.specs.Entries.{Entries, targets_of}
use Rattle.cc_explain.specs.ChainLaws.{FirstChainsAreUnique}
use Rattle.cc_explain.specs.Paths.{IsFirstPath}
use Rattle.cc_explain.specs.declared.target.Target.{Target}
use Rattle.cc_explain.specs.declared.target.Target.TheVariants.{Definition}

-- two lists in order, one way or the other, or one list
abbrev pub InSomeOrder : Entries → Target → List Target → List Target → Type 0
InSomeOrder links from left right =
    (left ≡ right) ⊎ (LeadsBefore (targets_of links) from left right ⊎ LeadsBefore (targets_of links) from right left)

behind_one :
    (links : Entries) (from next other : Target) (left right : List Target)
    → next ≡ other → InSomeOrder links next left right → InSomeOrder links from (next ∷ left) (other ∷ right)
behind_one links from next other left right same (inl is) = inl (λ i. same i ∷ is i)
behind_one links from next other left right same (inr (inl before)) = inr (inl (inr (same, before)))
behind_one links from next other left right same (inr (inr before)) =
    inr (inr (inr (sym same, subst (λ t. LeadsBefore (targets_of links) t right left) same before)))

pub some_order :
    (links : Entries) (to from : Target) (left right : List Target)
    → LeadsAlong (targets_of links) from left to → LeadsAlong (targets_of links) from right to → length left ≡ length right
    → InSomeOrder links from left right
some_order links to from [] [] l r same = inl refl
some_order links to from [] (other ∷ right) l r same = absurd (omega arith)
some_order links to from (next ∷ left) [] l r same = absurd (omega arith)
some_order links to from (next ∷ left) (other ∷ right) l r same =
    elim (compared (targets_of links from) next other l.0 r.0) [
      | inl is ↦
          behind_one links from next other left right is
          (some_order links to next left right l.1 (subst (λ t. LeadsAlong (targets_of links) t right to) (sym is) r.1) (omega arith))
      | inr (inl before) ↦ inr (inl (inl before))
      | inr (inr before) ↦ inr (inr (inl before))
    ]

-- there is one first shortest path
pub one_path :
    (links : Entries) (to from : Target) (path other : List Target)
    → IsFirstPath links from to path → IsFirstPath links from to other → path ≡ other
one_path links to from path other p q =
    let low = p.shortest other q.leads in
    let high = q.shortest path p.leads in
    let same : length path ≡ length other = omega arith in
    elim (some_order links to from path other p.leads q.leads same) [
      | inl is ↦ is
      | inr (inl before) ↦ absurd (q.first path p.leads same before)
      | inr (inr before) ↦ absurd (p.first other q.leads (sym same) before)
    ]

-- a first shortest path makes a first shortest chain
others_length :
    (links : Entries) (from : ℕ) (to : Target) (path : List Target)
    → ((other : List Target) → LeadsAlong (targets_of links) (Definition from) other to → length path ≤ length other)
    → (chain : List Target) → IsChain (targets_of links) (Definition from) to chain → length (Definition from ∷ path) ≤ length chain
others_length links from to path shortest [] is = absurd is
others_length links from to path shortest (first ∷ others) (same, leads) =
    let low = shortest others (subst (λ t. LeadsAlong (targets_of links) t others to) same leads) in
    omega arith

others_order :
    (links : Entries) (from : ℕ) (to : Target) (path : List Target)
    → ((other : List Target) → LeadsAlong (targets_of links) (Definition from) other to → length other ≡ length path
    → LeadsBefore (targets_of links) (Definition from) other path
    → ⊥)
    → (chain : List Target) → IsChain (targets_of links) (Definition from) to chain → length chain ≡ length (Definition from ∷ path)
    → ComesBefore (targets_of links) chain (Definition from ∷ path)
    → ⊥
others_order links from to path first [] is same before = before
others_order links from to path first (other ∷ others) (begins, leads) same (is, before) =
    first others (subst (λ t. LeadsAlong (targets_of links) t others to) begins leads) (omega arith)
    (subst (λ t. LeadsBefore (targets_of links) t others path) begins before)

pub chain_from_path :
    (links : Entries) (from : ℕ) (to : Target) (path : List Target) → IsFirstPath links (Definition from) to path
    → IsFirstShortest (targets_of links) (Definition from) to (Definition from ∷ path)
chain_from_path links from to path is =
    record {
      leads = (refl, is.leads);
      shortest = others_length links from to path is.shortest;
      first = others_order links from to path is.first;
    }

path_shape :
    (links : Entries) (from : ℕ) (to : Target) (chain : List Target) → IsFirstShortest (targets_of links) (Definition from) to chain
    → (path : List Target) × (chain ≡ Definition from ∷ path) × IsFirstPath links (Definition from) to path
path_shape links from to [] is = absurd is.leads
path_shape links from to (first ∷ path) is =
    let same : first ≡ Definition from = is.leads.0 in
    let it : IsFirstShortest (targets_of links) (Definition from) to (Definition from ∷ path) =
    subst (λ t. IsFirstShortest (targets_of links) (Definition from) to (t ∷ path)) same is in (
      path,
      ap (λ t. t ∷ path) same,
      record {
        leads = it.leads.1;
        shortest = λ other leads.
            let low : length (Definition from ∷ path) ≤ length (Definition from ∷ other) =
            it.shortest (Definition from ∷ other) (refl, leads) in
            omega arith;
        first = λ other leads same before.
            it.first (Definition from ∷ other) (refl, leads) (ap suc same) (refl, before);
      },
    )

pub first_chains_are_unique : FirstChainsAreUnique
first_chains_are_unique links from to chain other p q =
    let (path, is, best) = path_shape links from to chain p in
    let (another, other_is, other_best) = path_shape links from to other q in
    is ∙ ap (λ it. Definition from ∷ it) (one_path links to (Definition from) path another best other_best) ∙ sym other_is
