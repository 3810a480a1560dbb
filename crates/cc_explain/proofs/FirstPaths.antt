-- How the first shortest path from a target comes from those of its targets.
use Rattle.std.proofs.Common.{◌≡◌, ◌⊎◌, zero, suc, ◌<◌, ◌≤◌, List, [], ◌∷◌, ◌++◌, length, inl, inr, refl, sym, ap, subst, arith}
use Rattle.std.specs.List.{Contains}
use Rattle.std.proofs.lemmas.List.Elements.{Contains-append_right, Contains-append_cases}
use Rattle.cc_explain.proofs.Targets.{in_front, in_none}
use Rattle.cc_explain.specs.Chains.{LeadsAlong, StandsBefore, LeadsBefore}
use Rattle.cc_explain.specs.Entries.{Entries, targets_of}
use Rattle.cc_explain.specs.Paths.{IsFirstPath}
use Rattle.cc_explain.specs.declared.target.Target.{Target}

pub in_head : (x : Target) (xs : List Target) → Contains (x ∷ xs) x
in_head x xs = (0, omega arith, refl)

pub in_tail : (x : Target) (xs : List Target) (target : Target) → Contains xs target → Contains (x ∷ xs) target
in_tail x xs target (k, below, is) = (suc k, omega arith, is)

pub head_or_tail :
    (x : Target) (xs : List Target) (target : Target) → Contains (x ∷ xs) target → (x ≡ target) ⊎ Contains xs target
head_or_tail x xs target (zero, below, is) = inl is
head_or_tail x xs target (suc k, below, is) = inr (k, omega arith, is)

-- from the target that is looked for
pub at_end : (links : Entries) (to : Target) → IsFirstPath links to to []
at_end links to =
    record {
      leads = refl;
      shortest = λ other leads. omega arith;
      first = none_before;
    }
  where
    none_before : (other : List Target) → LeadsAlong (targets_of links) to other to → length other ≡ length {A = Target} []
        → LeadsBefore (targets_of links) to other []
        → ⊥
    none_before [] leads same before = before
    none_before (next ∷ other) leads same before = before

-- What leads on from each of the targets in front of one is longer, and from those behind it no shorter.
pub record IsNearest (links : Entries) (to from next : Target) (path : List Target) : Type 0 where
  pub front : List Target
  pub behind : List Target
  pub stands : targets_of links from ≡ front ++ next ∷ behind
  pub path_is : IsFirstPath links next to path
  pub longer : (target : Target) → Contains front target → (other : List Target) → LeadsAlong (targets_of links) target other to
      → length path < length other
  pub as_long : (target : Target) → Contains behind target → (other : List Target) → LeadsAlong (targets_of links) target other to
      → length path ≤ length other

module _ (links : Entries) (to from next : Target) (path : List Target) (is : IsNearest links to from next path) where
  next_in : Contains (targets_of links from) next
  next_in =
      subst (λ entry. Contains entry next) (sym is.stands)
      (Contains-append_right is.front (next ∷ is.behind) next (in_head next is.behind))

  no_shorter :
      (target : Target) → Contains (targets_of links from) target → (other : List Target)
      → LeadsAlong (targets_of links) target other to → length path ≤ length other
  no_shorter target among other leads =
      elim (Contains-append_cases is.front (next ∷ is.behind) target (subst (λ entry. Contains entry target) is.stands among)) [
        | inl front ↦ let low = is.longer target front other leads in omega arith
        | inr rest ↦
            elim (head_or_tail next is.behind target rest) [
              | inl same ↦ is.path_is.shortest other (subst (λ t. LeadsAlong (targets_of links) t other to) (sym same) leads)
              | inr behind ↦ is.as_long target behind other leads
            ]
      ]

  each_as_long :
      (from ≡ to → ⊥) → (other : List Target) → LeadsAlong (targets_of links) from other to → length (next ∷ path) ≤ length other
  each_as_long differ [] leads = absurd (differ leads)
  each_as_long differ (target ∷ other) (among, leads) =
      let low = no_shorter target among other leads in omega arith

  none_before :
      (other : List Target) → LeadsAlong (targets_of links) from other to → length other ≡ length (next ∷ path)
      → LeadsBefore (targets_of links) from other (next ∷ path)
      → ⊥
  none_before [] leads same before = before
  none_before (target ∷ other) (among, leads) same (inl stands) =
      let front = in_front is.front next is.behind target (subst (λ entry. StandsBefore entry target next) is.stands stands) in
      let low = is.longer target front other leads in
      omega arith
  none_before (target ∷ other) (among, leads) same (inr (is_next, before)) =
      is.path_is.first other (subst (λ t. LeadsAlong (targets_of links) t other to) is_next leads) (omega arith)
      (subst (λ t. LeadsBefore (targets_of links) t other path) is_next before)

  pub path_through : (from ≡ to → ⊥) → IsFirstPath links from to (next ∷ path)
  path_through differ =
      record { leads = (next_in, is.path_is.leads); shortest = each_as_long differ; first = none_before }

-- what is left of a first shortest path is one
pub path_behind :
    (links : Entries) (to from next : Target) (path : List Target) → IsFirstPath links from to (next ∷ path)
    → IsFirstPath links next to path
path_behind links to from next path is =
    record {
      leads = is.leads.1;
      shortest = λ other leads.
          let low : length (next ∷ path) ≤ length (next ∷ other) = is.shortest (next ∷ other) (is.leads.0, leads) in
          omega arith;
      first = λ other leads same before.
          is.first (next ∷ other) (is.leads.0, leads) (ap suc same) (inr (refl, before));
    }

-- no path leads on from a target without targets, but to itself
pub no_path :
    (links : Entries) (to from : Target) → targets_of links from ≡ [] → (from ≡ to → ⊥)
    → (path : List Target) → LeadsAlong (targets_of links) from path to
    → ⊥
no_path links to from none differ [] leads = differ leads
no_path links to from none differ (next ∷ path) (among, leads) =
    in_none next (subst (λ entry. Contains entry next) none among)
